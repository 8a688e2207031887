use Rattle.tree_store.proofs.Givings.{rows_cached}
use Rattle.tree_store.proofs.caching.cache_rows.Goals as goal

pub returns : goal.returns
returns g c = rows_cached c.args.document.now _ c.args.shelves.now.items c.give_each.new.shelves.items _ _ _
    c.give_each.ensures.gives
