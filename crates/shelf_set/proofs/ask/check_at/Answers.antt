use Rattle.tree_store.proofs.Shelves.{replaced}
use Rattle.shelf_set.proofs.ask.check_at.Goals as goal

pub returns : goal.returns
returns g c = let (asked, checked, asks) = c.check.ensures in (
  _,
  _,
  replaced _ c.args.shelves.now.items c.args.at c.index_mut.result.now _ c.requires
      c.index_mut.ensures.value,
  asked,
  checked,
  asks,
)
