use Rattle.tree_store.proofs.Shelves.{replaced}
use Rattle.tree_store.proofs.receivers.give_numbered.Goals as goal

pub returns : goal.returns
returns g c = (
  _,
  _,
  replaced _ c.args.shelves.now.items c.args.number c.index_mut.result.now _ c.requires c.index_mut.ensures.value,
  c.give.ensures,
)
