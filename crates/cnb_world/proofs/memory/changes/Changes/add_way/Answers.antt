use Rattle.cnb_world.specs.Memory.{tree_of}
use Rattle.cnb_world.specs.Tree.{folders_above}
use Rattle.cnb_world.proofs.ListingLemmas.{adds_last}
use Rattle.cnb_world.proofs.memory.changes.Changes.add_way.Goals as goal

pub returns-clause-adds : goal.returns-clause-adds
returns-clause-adds c = adds_last (tree_of c.args.self.now.list.items) c.args.folder.now c.args.path.now
    (folders_above c.args.path.now) c.args.names.now.items c.add_above.new.names.items
    c.add_standing.new.names.items c.in_ok-add_above.ensures.adds c.in_ok-add_standing.ensures.adds
