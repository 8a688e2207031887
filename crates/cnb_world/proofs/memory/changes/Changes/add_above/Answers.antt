use Rattle.std.proofs.Common.{arith}
use Rattle.cnb_world.specs.Memory.{tree_of}
use Rattle.cnb_world.proofs.ListingLemmas.{way_ends}
use Rattle.cnb_world.proofs.memory.changes.Changes.add_above.Goals as goal

pub loop-place-preserved : goal.loop-place-preserved
loop-place-preserved c = record {
  names = λ all. c.in_ok-add_at.ensures.names (c.loop-place.invariant.names all);
  adds = λ all later. c.loop-place.invariant.adds all (c.in_ok-add_at.ensures.adds all later);
}

pub returns-clause-adds : goal.returns-clause-adds
returns-clause-adds c = c.loop-place.invariant.adds _
    (way_ends (tree_of c.args.self.now.list.items) c.args.folder.now c.args.path.now c.loop-place.place
    c.loop-place.names.items (omega arith))
