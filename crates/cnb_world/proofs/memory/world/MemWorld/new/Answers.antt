use Rattle.cnb_world.proofs.Standing.{nothing_stands_yet}
use Rattle.cnb_world.proofs.memory.world.MemWorld.new.Goals as goal

pub invariant_of-result : goal.invariant_of-result
invariant_of-result c = record {
  standing = c.in_ok-place_all.ensures.standing
      (nothing_stands_yet c.new-changes.result.list.items c.new-changes.ensures);
}
