use Rattle.std.proofs.Common.{length}
use Rattle.cnb_world.proofs.memory.changes.Changes.+add_ways.Given as goal

abbrev pub decreases-add_ways : goal.decreases-add_ways
decreases-add_ways l = length l.items.now
