use Rattle.std.proofs.Common.{length}
use Rattle.cnb_world.proofs.memory.change.+items_len.Given as goal

abbrev pub decreases-items_len : goal.decreases-items_len
decreases-items_len l = length l.items.now
