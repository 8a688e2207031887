use Rattle.std.proofs.Common.{length}
use Rattle.cnb_world.proofs.memory.effect.+play_effect.Given as goal

abbrev pub decreases-play_effect : goal.decreases-play_effect
decreases-play_effect l = length l.leaves.now
