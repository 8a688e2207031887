use Rattle.std.proofs.Common.{length}
use Rattle.cnb_world.proofs.memory.shelf.+bytes_under.Given as goal

abbrev pub decreases-bytes_under : goal.decreases-bytes_under
decreases-bytes_under l = length l.puts.now
