use Rattle.std.proofs.Common.{length}
use Rattle.tree_store.proofs.laying.+lay_under.Given as goal

abbrev pub decreases-lay_under : goal.decreases-lay_under
decreases-lay_under g l = length l.way.now
