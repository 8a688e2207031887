use Rattle.std.proofs.Common.{length}
use Rattle.tree_store.proofs.laying_kept.+lay_kept_under.Given as goal

abbrev pub decreases-lay_kept_under : goal.decreases-lay_kept_under
decreases-lay_kept_under g l = length l.way.now
