use Rattle.std.proofs.Common.{length}
use Rattle.plan_resolve.specs.Pruning.{IsOnTheWay}
use Rattle.plan_resolve.proofs.pruning.kept_places.Given as goal

abbrev pub invariant-rounds : goal.invariant-rounds
invariant-rounds l = IsOnTheWay l.trial l.set.items

abbrev pub decreases-rounds : goal.decreases-rounds
decreases-rounds l = length l.set.items
