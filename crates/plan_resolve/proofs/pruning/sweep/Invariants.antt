use Rattle.std.proofs.Common.{◌≡◌, ◌≤◌, true, drop, length}
use Rattle.std.specs.List.{list_all}
use Rattle.plan_resolve.specs.Trials.{holds}
use Rattle.plan_resolve.specs.Pruning.{IsOnTheWay}
use Rattle.plan_resolve.proofs.pruning.sweep.Given as goal

abbrev pub invariant-loop-index : goal.invariant-loop-index
invariant-loop-index l = record {
  way : IsOnTheWay l.trial l.set.items;
  within : l.index ≤ length l.set.items;
  fewer : length l.set.items ≤ l.all;
  closed : length l.set.items ≡ l.all → list_all (holds l.trial l.set.items) (drop l.index l.set.items) ≡ true;
}

abbrev pub decreases-loop-index : goal.decreases-loop-index
decreases-loop-index l = l.index
