use Rattle.std.proofs.Common.{◌≡◌}
use Rattle.plan_resolve.specs.Trials.{numbers_below}
use Rattle.plan_resolve.proofs.pruning.numbers_below.Given as goal

abbrev pub invariant-loop-number : goal.invariant-loop-number
invariant-loop-number l = l.numbers.items ≡ numbers_below l.number
