use Rattle.std.proofs.Common.{◌≡◌, ◌-◌, drop}
use Rattle.plan_resolve.specs.Choices.{choices_of}
use Rattle.plan_resolve.specs.Resolution.{first_passing}
use Rattle.plan_resolve.proofs.resolution.first_passing.Given as goal

abbrev pub invariant-loop-number : goal.invariant-loop-number
invariant-loop-number l = first_passing l.rows 0 (choices_of l.rows)
    ≡ first_passing l.rows l.number (drop l.number (choices_of l.rows))

abbrev pub decreases-loop-number : goal.decreases-loop-number
decreases-loop-number l = l.trials - l.number
