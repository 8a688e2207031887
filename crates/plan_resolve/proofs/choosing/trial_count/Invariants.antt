use Rattle.std.proofs.Common.{◌≡◌, ◌≤◌, take}
use Rattle.plan_resolve.specs.Choices.{choice_count}
use Rattle.plan_resolve.proofs.choosing.trial_count.Given as goal

abbrev pub invariant-loop-row : goal.invariant-loop-row
invariant-loop-row l = (l.count ≤ 65536) × (l.count ≡ choice_count (take l.row-index l.rows))
