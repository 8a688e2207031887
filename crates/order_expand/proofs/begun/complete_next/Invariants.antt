use Rattle.std.proofs.Common.{◌≡◌}
use Rattle.order_expand.specs.Begun.{groups_left}
use Rattle.order_expand.specs.Steps.{steps_left}
use Rattle.order_expand.proofs.begun.complete_next.Given as goal

-- no step changes the groups that are left
abbrev pub invariant-steps : goal.invariant-steps
invariant-steps l = groups_left l.catalog l.current l.waiting.items
    ≡ groups_left l.catalog l.initial.current l.initial.waiting.items

abbrev pub decreases-steps : goal.decreases-steps
decreases-steps l = steps_left l.catalog l.current l.waiting.items
