use Rattle.std.proofs.Common.{◌≡◌, drop}
use Rattle.detect_record.specs.Record.{left_after}
use Rattle.detect_record.proofs.dropping.follow.Given as goal

abbrev pub invariant-loop-step : goal.invariant-loop-step
invariant-loop-step l = left_after l.trial l.initial.left.items l.steps
    ≡ left_after l.trial l.left.items (drop l.step-index l.steps)
