use Rattle.std.proofs.Common.{◌≡◌, drop}
use Rattle.detect_record.specs.Canonical.{first_step_of}
use Rattle.detect_record.proofs.trial_line.first_step.Given as goal

abbrev pub invariant-loop-place : goal.invariant-loop-place
invariant-loop-place l = first_step_of l.trial l.left l.left ≡ first_step_of l.trial l.left (drop l.place-index l.left)
