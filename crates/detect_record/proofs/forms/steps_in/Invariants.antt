use Rattle.std.proofs.Common.{◌≡◌, length}
use Rattle.detect_record.specs.Forms.{steps_in}
use Rattle.detect_record.proofs.StepLemmas.{onto_steps}
use Rattle.detect_record.proofs.forms.steps_in.Given as goal

abbrev pub invariant-loop-text : goal.invariant-loop-text
invariant-loop-text l = steps_in l.fn.text ≡ onto_steps l.steps (steps_in l.left)

abbrev pub decreases-loop-text : goal.decreases-loop-text
decreases-loop-text l = length l.left
