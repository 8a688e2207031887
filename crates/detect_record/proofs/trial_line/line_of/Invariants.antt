use Rattle.std.proofs.Common.{length}
use Rattle.detect_record.proofs.MakingLemmas.{IsMade}
use Rattle.detect_record.proofs.trial_line.line_of.Given as goal

abbrev pub invariant-loop-steps : goal.invariant-loop-steps
invariant-loop-steps l = IsMade l.trial l.steps l.left.items

abbrev pub decreases-loop-steps : goal.decreases-loop-steps
decreases-loop-steps l = length l.left.items
