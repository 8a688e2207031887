use Rattle.plan_resolve.proofs.ChoiceLemmas.{IsChoosing}
use Rattle.plan_resolve.proofs.choosing.chosen_trial.Given as goal

abbrev pub invariant-loop-row : goal.invariant-loop-row
invariant-loop-row l = IsChoosing l.rows l.number l.row-index l.later l.left l.out.items
