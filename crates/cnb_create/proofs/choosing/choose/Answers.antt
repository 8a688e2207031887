use Rattle.std.proofs.lemmas.Result.{err_from_is_err_and}
use Rattle.steps.proofs.StepLemmas.{ended, mapped, mapped_fault, went, within, yielded}
use Rattle.cnb_detect.specs.Choice.{choice_in}
use Rattle.cnb_detect.specs.declared.refusal.DetectRefusal.{DetectRefusal}
use Rattle.cnb_create.specs.Creates.{chooses_group}
use Rattle.cnb_create.specs.declared.refusal.CreateRefusal.TheVariants.{Detect}
use Rattle.cnb_create.proofs.choosing.choose.Goals as goal

pub returns-in_err-chosen-clause-steps : goal.returns-in_err-chosen-clause-steps
unfolding chooses_group
returns-in_err-chosen-clause-steps g c =
    let exit = err_from_is_err_and c.from_residual.result c.from_residual.ensures.1 in
    rw (exit.1, exit.2) (mapped_fault Detect _ _ _ _ (ended _ _ _ _ _ c.in_err-chosen.ensures.steps))

pub returns-in_err-write_choice-clause-steps : goal.returns-in_err-write_choice-clause-steps
unfolding chooses_group
returns-in_err-write_choice-clause-steps g c =
    let exit = err_from_is_err_and c.from_residual-in_err-write_choice.result
    c.from_residual-in_err-write_choice.ensures.1 in
    rw (exit.1, exit.2) (mapped_fault Detect _ _ _ _
    (went _ _ _ _ _ (choice_in c.in_ok-chosen.chosen) _ c.in_ok-chosen.ensures.steps
    (ended _ _ _ _ _ (within _ _ _ _ _ c.in_err-write_choice.ensures.step))))

pub returns-clause-steps : goal.returns-clause-steps
unfolding chooses_group
returns-clause-steps g c =
    mapped Detect _ _ _ _ (went _ _ _ _ _ (choice_in c.in_ok-chosen.chosen) _ c.in_ok-chosen.ensures.steps
    (went _ _ _ _ _ _ _ (within _ _ _ _ _ c.in_ok-write_choice.ensures.step) (yielded DetectRefusal _ _)))
