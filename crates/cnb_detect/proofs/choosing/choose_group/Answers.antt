use Rattle.std.proofs.lemmas.Result.{err_from_is_err_and}
use Rattle.steps.proofs.StepLemmas.{ended, went, within, within_spawners}
use Rattle.cnb_detect.specs.Detects.{chooses}
use Rattle.cnb_detect.proofs.choosing.choose_group.Goals as goal

pub returns-in_err-prepared-clause-steps : goal.returns-in_err-prepared-clause-steps
unfolding chooses
returns-in_err-prepared-clause-steps g c =
    let exit = err_from_is_err_and c.from_residual.result c.from_residual.ensures.1 in
    rw (exit.1, exit.2) (ended _ _ _ _ _ (within _ _ _ _ _ c.in_err-prepared.ensures.step))

pub returns-in_err-chosen-clause-steps : goal.returns-in_err-chosen-clause-steps
unfolding chooses
returns-in_err-chosen-clause-steps g c =
    let exit = err_from_is_err_and c.from_residual-in_err-chosen.result c.from_residual-in_err-chosen.ensures.1 in
    rw (exit.1, exit.2) (went _ _ _ _ _ _ _ (within _ _ _ _ _ c.in_ok-prepared.ensures.step)
    (within_spawners _ _ _ _ _ c.in_err-chosen.ensures.step))

pub returns-clause-steps : goal.returns-clause-steps
unfolding chooses
returns-clause-steps g c =
    went _ _ _ _ _ _ _ (within _ _ _ _ _ c.in_ok-prepared.ensures.step)
    (within_spawners _ _ _ _ _ c.in_ok-chosen.ensures.step)
