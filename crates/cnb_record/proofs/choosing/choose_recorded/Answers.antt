use Rattle.std.proofs.lemmas.Result.{err_from_is_err_and}
use Rattle.steps.proofs.StepLemmas.{ended, went, within}
use Rattle.cnb_record.specs.Choosing.{chooses_recorded}
use Rattle.cnb_record.proofs.choosing.choose_recorded.Goals as goal

pub returns-in_err-prepared-clause-steps : goal.returns-in_err-prepared-clause-steps
unfolding chooses_recorded
returns-in_err-prepared-clause-steps g c =
    let exit = err_from_is_err_and c.from_residual.result c.from_residual.ensures.1 in
    rw (exit.1, exit.2) (ended _ _ _ _ _ (within _ _ _ _ _ c.in_err-prepared.ensures.step))

pub returns-clause-steps : goal.returns-clause-steps
unfolding chooses_recorded
returns-clause-steps g c = went _ _ _ _ _ _ _ (within _ _ _ _ _ c.in_ok-prepared.ensures.step) (c.find.ensures.steps _)
