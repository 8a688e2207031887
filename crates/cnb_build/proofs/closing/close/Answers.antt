use Rattle.std.proofs.lemmas.Result.{err_from_is_err_and}
use Rattle.steps.proofs.StepLemmas.{answered, ended, went}
use Rattle.cnb_build.specs.Builds.{closes}
use Rattle.cnb_build.proofs.closing.close.Goals as goal

pub returns-in_err-unmet-clause-step : goal.returns-in_err-unmet-clause-step
unfolding closes
returns-in_err-unmet-clause-step g c =
    let exit = err_from_is_err_and c.from_residual.result c.from_residual.ensures.1 in
    rw (exit.1, exit.2) (ended _ _ _ _ _ c.in_err-unmet.ensures.step)

pub returns-clause-step : goal.returns-clause-step
unfolding closes
returns-clause-step g c = went _ _ _ _ _ _ _ c.in_ok-unmet.ensures.step
    (answered _ _ _ _ c.pending_after.ensures.answer c.pending_after.ensures.cause)
