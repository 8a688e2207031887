use Rattle.std.proofs.lemmas.Result.{err_from_is_err_and}
use Rattle.steps.proofs.StepLemmas.{answered, ended, went}
use Rattle.cnb_build.specs.Given.{reads_needed}
use Rattle.cnb_build.proofs.given.read_plan_at.Goals as goal

pub returns-in_err-found-clause-step : goal.returns-in_err-found-clause-step
unfolding reads_needed
returns-in_err-found-clause-step g c =
    let exit = err_from_is_err_and c.from_residual.result c.from_residual.ensures.1 in
    rw (exit.1, exit.2) (ended _ _ _ _ _ c.in_err-found.ensures.step)

pub returns-clause-step : goal.returns-clause-step
unfolding reads_needed
returns-clause-step g c = went _ _ _ _ _ _ _ c.in_ok-found.ensures.step
    (answered _ _ _ _ c.plan_of.ensures.answer c.plan_of.ensures.cause)
