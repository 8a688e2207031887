use Rattle.std.proofs.lemmas.Result.{err_from_is_err_and}
use Rattle.steps.proofs.StepLemmas.{ended, went}
use Rattle.cnb_build.specs.Builds.{builds_at}
use Rattle.cnb_build.proofs.one.build_at.Goals as goal

pub returns-in_err-clear_env-clause-step : goal.returns-in_err-clear_env-clause-step
unfolding builds_at
returns-in_err-clear_env-clause-step g c =
    let exit = err_from_is_err_and c.from_residual.result c.from_residual.ensures.1 in
    rw (exit.1, exit.2) (ended _ _ _ _ _ c.in_err-clear_env.ensures.step)

pub returns-in_err-run_build-clause-step : goal.returns-in_err-run_build-clause-step
unfolding builds_at
returns-in_err-run_build-clause-step g c =
    let exit = err_from_is_err_and c.from_residual-in_err-run_build.result c.from_residual-in_err-run_build.ensures.1 in
    rw (exit.1, exit.2) (went _ _ _ _ _ _ _ c.in_ok-clear_env.ensures.step
    (ended _ _ _ _ _ c.in_err-run_build.ensures.step))

pub returns-clause-step : goal.returns-clause-step
unfolding builds_at
returns-clause-step g c = went _ _ _ _ _ _ _ c.in_ok-clear_env.ensures.step
    (went _ _ _ _ _ _ _ c.in_ok-run_build.ensures.step c.end_build.ensures.step)
