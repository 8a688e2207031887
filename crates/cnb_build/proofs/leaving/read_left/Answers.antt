use Rattle.std.proofs.lemmas.Result.{err_from_is_err_and}
use Rattle.steps.proofs.StepLemmas.{ended, went}
use Rattle.cnb_build.specs.Builds.{reads_left}
use Rattle.cnb_build.proofs.leaving.read_left.Goals as goal

pub returns-in_err-_launch-clause-step : goal.returns-in_err-_launch-clause-step
unfolding reads_left
returns-in_err-_launch-clause-step g c =
    let exit = err_from_is_err_and c.from_residual.result c.from_residual.ensures.1 in
    rw (exit.1, exit.2) (ended _ _ _ _ _ c.in_err-_launch.ensures.step)

pub returns-in_err-_store-clause-step : goal.returns-in_err-_store-clause-step
unfolding reads_left
returns-in_err-_store-clause-step g c =
    let exit = err_from_is_err_and c.from_residual-in_err-_store.result c.from_residual-in_err-_store.ensures.1 in
    rw (exit.1, exit.2) (went _ _ _ _ _ _ _ c.in_ok-_launch.ensures.step (ended _ _ _ _ _ c.in_err-_store.ensures.step))

pub returns-clause-step : goal.returns-clause-step
unfolding reads_left
returns-clause-step g c = went _ _ _ _ _ _ _ c.in_ok-_launch.ensures.step
    (went _ _ _ _ _ _ _ c.in_ok-_store.ensures.step c.read_layers.ensures.step)
