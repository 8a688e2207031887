use Rattle.std.proofs.lemmas.Result.{err_from_is_err_and}
use Rattle.steps.proofs.StepLemmas.{ended, went}
use Rattle.cnb_export.specs.Exports.{gains, gains_over}
use Rattle.cnb_layers.proofs.ReadSteps.{same_for}
use Rattle.cnb_export.proofs.exporting.gain.Goals as goal

pub returns-in_err-run-clause-step : goal.returns-in_err-run-clause-step
unfolding gains
returns-in_err-run-clause-step g c =
    let exit = err_from_is_err_and c.from_residual.result c.from_residual.ensures.1 in
    rw (exit.1, exit.2) (ended _ _ _ _ _ c.in_err-run.ensures.step)

pub returns-in_err-previous-clause-step : goal.returns-in_err-previous-clause-step
unfolding gains
returns-in_err-previous-clause-step g c =
    let exit = err_from_is_err_and c.from_residual-in_err-previous.result c.from_residual-in_err-previous.ensures.1 in
    rw (exit.1, exit.2) (went _ _ _ _ _ _ _ c.in_ok-run.ensures.step (ended _ _ _ _ _ c.in_err-previous.ensures.step))

pub returns-clause-step : goal.returns-clause-step
unfolding gains gains_over
returns-clause-step g c =
    went _ _ _ _ _ _ _ c.in_ok-run.ensures.step (went _ _ _ _ _ _ _ c.in_ok-previous.ensures.step
    (same_for (gains_over c.args.frame.now c.args.group.now c.args.analyzed.now.run c.in_ok-run.run') _ _ _ _
    _ c.as_slice.ensures c.gain_over.ensures.step))
