use Rattle.std.proofs.lemmas.Result.{err_from_is_err_and}
use Rattle.steps.proofs.StepLemmas.{mapped, mapped_fault}
use Rattle.cnb_layers.specs.Refusals.{of_image_fault}
use Rattle.cnb_export.proofs.images.read_run_image.Goals as goal

pub returns-in_err-run-clause-step : goal.returns-in_err-run-clause-step
returns-in_err-run-clause-step g c =
    let exit = err_from_is_err_and c.from_residual.result c.from_residual.ensures.1 in
    rw (exit.1, exit.2) ((mapped_fault of_image_fault _ _ _ c.in_err-run.field-0.0 c.in_err-run.ensures.step))

pub returns-clause-step : goal.returns-clause-step
returns-clause-step g c =
    (mapped of_image_fault _ _ _ _ c.in_ok-run.ensures.step)
