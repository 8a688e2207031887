use Rattle.std.proofs.lemmas.Result.{err_from_is_err_and}
use Rattle.steps.proofs.StepLemmas.{mapped, mapped_fault}
use Rattle.cnb_layers.specs.Refusals.{of_image_fault}
use Rattle.cnb_export.proofs.command.save_image.Goals as goal

pub returns-in_err-save_image : goal.returns-in_err-save_image
returns-in_err-save_image g c =
    let exit = err_from_is_err_and c.from_residual.result c.from_residual.ensures.1 in
    rw (exit.1, exit.2) (record {
      step = mapped_fault of_image_fault _ _ _ c.in_err-save_image.field-0.0
          c.in_err-save_image.ensures.step;
    })

pub returns : goal.returns
returns g c =
    record { step = mapped of_image_fault _ _ _ _ c.in_ok-save_image.ensures.step }
