use Rattle.std.proofs.lemmas.Result.{err_from_is_err_and}
use Rattle.steps.proofs.StepLemmas.{ended, mapped, mapped_fault, went, yielded}
use Rattle.cnb_layers.specs.declared.fault.ExportFault.{ExportFault}
use Rattle.cnb_layers.specs.Refusals.{of_image_fault}
use Rattle.cnb_export.specs.Images.{reads_layers}
use Rattle.cnb_export.proofs.images.read_layers.Goals as goal

pub returns-in_err-image : goal.returns-in_err-image
unfolding reads_layers
returns-in_err-image g c =
    let exit = err_from_is_err_and c.from_residual.result c.from_residual.ensures.1 in
    rw (exit.1, exit.2) (record {
      step = ended _ _ _ _ _
          (mapped_fault of_image_fault _ _ _ c.in_err-image.field-0.0 c.in_err-image.ensures.step);
    })

pub returns : goal.returns
unfolding reads_layers
returns g c =
    record {
      step = went _ _ _ _ _ _ _ (mapped of_image_fault _ _ _ _ c.in_ok-image.ensures.step)
          (yielded ExportFault _ _);
    }
