use Rattle.std.proofs.lemmas.Result.{err_from_is_err_and}
use Rattle.steps.proofs.StepLemmas.{ended, mapped, mapped_fault, went, yielded}
use Rattle.cnb_layers.specs.declared.fault.ExportFault.{ExportFault}
use Rattle.cnb_layers.specs.declared.fault.ExportFault.TheVariants.{Store}
use Rattle.cnb_layers.specs.Layer.{digests_contents}
use Rattle.cnb_layers.proofs.layer.digest_contents.Goals as goal

pub returns-in_err-digest : goal.returns-in_err-digest
unfolding digests_contents
returns-in_err-digest g c =
    let exit = err_from_is_err_and c.from_residual.result c.from_residual.ensures.1 in
    rw (exit.1, exit.2) (record {
      step = ended _ _ _ _ _
          (mapped_fault Store _ _ _ c.in_err-digest.field-0.0 c.in_err-digest.ensures.steps);
    })

pub returns : goal.returns
unfolding digests_contents
returns g c = record {
  step = went _ _ _ _ _ _ _ (mapped Store _ _ _ _ c.in_ok-digest.ensures.steps)
      (yielded ExportFault _ _);
}
