use Rattle.std.proofs.lemmas.Result.{err_from_is_err_and}
use Rattle.steps.proofs.StepLemmas.{ended, mapped, mapped_fault, went}
use Rattle.cnb_export.specs.declared.refusal.ExportRefusal.TheVariants.{Fault}
use Rattle.cnb_export.specs.Command.{exports_given}
use Rattle.cnb_export.proofs.CommandLaws.{exports_readable}
use Rattle.cnb_export.proofs.command.export_given.Goals as goal

pub returns-in_err-exported : goal.returns-in_err-exported
unfolding exports_given
returns-in_err-exported g c =
    let exit = err_from_is_err_and c.from_residual.result c.from_residual.ensures.1 in
    rw (exit.1, exit.2) (record {
      steps = ended _ _ _ _ _
          (mapped_fault Fault _ _ _ c.in_err-exported.field-0.0
          (exports_readable _ _ _ _ _ _ c.requires.group c.in_err-exported.ensures.steps));
    })

pub finish_export-requires-clause-readable : goal.finish_export-requires-clause-readable
finish_export-requires-clause-readable g c = c.in_ok-exported.ensures.readable c.requires.group

pub returns : goal.returns
unfolding exports_given
returns g c =
    record {
      steps = went _ _ _ _ _ _ _ (mapped Fault _ _ _ _
          (exports_readable _ _ _ _ _ _ c.requires.group c.in_ok-exported.ensures.steps))
          (c.finish_export.ensures.steps _);
    }
