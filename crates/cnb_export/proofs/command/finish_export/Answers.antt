use Rattle.std.proofs.Common.{ap, refl, sym, Ok}
use Rattle.std.proofs.lemmas.Result.{err_from_is_err_and}
use Rattle.steps.proofs.StepLemmas.{ended, given, mapped, mapped_fault, no_memory, went, yielded}
use Rattle.tree_store.specs.declared.fault.StoreFault.TheVariants as stored
use Rattle.shelf_set.proofs.CacheLemmas.{within}
use Rattle.cnb_layers.specs.declared.fault.ExportFault.TheVariants.{Store}
use Rattle.cnb_export.specs.declared.refusal.ExportRefusal.{ExportRefusal}
use Rattle.cnb_export.specs.declared.refusal.ExportRefusal.TheVariants.{Fault}
use Rattle.cnb_export.specs.Command.{finishes_export}
use Rattle.cnb_export.proofs.CommandLaws.{saved_readable}
use Rattle.cnb_export.proofs.command.finish_export.Goals as goal

pub returns-in_err-text : goal.returns-in_err-text
unfolding finishes_export
returns-in_err-text g c =
    let exit = err_from_is_err_and c.from_residual.result c.from_residual.ensures.1 in
    rw (exit.1, exit.2) (record {
      steps = λ caches. ended _ _ _ _ _
          (no_memory _ _ _ (Fault (Store stored.Memory)) refl);
    })

pub returns-in_err-save_image : goal.returns-in_err-save_image
unfolding finishes_export
returns-in_err-save_image g c =
    let exit = err_from_is_err_and c.from_residual-in_err-save_image.result
    c.from_residual-in_err-save_image.ensures.1 in
    rw (exit.1, exit.2) (record {
      steps = λ caches. went _ _ _ _ _ _ _
          (given _ _ _ _ (ap Ok (sym c.in_ok-text.ensures)))
          (ended _ _ _ _ _ (within _ _ _ _ _ (mapped_fault Fault _ _ _ c.in_err-save_image.field-0.0
          (saved_readable _ _ _ _ _ _ c.requires.readable c.in_err-save_image.ensures.step))));
    })

pub returns : goal.returns
unfolding finishes_export
returns g c =
    record {
      steps = λ caches. went _ _ _ _ _ _ _ (given _ _ _ _ (ap Ok (sym c.in_ok-text.ensures)))
          (went _ _ _ _ _ _ _ (within _ _ _ _ _ (mapped Fault _ _ _ _
          (saved_readable _ _ _ _ _ _ c.requires.readable c.in_ok-save_image.ensures.step)))
          (yielded ExportRefusal _ _));
    }
