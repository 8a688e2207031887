use Rattle.std.proofs.Common.{◌≡◌, ap, refl, subst, sym, true, List, Ok, Result}
use Rattle.std.proofs.lemmas.Result.{err_from_is_err_and}
use Rattle.steps.proofs.StepLemmas.{ended, given, mapped, mapped_fault, no_memory, went, yielded}
use Rattle.shelf_set.proofs.CacheLemmas.{within}
use Rattle.cnb_export.proofs.CommandLaws.{saved_readable}
use Rattle.cnb_export.specs.declared.exported.Exported.{Exported}
use Rattle.cnb_layers.specs.declared.fault.ExportFault.{ExportFault}
use Rattle.cnb_words.specs.declared.create.CreateWords.{CreateWords}
use Rattle.image_docs.specs.declared.analyzed.Analyzed.{Analyzed}
use Rattle.run_docs.specs.Group.{is_group_doc}
use Rattle.run_docs.specs.declared.group.GroupRow.{GroupRow}
use Rattle.shelf_set.specs.Caches.{WorldAndCaches}
use Rattle.cnb_create.specs.Creates.{exports_image, leaves_image}
use Rattle.cnb_create.specs.declared.refusal.CreateRefusal.{CreateRefusal}
use Rattle.cnb_create.specs.declared.refusal.CreateRefusal.TheVariants.{Export, Memory}
use Rattle.cnb_create.proofs.exporting.leave_image.Goals as goal

-- where no buildpack of the group stands twice, the caches' documents read as their rows
exported_readable : (words : CreateWords) (analyzed : Analyzed) (group : List GroupRow) (old : WorldAndCaches)
    (result : Result Exported ExportFault) (new : WorldAndCaches) → is_group_doc group ≡ true
    → exports_image (is_group_doc group) words analyzed group old result new
    → exports_image true words analyzed group old result new
exported_readable words analyzed group old result new distinct h = subst
    (λ readable. exports_image readable words analyzed group old result new) distinct h

pub returns-in_err-exported : goal.returns-in_err-exported
unfolding leaves_image
returns-in_err-exported g c =
    let exit = err_from_is_err_and c.from_residual.result c.from_residual.ensures.1 in
    rw (exit.1, exit.2) (record {
      steps = ended _ _ _ _ _
          (mapped_fault Export _ _ _ _ (exported_readable _ _ _ _ _ _ c.requires.group
          c.in_err-exported.ensures.steps));
    })

pub returns-in_err-text : goal.returns-in_err-text
unfolding leaves_image
returns-in_err-text g c =
    let exit = err_from_is_err_and c.from_residual-in_err-text.result c.from_residual-in_err-text.ensures.1 in
    rw (exit.1, exit.2) (record {
      steps = went _ _ _ _ _ _ _
          (mapped Export _ _ _ _ (exported_readable _ _ _ _ _ _ c.requires.group c.in_ok-exported.ensures.steps))
          (ended _ _ _ _ _ (no_memory _ _ _ Memory refl));
    })

pub returns-in_err-save_image : goal.returns-in_err-save_image
unfolding leaves_image
returns-in_err-save_image g c =
    let exit = err_from_is_err_and c.from_residual-in_err-save_image.result
    c.from_residual-in_err-save_image.ensures.1 in
    rw (exit.1, exit.2) (record {
      steps = went _ _ _ _ _ _ _
          (mapped Export _ _ _ _ (exported_readable _ _ _ _ _ _ c.requires.group c.in_ok-exported.ensures.steps))
          (went _ _ _ _ _ _ _ (given _ _ _ _ (ap Ok (sym c.in_ok-text.ensures)))
          (ended _ _ _ _ _ (within _ _ _ _ _ (mapped_fault Export _ _ _ _
          (saved_readable _ _ _ _ _ _ (c.in_ok-exported.ensures.readable c.requires.group)
          c.in_err-save_image.ensures.step)))));
    })

pub returns : goal.returns
unfolding leaves_image
returns g c =
    record {
      steps = went _ _ _ _ _ _ _ (mapped Export _ _ _ _
          (exported_readable _ _ _ _ _ _ c.requires.group c.in_ok-exported.ensures.steps))
          (went _ _ _ _ _ _ _ (given _ _ _ _ (ap Ok (sym c.in_ok-text.ensures)))
          (went _ _ _ _ _ _ _ (within _ _ _ _ _ (mapped Export _ _ _ _
          (saved_readable _ _ _ _ _ _ (c.in_ok-exported.ensures.readable c.requires.group)
          c.in_ok-save_image.ensures.step))) (yielded CreateRefusal _ _)));
    }
