use Rattle.std.proofs.Common.{ap, Some}
use Rattle.std.proofs.lemmas.Result.{err_from_is_err_and}
use Rattle.steps.proofs.StepLemmas.{ended, mapped, mapped_fault, went, yielded}
use Rattle.cnb_restore.proofs.ReadLemmas.{analyzes_as}
use Rattle.cnb_restore.specs.declared.fault.RestoreFault.{RestoreFault}
use Rattle.cnb_create.specs.Creates.{looks_at_images}
use Rattle.cnb_create.specs.declared.refusal.CreateRefusal.TheVariants.{Restore}
use Rattle.cnb_create.proofs.images.look_at_images.Goals as goal

pub returns-in_err-analyzed-clause-steps : goal.returns-in_err-analyzed-clause-steps
unfolding looks_at_images
returns-in_err-analyzed-clause-steps g c =
    let exit = err_from_is_err_and c.from_residual.result c.from_residual.ensures.1 in
    rw (exit.1, exit.2) (mapped_fault Restore _ _ _ _
    (ended _ _ _ _ _ (analyzes_as _ _ _ _ _ _ _ (ap Some c.previous_name-previous.ensures)
    c.in_err-analyzed.ensures.steps)))

pub returns-in_err-write_analyzed_document-clause-steps : goal.returns-in_err-write_analyzed_document-clause-steps
unfolding looks_at_images
returns-in_err-write_analyzed_document-clause-steps g c =
    let exit = err_from_is_err_and c.from_residual-in_err-write_analyzed_document.result
    c.from_residual-in_err-write_analyzed_document.ensures.1 in
    rw (exit.1, exit.2) (mapped_fault Restore _ _ _ _
    (went _ _ _ _ _ _ _ (analyzes_as _ _ _ _ _ _ _ (ap Some c.previous_name-previous.ensures)
    c.in_ok-analyzed.ensures.steps) (ended _ _ _ _ _ c.in_err-write_analyzed_document.ensures.step)))

pub returns-clause-steps : goal.returns-clause-steps
unfolding looks_at_images
returns-clause-steps g c = mapped Restore _ _ _ _
    (went _ _ _ _ _ _ _ (analyzes_as _ _ _ _ _ _ _ (ap Some c.previous_name-previous.ensures)
    c.in_ok-analyzed.ensures.steps) (went _ _ _ _ _ _ _ c.in_ok-write_analyzed_document.ensures.step
    (yielded RestoreFault _ _)))
