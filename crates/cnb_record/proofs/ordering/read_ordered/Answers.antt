use Rattle.std.proofs.lemmas.Result.{err_from_is_err_and}
use Rattle.doc_files.proofs.Blame.{blames_named}
use Rattle.doc_files.specs.Faults.{read_cause}
use Rattle.steps.proofs.ReadingLaws.{read_unchanged}
use Rattle.steps.proofs.StepLemmas.{ended, given, mapped, mapped_fault, went, yielded}
use Rattle.cnb_detect.proofs.DetectSteps.{check_step}
use Rattle.cnb_record.specs.declared.refusal.CheckRefusal.{CheckRefusal}
use Rattle.cnb_record.specs.Checks.{reads_ordered}
use Rattle.cnb_record.proofs.ordering.read_ordered.Goals as goal

pub returns-in_err-order-clause-step : goal.returns-in_err-order-clause-step
unfolding reads_ordered
returns-in_err-order-clause-step g c =
    let exit = err_from_is_err_and c.from_residual.result c.from_residual.ensures.1 in
    rw (exit.1, exit.2) (ended _ _ _ _ _ (mapped_fault _ _ _ _ _
    (read_unchanged read_cause _ _ _ _ c.in_err-order.ensures.reads c.in_err-order.ensures.leaves
    (blames_named _ c.in_err-order.field-0.0 c.in_err-order.ensures.blames) c.in_err-order.ensures.misused)))

pub returns-in_err-catalog-clause-step : goal.returns-in_err-catalog-clause-step
unfolding reads_ordered
returns-in_err-catalog-clause-step g c =
    let exit = err_from_is_err_and c.from_residual-in_err-catalog.result c.from_residual-in_err-catalog.ensures.1 in
    rw (exit.1, exit.2) (went _ _ _ _ _ _ _ (mapped _ _ _ _ _
    (read_unchanged read_cause _ _ _ _ c.in_ok-order.ensures.reads c.in_ok-order.ensures.leaves
    tt c.in_ok-order.ensures.misused)) (ended _ _ _ _ _
    (mapped_fault _ _ _ _ _ (read_unchanged read_cause _ _ _ _ c.in_err-catalog.ensures.reads
    c.in_err-catalog.ensures.leaves (blames_named _ c.in_err-catalog.field-0.0 c.in_err-catalog.ensures.blames)
    c.in_err-catalog.ensures.misused))))

pub returns-in_err-check-clause-step : goal.returns-in_err-check-clause-step
unfolding reads_ordered
returns-in_err-check-clause-step g c =
    let exit = err_from_is_err_and c.from_residual-in_err-check.result c.from_residual-in_err-check.ensures.1 in
    rw (exit.1, exit.2) (went _ _ _ _ _ _ _ (mapped _ _ _ _ _
    (read_unchanged read_cause _ _ _ _ c.in_ok-order.ensures.reads c.in_ok-order.ensures.leaves
    tt c.in_ok-order.ensures.misused)) (went _ _ _ _ _ _ _
    (mapped _ _ _ _ _ (read_unchanged read_cause _ _ _ _ c.in_ok-catalog.ensures.reads
    c.in_ok-catalog.ensures.leaves tt c.in_ok-catalog.ensures.misused))
    (ended _ _ _ _ _ (mapped_fault _ _ _ _ _ (check_step _ _ _ c.in_err-check.ensures.answer)))))

pub returns-clause-step : goal.returns-clause-step
unfolding reads_ordered
returns-clause-step g c =
    went _ _ _ _ _ _ _ (mapped _ _ _ _ _ (read_unchanged read_cause _ _ _ _ c.in_ok-order.ensures.reads
    c.in_ok-order.ensures.leaves tt c.in_ok-order.ensures.misused))
    (went _ _ _ _ _ _ _ (mapped _ _ _ _ _ (read_unchanged read_cause _ _ _ _ c.in_ok-catalog.ensures.reads
    c.in_ok-catalog.ensures.leaves tt c.in_ok-catalog.ensures.misused))
    (went _ _ _ _ _ _ _ (mapped _ _ _ _ _ (given _ _ _ _ c.in_ok-check.ensures.answer))
    (yielded CheckRefusal _ _)))
