use Rattle.std.proofs.Common.{ap, refl, subst, sym, Ok}
use Rattle.std.specs.Prelude.{IsTrue}
use Rattle.std.proofs.lemmas.Result.{err_from_is_err_and}
use Rattle.doc_files.proofs.Blame.{blames_named}
use Rattle.doc_files.specs.Faults.{read_cause}
use Rattle.steps.proofs.ReadingLaws.{read_unchanged}
use Rattle.steps.proofs.StepLemmas.{ended, given, mapped, mapped_fault, no_memory, went}
use Rattle.cnb_env.specs.Base.{is_named_target}
use Rattle.detect_core.specs.declared.chosen.DetectFrame.{DetectFrame}
use Rattle.cnb_detect.specs.declared.preparation.Prepared.{Prepared}
use Rattle.cnb_detect.specs.declared.refusal.DetectRefusal.TheVariants.{Memory}
use Rattle.cnb_detect.specs.Preparation.{prepares}
use Rattle.cnb_detect.proofs.DetectSteps.{check_step}
use Rattle.cnb_detect.proofs.preparation.prepare.Goals as goal

pub returns-in_err-order-clause-step : goal.returns-in_err-order-clause-step
unfolding prepares
returns-in_err-order-clause-step g c =
    let exit = err_from_is_err_and c.from_residual.result c.from_residual.ensures.1 in
    rw (exit.1, exit.2) (ended _ _ _ _ _ (mapped_fault _ _ _ _ _
    (read_unchanged read_cause _ _ _ _ c.in_err-order.ensures.reads c.in_err-order.ensures.leaves
    (blames_named _ c.in_err-order.field-0.0 c.in_err-order.ensures.blames) c.in_err-order.ensures.misused)))

pub returns-in_err-catalog-clause-step : goal.returns-in_err-catalog-clause-step
unfolding prepares
returns-in_err-catalog-clause-step g c =
    let exit = err_from_is_err_and c.from_residual-in_err-catalog.result c.from_residual-in_err-catalog.ensures.1 in
    rw (exit.1, exit.2) (went _ _ _ _ _ _ _ (mapped _ _ _ _ _
    (read_unchanged read_cause _ _ _ _ c.in_ok-order.ensures.reads c.in_ok-order.ensures.leaves
    tt c.in_ok-order.ensures.misused)) (ended _ _ _ _ _
    (mapped_fault _ _ _ _ _ (read_unchanged read_cause _ _ _ _ c.in_err-catalog.ensures.reads
    c.in_err-catalog.ensures.leaves (blames_named _ c.in_err-catalog.field-0.0 c.in_err-catalog.ensures.blames)
    c.in_err-catalog.ensures.misused))))

pub returns-in_err-check-clause-step : goal.returns-in_err-check-clause-step
unfolding prepares
returns-in_err-check-clause-step g c =
    let exit = err_from_is_err_and c.from_residual-in_err-check.result c.from_residual-in_err-check.ensures.1 in
    rw (exit.1, exit.2) (went _ _ _ _ _ _ _ (mapped _ _ _ _ _
    (read_unchanged read_cause _ _ _ _ c.in_ok-order.ensures.reads c.in_ok-order.ensures.leaves
    tt c.in_ok-order.ensures.misused)) (went _ _ _ _ _ _ _
    (mapped _ _ _ _ _ (read_unchanged read_cause _ _ _ _ c.in_ok-catalog.ensures.reads
    c.in_ok-catalog.ensures.leaves tt c.in_ok-catalog.ensures.misused))
    (ended _ _ _ _ _ (mapped_fault _ _ _ _ _ (check_step _ _ _ c.in_err-check.ensures.answer)))))

pub returns-in_err-target-clause-step : goal.returns-in_err-target-clause-step
unfolding prepares
returns-in_err-target-clause-step g c =
    let exit = err_from_is_err_and c.from_residual-in_err-target.result c.from_residual-in_err-target.ensures.1 in
    rw (exit.1, exit.2) (went _ _ _ _ _ _ _ (mapped _ _ _ _ _
    (read_unchanged read_cause _ _ _ _ c.in_ok-order.ensures.reads c.in_ok-order.ensures.leaves
    tt c.in_ok-order.ensures.misused)) (went _ _ _ _ _ _ _
    (mapped _ _ _ _ _ (read_unchanged read_cause _ _ _ _ c.in_ok-catalog.ensures.reads
    c.in_ok-catalog.ensures.leaves tt c.in_ok-catalog.ensures.misused))
    (went _ _ _ _ _ _ _ (mapped _ _ _ _ _ (given _ _ _ _ c.in_ok-check.ensures.answer))
    (ended _ _ _ _ _ c.in_err-target.ensures.step))))

pub returns-in_err-files-clause-step : goal.returns-in_err-files-clause-step
unfolding prepares
returns-in_err-files-clause-step g c =
    let exit = err_from_is_err_and c.from_residual-in_err-files.result c.from_residual-in_err-files.ensures.1 in
    rw (exit.1, exit.2) (went _ _ _ _ _ _ _ (mapped _ _ _ _ _
    (read_unchanged read_cause _ _ _ _ c.in_ok-order.ensures.reads c.in_ok-order.ensures.leaves
    tt c.in_ok-order.ensures.misused)) (went _ _ _ _ _ _ _
    (mapped _ _ _ _ _ (read_unchanged read_cause _ _ _ _ c.in_ok-catalog.ensures.reads
    c.in_ok-catalog.ensures.leaves tt c.in_ok-catalog.ensures.misused))
    (went _ _ _ _ _ _ _ (mapped _ _ _ _ _ (given _ _ _ _ c.in_ok-check.ensures.answer))
    (went _ _ _ _ _ _ _ c.in_ok-target.ensures.step
    (ended _ _ _ _ _ (mapped_fault _ _ _ _ _ (read_unchanged read_cause _ _ _ _ c.in_err-files.ensures.reads
    c.in_err-files.ensures.leaves (blames_named _ c.in_err-files.field-0.0 c.in_err-files.ensures.blames)
    c.in_err-files.ensures.misused)))))))

pub returns-in_err-frame-clause-step : goal.returns-in_err-frame-clause-step
unfolding prepares
returns-in_err-frame-clause-step g c =
    let exit = err_from_is_err_and c.from_residual-in_err-frame.result c.from_residual-in_err-frame.ensures.1 in
    rw (exit.1, exit.2) (went _ _ _ _ _ _ _ (mapped _ _ _ _ _
    (read_unchanged read_cause _ _ _ _ c.in_ok-order.ensures.reads c.in_ok-order.ensures.leaves
    tt c.in_ok-order.ensures.misused)) (went _ _ _ _ _ _ _
    (mapped _ _ _ _ _ (read_unchanged read_cause _ _ _ _ c.in_ok-catalog.ensures.reads
    c.in_ok-catalog.ensures.leaves tt c.in_ok-catalog.ensures.misused))
    (went _ _ _ _ _ _ _ (mapped _ _ _ _ _ (given _ _ _ _ c.in_ok-check.ensures.answer))
    (went _ _ _ _ _ _ _ c.in_ok-target.ensures.step
    (went _ _ _ _ _ _ _ (mapped _ _ _ _ _ (read_unchanged read_cause _ _ _ _ c.in_ok-files.ensures.reads
    c.in_ok-files.ensures.leaves tt c.in_ok-files.ensures.misused)) (no_memory _ _ _ Memory refl))))))

pub returns-clause-step : goal.returns-clause-step
unfolding prepares
returns-clause-step g c =
    went _ _ _ _ _ _ _ (mapped _ _ _ _ _ (read_unchanged read_cause _ _ _ _ c.in_ok-order.ensures.reads
    c.in_ok-order.ensures.leaves tt c.in_ok-order.ensures.misused))
    (went _ _ _ _ _ _ _ (mapped _ _ _ _ _ (read_unchanged read_cause _ _ _ _ c.in_ok-catalog.ensures.reads
    c.in_ok-catalog.ensures.leaves tt c.in_ok-catalog.ensures.misused))
    (went _ _ _ _ _ _ _ (mapped _ _ _ _ _ (given _ _ _ _ c.in_ok-check.ensures.answer))
    (went _ _ _ _ _ _ _ c.in_ok-target.ensures.step
    (went _ _ _ _ _ _ _ (mapped _ _ _ _ _ (read_unchanged read_cause _ _ _ _ c.in_ok-files.ensures.reads
    c.in_ok-files.ensures.leaves tt c.in_ok-files.ensures.misused))
    (given _ _ _ _ (sym (ap (λ (frame : DetectFrame). let prepared : Prepared = record
    { order = c.in_ok-order.order; catalog = c.in_ok-catalog.catalog; frame = frame } in Ok prepared)
    c.in_ok-frame.ensures)))))))

pub returns-clause-named : goal.returns-clause-named
returns-clause-named g c = λ named. subst (λ (frame : DetectFrame). IsTrue (is_named_target frame.target))
    (sym c.in_ok-frame.ensures) (c.in_ok-target.ensures.named named)
