use Rattle.std.proofs.Common.{ap, refl, sym, Ok}
use Rattle.std.proofs.lemmas.Result.{err_from_is_err_and}
use Rattle.steps.proofs.StepLemmas.{ended, given, given_fault, no_memory, went}
use Rattle.cnb_build.specs.declared.fault.BuildFault.TheVariants.{Memory}
use Rattle.cnb_build.specs.Given.{reads_given}
use Rattle.cnb_build.specs.declared.frame.BuildFrame.{BuildFrame}
use Rattle.cnb_build.specs.declared.given.Given.{Given}
use Rattle.cnb_build.proofs.given.read_given.Goals as goal

pub returns-in_err-documents-clause-step : goal.returns-in_err-documents-clause-step
unfolding reads_given
returns-in_err-documents-clause-step g c =
    let exit = err_from_is_err_and c.from_residual.result c.from_residual.ensures.1 in
    rw (exit.1, exit.2) (ended _ _ _ _ _ (no_memory _ _ _ Memory refl))

pub returns-in_err-group-clause-step : goal.returns-in_err-group-clause-step
unfolding reads_given
returns-in_err-group-clause-step g c =
    let exit = err_from_is_err_and c.from_residual-in_err-group.result c.from_residual-in_err-group.ensures.1 in
    rw (exit.1, exit.2) (went _ _ _ _ _ _ _ (given _ _ _ _ (ap Ok (sym c.in_ok-documents.ensures)))
    (ended _ _ _ _ _ c.in_err-group.ensures.step))

pub returns-in_err-check_apis-clause-step : goal.returns-in_err-check_apis-clause-step
unfolding reads_given
returns-in_err-check_apis-clause-step g c =
    let exit = err_from_is_err_and c.from_residual-in_err-check_apis.result
    c.from_residual-in_err-check_apis.ensures.1 in
    rw (exit.1, exit.2) (went _ _ _ _ _ _ _ (given _ _ _ _ (ap Ok (sym c.in_ok-documents.ensures)))
    (went _ _ _ _ _ _ _ c.in_ok-group.ensures.step
    (ended _ _ _ _ _ (given_fault _ _ _ c.in_err-check_apis.field-0.0 c.in_err-check_apis.ensures.answer
    c.in_err-check_apis.ensures.cause))))

pub returns-in_err-plan-clause-step : goal.returns-in_err-plan-clause-step
unfolding reads_given
returns-in_err-plan-clause-step g c =
    let exit = err_from_is_err_and c.from_residual-in_err-plan.result c.from_residual-in_err-plan.ensures.1 in
    rw (exit.1, exit.2) (went _ _ _ _ _ _ _ (given _ _ _ _ (ap Ok (sym c.in_ok-documents.ensures)))
    (went _ _ _ _ _ _ _ c.in_ok-group.ensures.step
    (went _ _ _ _ _ _ _ (given _ _ _ _ c.in_ok-check_apis.ensures.answer)
    (ended _ _ _ _ _ c.in_err-plan.ensures.step))))

pub returns-in_err-target-clause-step : goal.returns-in_err-target-clause-step
unfolding reads_given
returns-in_err-target-clause-step g c =
    let exit = err_from_is_err_and c.from_residual-in_err-target.result c.from_residual-in_err-target.ensures.1 in
    rw (exit.1, exit.2) (went _ _ _ _ _ _ _ (given _ _ _ _ (ap Ok (sym c.in_ok-documents.ensures)))
    (went _ _ _ _ _ _ _ c.in_ok-group.ensures.step
    (went _ _ _ _ _ _ _ (given _ _ _ _ c.in_ok-check_apis.ensures.answer)
    (went _ _ _ _ _ _ _ c.in_ok-plan.ensures.step (ended _ _ _ _ _ c.in_err-target.ensures.step)))))

pub returns-in_err-files-clause-step : goal.returns-in_err-files-clause-step
unfolding reads_given
returns-in_err-files-clause-step g c =
    let exit = err_from_is_err_and c.from_residual-in_err-files.result c.from_residual-in_err-files.ensures.1 in
    rw (exit.1, exit.2) (went _ _ _ _ _ _ _ (given _ _ _ _ (ap Ok (sym c.in_ok-documents.ensures)))
    (went _ _ _ _ _ _ _ c.in_ok-group.ensures.step
    (went _ _ _ _ _ _ _ (given _ _ _ _ c.in_ok-check_apis.ensures.answer)
    (went _ _ _ _ _ _ _ c.in_ok-plan.ensures.step
    (went _ _ _ _ _ _ _ c.in_ok-target.ensures.step (ended _ _ _ _ _ c.in_err-files.ensures.step))))))

pub returns-in_err-frame-clause-step : goal.returns-in_err-frame-clause-step
unfolding reads_given
returns-in_err-frame-clause-step g c =
    let exit = err_from_is_err_and c.from_residual-in_err-frame.result c.from_residual-in_err-frame.ensures.1 in
    rw (exit.1, exit.2) (went _ _ _ _ _ _ _ (given _ _ _ _ (ap Ok (sym c.in_ok-documents.ensures)))
    (went _ _ _ _ _ _ _ c.in_ok-group.ensures.step
    (went _ _ _ _ _ _ _ (given _ _ _ _ c.in_ok-check_apis.ensures.answer)
    (went _ _ _ _ _ _ _ c.in_ok-plan.ensures.step
    (went _ _ _ _ _ _ _ c.in_ok-target.ensures.step
    (went _ _ _ _ _ _ _ c.in_ok-files.ensures.step (no_memory _ _ _ Memory refl)))))))

pub returns-clause-step : goal.returns-clause-step
unfolding reads_given
returns-clause-step g c =
    went _ _ _ _ _ _ _ (given _ _ _ _ (ap Ok (sym c.in_ok-documents.ensures)))
    (went _ _ _ _ _ _ _ c.in_ok-group.ensures.step
    (went _ _ _ _ _ _ _ (given _ _ _ _ c.in_ok-check_apis.ensures.answer)
    (went _ _ _ _ _ _ _ c.in_ok-plan.ensures.step
    (went _ _ _ _ _ _ _ c.in_ok-target.ensures.step
    (went _ _ _ _ _ _ _ c.in_ok-files.ensures.step
    (given _ _ _ _ (sym (ap (λ (frame : BuildFrame). let made : Given = record
    { group = c.in_ok-group.group; plan = c.in_ok-plan.plan; frame = frame } in Ok made)
    c.in_ok-frame.ensures))))))))
