use Rattle.std.proofs.Common.{◌≡◌, ◌∙◌, ap, refl, Ok}
use Rattle.std.proofs.lemmas.Result.{err_from_is_err_and}
use Rattle.run_docs.specs.BuildpackPlan.{bp_plan_in}
use Rattle.steps.proofs.StepLemmas.{not_begun}
use Rattle.cnb_build.specs.declared.fault.BuildFault.TheVariants.{Memory}
use Rattle.cnb_build.proofs.BuildSteps.{writes_as}
use Rattle.cnb_build.proofs.preparing.write_plan.Goals as goal

pub returns-in_err-needs : goal.returns-in_err-needs
returns-in_err-needs g c =
    let exit = err_from_is_err_and c.from_residual.result c.from_residual.ensures.1 in
    rw (exit.1, exit.2) (record { step = not_begun _ _ _ _ Memory refl })

pub returns-in_err-bytes : goal.returns-in_err-bytes
returns-in_err-bytes g c =
    let exit = err_from_is_err_and c.from_residual-in_err-bytes.result c.from_residual-in_err-bytes.ensures.1 in
    rw (exit.1, exit.2) (record { step = not_begun _ _ _ _ Memory refl })

pub returns : goal.returns
returns g c =
    record {
      step = writes_as _ (λ written. written ≡ c.as_slice.result.now) _
          (λ bytes e. ap bp_plan_in (e ∙ c.as_slice.ensures) ∙ c.in_ok-bytes.ensures.reads_back
          c.in_ok-needs.ensures.kept ∙ ap Ok c.in_ok-needs.ensures.needs) _ _ _ c.write_at.ensures.step;
    }
