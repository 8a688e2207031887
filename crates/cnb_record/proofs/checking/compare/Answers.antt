use Rattle.std.proofs.Common.{ap, refl, sym, Ok}
use Rattle.std.proofs.lemmas.Result.{err_from_is_err_and}
use Rattle.steps.proofs.StepLemmas.{ended, given, no_memory, went}
use Rattle.cnb_record.specs.declared.refusal.CheckRefusal.TheVariants.{Memory}
use Rattle.cnb_record.specs.Checks.{compares}
use Rattle.cnb_record.proofs.checking.compare.Goals as goal

pub returns-in_err-compare_group : goal.returns-in_err-compare_group
unfolding compares
returns-in_err-compare_group g c =
    let exit = err_from_is_err_and c.from_residual.result c.from_residual.ensures.1 in
    rw (exit.1, exit.2) (record { step = ended _ _ _ _ _ c.in_err-compare_group.ensures.step })

pub returns-in_err-compare_plan : goal.returns-in_err-compare_plan
unfolding compares
returns-in_err-compare_plan g c =
    let exit = err_from_is_err_and c.from_residual-in_err-compare_plan.result
    c.from_residual-in_err-compare_plan.ensures.1 in
    rw (exit.1, exit.2) (record {
      step = went _ _ _ _ _ _ _ c.in_ok-compare_group.ensures.step
          (ended _ _ _ _ _ c.in_err-compare_plan.ensures.step);
    })

pub returns-in_err-text : goal.returns-in_err-text
unfolding compares
returns-in_err-text g c =
    let exit = err_from_is_err_and c.from_residual-in_err-text.result c.from_residual-in_err-text.ensures.1 in
    rw (exit.1, exit.2) (record {
      step = went _ _ _ _ _ _ _ c.in_ok-compare_group.ensures.step
          (went _ _ _ _ _ _ _ c.in_ok-compare_plan.ensures.step (no_memory _ _ _ Memory refl));
    })

pub returns : goal.returns
unfolding compares
returns g c = record {
  step = went _ _ _ _ _ _ _ c.in_ok-compare_group.ensures.step
      (went _ _ _ _ _ _ _ c.in_ok-compare_plan.ensures.step (given _ _ _ _ (ap Ok (sym c.in_ok-text.ensures))));
}
