use Rattle.std.proofs.Common.{refl, sym}
use Rattle.std.proofs.lemmas.Result.{err_from_is_err_and}
use Rattle.doc_files.proofs.Blame.{blames_named}
use Rattle.doc_files.specs.Faults.{read_cause}
use Rattle.steps.proofs.ReadingLaws.{read_unchanged}
use Rattle.steps.proofs.StepLemmas.{ended, mapped, mapped_fault, went}
use Rattle.cnb_record.specs.Checks.{compares_plan, matches}
use Rattle.cnb_record.proofs.CheckSteps.{not_read}
use Rattle.cnb_record.proofs.checking.compare_plan.Goals as goal

pub returns-in_err-path : goal.returns-in_err-path
unfolding compares_plan matches
returns-in_err-path g c =
    let exit = err_from_is_err_and c.from_residual.result c.from_residual.ensures.1 in
    rw (exit.1, exit.2) (record { step = ended _ _ _ _ _ (not_read _ _ _ _) })

pub returns-in_err-found : goal.returns-in_err-found
unfolding compares_plan matches
returns-in_err-found g c =
    let exit = err_from_is_err_and c.from_residual-in_err-found.result c.from_residual-in_err-found.ensures.1 in
    rw (exit.1, exit.2, sym c.in_ok-path.ensures)
    (record {
      step = ended _ _ _ _ _ (mapped_fault _ _ _ _ _
          (read_unchanged read_cause _ _ _ _ c.in_err-found.ensures.reads c.in_err-found.ensures.leaves
          (blames_named _ c.in_err-found.field-0.0 c.in_err-found.ensures.blames) c.in_err-found.ensures.misused));
    })

pub returns : goal.returns
unfolding compares_plan matches
returns g c = rw (sym c.in_ok-path.ensures) (record {
  step = went _ _ _ _ _ _ _ (mapped _ _ _ _ _
      (read_unchanged read_cause _ _ _ _ c.in_ok-found.ensures.reads c.in_ok-found.ensures.leaves
      tt c.in_ok-found.ensures.misused)) (refl, c.match_plan.ensures);
})
