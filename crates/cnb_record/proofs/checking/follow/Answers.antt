use Rattle.std.proofs.Common.{◌≡◌, subst, ℕ, List, Ok, Err}
use Rattle.std.proofs.lemmas.Result.{err_from_is_err_and}
use Rattle.detect_record.specs.Checking.{check_of, cause_of as check_cause}
use Rattle.detect_record.specs.declared.outcome.Checked.{Checked}
use Rattle.doc_files.proofs.Blame.{blames_named}
use Rattle.doc_files.specs.Faults.{read_cause}
use Rattle.steps.specs.Causes.{IsAnswer}
use Rattle.steps.proofs.ReadingLaws.{read_unchanged}
use Rattle.steps.proofs.StepLemmas.{ended, given, mapped, mapped_fault, went}
use Rattle.cnb_record.specs.Checks.{follows}
use Rattle.cnb_record.proofs.CheckSteps.{follow_step}
use Rattle.cnb_record.proofs.checking.follow.Goals as goal

pub returns-in_err-bytes : goal.returns-in_err-bytes
unfolding follows
returns-in_err-bytes g c =
    let exit = err_from_is_err_and c.from_residual.result c.from_residual.ensures.1 in
    rw (exit.1, exit.2) (record {
      step = ended _ _ _ _ _
          (mapped_fault _ _ _ _ _ (read_unchanged read_cause _ _ _ _ c.in_err-bytes.ensures.reads
          c.in_err-bytes.ensures.leaves (blames_named _ c.in_err-bytes.field-0.0 c.in_err-bytes.ensures.blames)
          c.in_err-bytes.ensures.misused));
    })

pub returns-in_err-proved : goal.returns-in_err-proved
unfolding follows
returns-in_err-proved g c =
    let exit = err_from_is_err_and c.from_residual-in_err-proved.result c.from_residual-in_err-proved.ensures.1 in
    let answer = subst (λ (bytes : List ℕ). IsAnswer {A = Checked} check_cause (Err c.in_err-proved.field-0.0)
    (check_of c.args.ordered.now.catalog c.args.ordered.now.order bytes)) c.as_slice.ensures
    c.in_err-proved.ensures.check in
    rw (exit.1, exit.2) (record {
      step = went _ _ _ _ _ _ _
          (mapped _ _ _ _ _ (read_unchanged read_cause _ _ _ _ c.in_ok-bytes.ensures.reads c.in_ok-bytes.ensures.leaves
          tt c.in_ok-bytes.ensures.misused)) (mapped_fault _ _ _ _ _ (follow_step _ _ _ answer));
    })

pub returns : goal.returns
unfolding follows
returns g c =
    let answer = subst (λ (bytes : List ℕ). check_of c.args.ordered.now.catalog c.args.ordered.now.order bytes
    ≡ Ok c.in_ok-proved.proved) c.as_slice.ensures c.in_ok-proved.ensures.check in
    record {
      step = went _ _ _ _ _ _ _ (mapped _ _ _ _ _
          (read_unchanged read_cause _ _ _ _ c.in_ok-bytes.ensures.reads c.in_ok-bytes.ensures.leaves
          tt c.in_ok-bytes.ensures.misused)) (mapped _ _ _ _ _ (given _ _ _ _ answer));
    }
