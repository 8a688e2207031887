use Rattle.std.proofs.lemmas.Result.{err_from_is_err_and}
use Rattle.doc_files.proofs.Blame.{blames_named}
use Rattle.doc_files.specs.Faults.{read_cause}
use Rattle.steps.proofs.ReadingLaws.{read_unchanged}
use Rattle.steps.proofs.StepLemmas.{ended, given, given_fault, mapped, mapped_fault, went, yielded}
use Rattle.cnb_record.specs.declared.refusal.CheckRefusal.{CheckRefusal}
use Rattle.cnb_record.specs.Checks.{reads_group}
use Rattle.cnb_record.proofs.reading.read_group.Goals as goal

pub returns-in_err-group : goal.returns-in_err-group
unfolding reads_group
returns-in_err-group g c =
    let exit = err_from_is_err_and c.from_residual.result c.from_residual.ensures.1 in
    rw (exit.1, exit.2) (record {
      step = ended _ _ _ _ _
          (mapped_fault _ _ _ _ _ (read_unchanged read_cause _ _ _ _ c.in_err-group.ensures.reads
          c.in_err-group.ensures.leaves (blames_named _ c.in_err-group.field-0.0 c.in_err-group.ensures.blames)
          c.in_err-group.ensures.misused));
    })

pub returns-in_err-check_apis : goal.returns-in_err-check_apis
unfolding reads_group
returns-in_err-check_apis g c =
    let exit = err_from_is_err_and c.from_residual-in_err-check_apis.result
    c.from_residual-in_err-check_apis.ensures.1 in
    rw (exit.1, exit.2) (record {
      step = went _ _ _ _ _ _ _
          (mapped _ _ _ _ _ (read_unchanged read_cause _ _ _ _ c.in_ok-group.ensures.reads c.in_ok-group.ensures.leaves
          tt c.in_ok-group.ensures.misused)) (ended _ _ _ _ _
          (given_fault _ _ _ c.in_err-check_apis.field-0.0 c.in_err-check_apis.ensures.answer
          c.in_err-check_apis.ensures.cause));
    })

pub returns : goal.returns
unfolding reads_group
returns g c = record {
  step = went _ _ _ _ _ _ _
      (mapped _ _ _ _ _ (read_unchanged read_cause _ _ _ _ c.in_ok-group.ensures.reads c.in_ok-group.ensures.leaves
      tt c.in_ok-group.ensures.misused)) (went _ _ _ _ _ _ _ (given _ _ _ _ c.in_ok-check_apis.ensures.answer)
      (yielded CheckRefusal _ _));
}
