use Rattle.std.proofs.lemmas.Result.{err_from_is_err_and}
use Rattle.steps.proofs.StepLemmas.{ended, given, given_fault, went, yielded}
use Rattle.cnb_detect.specs.declared.refusal.DetectRefusal.{DetectRefusal}
use Rattle.cnb_record.specs.Choosing.{adds_record, makes_record}
use Rattle.cnb_record.proofs.choosing.with_record.Goals as goal

pub returns-in_err-bytes-clause-step : goal.returns-in_err-bytes-clause-step
unfolding adds_record makes_record
returns-in_err-bytes-clause-step c =
    let exit = err_from_is_err_and c.from_residual.result c.from_residual.ensures.1 in
    rw (exit.1, exit.2) (λ old. ended _ _ old old _ (
      given_fault _ _ old c.in_err-bytes.field-0.0 c.in_err-bytes.ensures.answer c.in_err-bytes.ensures.cause,
      tt,
    ))

pub returns-clause-step : goal.returns-clause-step
unfolding adds_record makes_record
returns-clause-step c = λ old. went _ _ old old old _ _
    (given _ _ old _ c.in_ok-bytes.ensures.answer, c.in_ok-bytes.ensures.proves) (yielded DetectRefusal _ old)
