use Rattle.std.proofs.lemmas.Result.{err_from_is_err_and}
use Rattle.steps.proofs.StepLemmas.{ended, given, given_fault, mapped, mapped_fault, went, yielded}
use Rattle.cnb_export.specs.declared.refusal.ExportRefusal.TheVariants.{Fault}
use Rattle.cnb_export.specs.declared.refusal.ExportRefusal.{ExportRefusal}
use Rattle.cnb_export.specs.Given.{reads_group}
use Rattle.cnb_export.proofs.given.find_served_group.Goals as goal

pub returns-in_err-group : goal.returns-in_err-group
unfolding reads_group
returns-in_err-group g c =
    let exit = err_from_is_err_and c.from_residual.result c.from_residual.ensures.1 in
    rw (exit.1, exit.2) (record {
      step = ended _ _ _ _ _
          (mapped_fault Fault _ _ _ c.in_err-group.field-0.0 c.in_err-group.ensures.step);
    })

pub returns-in_err-served : goal.returns-in_err-served
unfolding reads_group
returns-in_err-served g c =
    let exit = err_from_is_err_and c.from_residual-in_err-served.result c.from_residual-in_err-served.ensures.1 in
    rw (exit.1, exit.2) (record {
      step = went _ _ _ _ _ _ _ (mapped Fault _ _ _ _ c.in_ok-group.ensures.step)
          (ended _ _ _ _ _ (given_fault _ _ _ c.in_err-served.field-0.0 c.in_err-served.ensures.answer
          c.in_err-served.ensures.cause));
    })

pub returns : goal.returns
unfolding reads_group
returns g c =
    record {
      step = went _ _ _ _ _ _ _ (mapped Fault _ _ _ _ c.in_ok-group.ensures.step)
          (went _ _ _ _ _ _ _ (given _ _ _ _ c.in_ok-served.ensures.answer) (yielded ExportRefusal _ _));
    }
