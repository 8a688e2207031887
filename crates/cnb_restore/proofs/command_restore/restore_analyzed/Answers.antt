use Rattle.std.proofs.Common.{ap, refl, sym, Ok}
use Rattle.std.proofs.lemmas.Result.{err_from_is_err_and}
use Rattle.steps.proofs.StepLemmas.{ended, given, given_fault, mapped, mapped_fault, no_memory, went}
use Rattle.cnb_restore.specs.Commands.{restores_analyzed}
use Rattle.cnb_restore.proofs.CommandLemmas.{served_as}
use Rattle.cnb_restore.specs.declared.fault.RestoreFault.TheVariants.{Memory}
use Rattle.cnb_restore.specs.declared.refusal.RestoreRefusal.TheVariants.{Fault}
use Rattle.cnb_restore.proofs.command_restore.restore_analyzed.Goals as goal

pub returns-in_err-served : goal.returns-in_err-served
unfolding restores_analyzed
returns-in_err-served g c =
    let exit = err_from_is_err_and c.from_residual.result c.from_residual.ensures.1 in
    rw (exit.1, exit.2) (record {
      steps = ended _ _ _ _ _
          (served_as _ _ _ _ _ c.as_slice.ensures (given_fault _ _ _ _ c.in_err-served.ensures.answer
          c.in_err-served.ensures.cause));
    })

pub returns-in_err-restored : goal.returns-in_err-restored
unfolding restores_analyzed
returns-in_err-restored g c =
    let exit = err_from_is_err_and c.from_residual-in_err-restored.result c.from_residual-in_err-restored.ensures.1 in
    rw (exit.1, exit.2) (record {
      steps = went _ _ _ _ _ _ _
          (served_as _ _ _ _ _ c.as_slice.ensures (given _ _ _ _ c.in_ok-served.ensures.answer))
          (ended _ _ _ _ _ (mapped_fault _ _ _ _ _ c.in_err-restored.ensures.steps));
    })

pub returns-in_err-text : goal.returns-in_err-text
unfolding restores_analyzed
returns-in_err-text g c =
    let exit = err_from_is_err_and c.from_residual-in_err-text.result c.from_residual-in_err-text.ensures.1 in
    rw (exit.1, exit.2) (record {
      steps = went _ _ _ _ _ _ _
          (served_as _ _ _ _ _ c.as_slice.ensures (given _ _ _ _ c.in_ok-served.ensures.answer))
          (went _ _ _ _ _ _ _ (mapped _ _ _ _ _ c.in_ok-restored.ensures.steps)
          (no_memory _ _ _ (Fault Memory) refl));
    })

pub returns : goal.returns
unfolding restores_analyzed
returns g c =
    record {
      steps = went _ _ _ _ _ _ _ (served_as _ _ _ _ _ c.as_slice.ensures
          (given _ _ _ _ c.in_ok-served.ensures.answer))
          (went _ _ _ _ _ _ _ (mapped _ _ _ _ _ c.in_ok-restored.ensures.steps)
          (given _ _ _ _ (ap Ok (sym c.in_ok-text.ensures))));
    }
