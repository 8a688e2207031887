use Rattle.std.proofs.Common.{ap, refl, sym, Ok}
use Rattle.std.proofs.lemmas.Result.{err_from_is_err_and}
use Rattle.steps.proofs.StepLemmas.{ended, given, mapped, mapped_fault, no_memory, went}
use Rattle.tree_store.specs.declared.fault.StoreFault.TheVariants as stored
use Rattle.cnb_export.specs.declared.refusal.ExportRefusal.TheVariants.{Fault}
use Rattle.cnb_layers.specs.declared.fault.ExportFault.TheVariants.{Store}
use Rattle.cnb_export.specs.Given.{reads_given}
use Rattle.cnb_export.proofs.given.read_given.Goals as goal

pub returns-in_err-group-clause-step : goal.returns-in_err-group-clause-step
unfolding reads_given
returns-in_err-group-clause-step g c =
    let exit = err_from_is_err_and c.from_residual.result c.from_residual.ensures.1 in
    rw (exit.1, exit.2) (ended _ _ _ _ _ c.in_err-group.ensures.step)

pub returns-in_err-analyzed-clause-step : goal.returns-in_err-analyzed-clause-step
unfolding reads_given
returns-in_err-analyzed-clause-step g c =
    let exit = err_from_is_err_and c.from_residual-in_err-analyzed.result c.from_residual-in_err-analyzed.ensures.1 in
    rw (exit.1, exit.2) (went _ _ _ _ _ _ _ c.in_ok-group.ensures.step
    (ended _ _ _ _ _ (mapped_fault Fault _ _ _ c.in_err-analyzed.field-0.0 c.in_err-analyzed.ensures.step)))

pub returns-in_err-frame-clause-step : goal.returns-in_err-frame-clause-step
unfolding reads_given
returns-in_err-frame-clause-step g c =
    let exit = err_from_is_err_and c.from_residual-in_err-frame.result c.from_residual-in_err-frame.ensures.1 in
    rw (exit.1, exit.2) (went _ _ _ _ _ _ _ c.in_ok-group.ensures.step
    (went _ _ _ _ _ _ _ (mapped Fault _ _ _ _ c.in_ok-analyzed.ensures.step)
    ((no_memory _ _ _ (Fault (Store stored.Memory)) refl))))

pub returns-clause-step : goal.returns-clause-step
unfolding reads_given
returns-clause-step g c =
    went _ _ _ _ _ _ _ c.in_ok-group.ensures.step
    (went _ _ _ _ _ _ _ (mapped Fault _ _ _ _ c.in_ok-analyzed.ensures.step)
    ((given _ _ _ _ (ap (λ frame. Ok (record {
      frame = frame;
      group = c.in_ok-group.group;
      analyzed =
          c.in_ok-analyzed.analyzed;
    })) (sym c.in_ok-frame.ensures.frame)))))
