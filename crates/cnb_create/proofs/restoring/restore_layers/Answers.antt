use Rattle.std.proofs.lemmas.Result.{err_from_is_err_and}
use Rattle.steps.proofs.StepLemmas.{mapped, mapped_fault}
use Rattle.cnb_create.specs.declared.refusal.CreateRefusal.TheVariants.{Restore}
use Rattle.cnb_create.proofs.restoring.restore_layers.Goals as goal

pub returns-in_err-restored : goal.returns-in_err-restored
returns-in_err-restored g c =
    let exit = err_from_is_err_and c.from_residual.result c.from_residual.ensures.1 in
    rw (exit.1, exit.2) (record { steps = mapped_fault Restore _ _ _ _ c.in_err-restored.ensures.steps })

pub returns : goal.returns
returns g c = record { steps = mapped Restore _ _ _ _ c.in_ok-restored.ensures.steps }
