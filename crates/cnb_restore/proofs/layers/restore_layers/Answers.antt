use Rattle.std.proofs.Common.{◌∙◌, ap, map, refl, Bor, List, ℕ}
use Rattle.std.proofs.lemmas.Result.{err_from_is_err_and}
use Rattle.steps.proofs.StepLemmas.{ended, given, no_memory, went}
use Rattle.cnb_restore.specs.Restores.{restores_layers}
use Rattle.cnb_restore.specs.declared.fault.RestoreFault.TheVariants.{Memory}
use Rattle.cnb_restore.proofs.RestoreLemmas.{each_as}
use Rattle.cnb_restore.proofs.layers.restore_layers.Goals as goal

pub returns-in_err-names-clause-step : goal.returns-in_err-names-clause-step
unfolding restores_layers
returns-in_err-names-clause-step g c =
    let exit = err_from_is_err_and c.from_residual.result c.from_residual.ensures.1 in
    rw (exit.1, exit.2) (ended _ _ _ _ _ (no_memory _ _ _ Memory refl))

pub returns-clause-step : goal.returns-clause-step
unfolding restores_layers
returns-clause-step g c =
    went _ _ _ _ _ _ _ (given _ _ _ _ refl) (each_as _ _ _ _ _ _ _ _ _
    (ap (map (λ (name : Bor (List ℕ)). name.now)) c.deref.ensures.value ∙ c.in_ok-names.ensures)
    c.restore_each.ensures.step)
