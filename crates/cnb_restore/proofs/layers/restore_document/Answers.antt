use Rattle.std.proofs.Common.{ap, refl, sym, Ok}
use Rattle.std.proofs.lemmas.Result.{err_from_is_err_and}
use Rattle.steps.proofs.StepLemmas.{ended, given, no_memory, went}
use Rattle.shelf_set.proofs.CacheLemmas.{within}
use Rattle.cnb_restore.specs.Restores.{restores_document}
use Rattle.cnb_restore.specs.declared.fault.RestoreFault.TheVariants.{Memory}
use Rattle.cnb_restore.proofs.layers.restore_document.Goals as goal

pub returns-in_err-write_layer_document-clause-step : goal.returns-in_err-write_layer_document-clause-step
unfolding restores_document
returns-in_err-write_layer_document-clause-step g c caches =
    let exit = err_from_is_err_and c.from_residual.result c.from_residual.ensures.1 in
    rw (exit.1, exit.2) (ended _ _ _ _ _ (within _ _ _ caches _ c.in_err-write_layer_document.ensures.step))

pub returns-in_err-after-clause-step : goal.returns-in_err-after-clause-step
unfolding restores_document
returns-in_err-after-clause-step g c caches =
    let exit = err_from_is_err_and c.from_residual-in_err-after.result c.from_residual-in_err-after.ensures.1 in
    rw (exit.1, exit.2) (went _ _ _ _ _ _ _ (within _ _ _ caches _ c.in_ok-write_layer_document.ensures.step)
    (no_memory _ _ _ Memory refl))

pub returns-clause-step : goal.returns-clause-step
unfolding restores_document
returns-clause-step g c caches =
    went _ _ _ _ _ _ _ (within _ _ _ caches _ c.in_ok-write_layer_document.ensures.step)
    (given _ _ _ _ (ap Ok (sym c.in_ok-after.ensures)))
