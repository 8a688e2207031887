use Rattle.std.proofs.Common.{◌∙◌, ap, map, refl, Bor}
use Rattle.std.proofs.lemmas.Result.{err_from_is_err_and}
use Rattle.image_docs.specs.declared.layer_row.LayerRow.{LayerRow}
use Rattle.steps.proofs.StepLemmas.{ended, given, no_memory, went}
use Rattle.cnb_restore.specs.Restores.{restores_rows}
use Rattle.cnb_restore.specs.Rows.{rows_of}
use Rattle.cnb_restore.specs.declared.fault.RestoreFault.TheVariants.{Memory}
use Rattle.cnb_restore.proofs.RestoreLemmas.{layers_as}
use Rattle.cnb_restore.proofs.buildpack.restore_rows.Goals as goal

pub returns-in_err-app-clause-step : goal.returns-in_err-app-clause-step
unfolding restores_rows
returns-in_err-app-clause-step g c =
    let exit = err_from_is_err_and c.from_residual.result c.from_residual.ensures.1 in
    rw (exit.1, exit.2) (ended _ _ _ _ _ (no_memory _ _ _ Memory refl))

pub returns-in_err-cache-clause-step : goal.returns-in_err-cache-clause-step
unfolding restores_rows
returns-in_err-cache-clause-step g c =
    let exit = err_from_is_err_and c.from_residual-in_err-cache.result c.from_residual-in_err-cache.ensures.1 in
    rw (exit.1, exit.2) (ended _ _ _ _ _ (no_memory _ _ _ Memory refl))

pub returns-clause-step : goal.returns-clause-step
unfolding restores_rows
returns-clause-step g c =
    went _ _ _ _ _ _ _ (given _ _ _ _ refl) (layers_as _ _ _ _ _ _ _ _ _
    (ap (map (λ (row : Bor LayerRow). row.now)) c.deref.ensures.value ∙ c.in_ok-app.ensures
    ∙ ap (rows_of c.args.id.now) c.layers_of.ensures)
    (ap (map (λ (row : Bor LayerRow). row.now)) c.deref-2.ensures.value ∙ c.in_ok-cache.ensures
    ∙ ap (rows_of c.args.id.now) c.as_slice.ensures) c.restore_layers.ensures.step)
