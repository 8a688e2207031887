use Rattle.std.proofs.Common.{refl}
use Rattle.std.proofs.lemmas.Result.{err_from_is_err_and}
use Rattle.steps.proofs.StepLemmas.{ended, went}
use Rattle.steps.proofs.RemovalLemmas.{not_removed}
use Rattle.shelf_set.proofs.CacheLemmas.{within}
use Rattle.cnb_restore.specs.Restores.{prepares_folder, restores_buildpack}
use Rattle.cnb_restore.specs.declared.fault.RestoreFault.TheVariants.{Memory}
use Rattle.cnb_restore.proofs.RestoreLemmas.{prepared_as, rows_as}
use Rattle.cnb_restore.proofs.buildpack.restore_buildpack.Goals as goal

pub returns-in_err-folder-clause-step : goal.returns-in_err-folder-clause-step
unfolding restores_buildpack prepares_folder
returns-in_err-folder-clause-step g c =
    let exit = err_from_is_err_and c.from_residual.result c.from_residual.ensures.1 in
    rw (exit.1, exit.2) (ended _ _ _ _ _ (within _ _ _ _ _ (ended _ _ _ _ _ (not_removed _ _ _ Memory refl))))

pub returns-in_err-prepare_folder-clause-step : goal.returns-in_err-prepare_folder-clause-step
unfolding restores_buildpack
returns-in_err-prepare_folder-clause-step g c =
    let exit = err_from_is_err_and c.from_residual-in_err-prepare_folder.result
    c.from_residual-in_err-prepare_folder.ensures.1 in
    rw (exit.1, exit.2) (ended _ _ _ _ _ (within _ _ _ _ _
    (prepared_as _ _ _ _ _ _ _ _ c.in_ok-folder.ensures.path c.store_of.ensures
    c.in_err-prepare_folder.ensures.step)))

pub returns-clause-step : goal.returns-clause-step
unfolding restores_buildpack
returns-clause-step g c =
    went _ _ _ _ _ _ _ (within _ _ _ _ _ (prepared_as _ _ _ _ _ _ _ _ c.in_ok-folder.ensures.path
    c.store_of.ensures c.in_ok-prepare_folder.ensures.step))
    (rows_as _ _ _ _ _ _ _ _ c.in_ok-folder.ensures.path c.restore_rows.ensures.step)
