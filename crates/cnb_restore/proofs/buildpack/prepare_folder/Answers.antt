use Rattle.std.proofs.lemmas.Result.{err_from_is_err_and}
use Rattle.steps.proofs.StepLemmas.{ended, went}
use Rattle.cnb_restore.specs.Restores.{prepares_folder}
use Rattle.cnb_restore.proofs.RestoreLemmas.{stored_as}
use Rattle.cnb_restore.proofs.buildpack.prepare_folder.Goals as goal

pub returns-in_err-remove : goal.returns-in_err-remove
unfolding prepares_folder
returns-in_err-remove g c =
    let exit = err_from_is_err_and c.from_residual.result c.from_residual.ensures.1 in
    rw (exit.1, exit.2) (record { step = ended _ _ _ _ _ c.in_err-remove.ensures.step })

pub returns-in_err-make_folder : goal.returns-in_err-make_folder
unfolding prepares_folder
returns-in_err-make_folder g c =
    let exit = err_from_is_err_and c.from_residual-in_err-make_folder.result
    c.from_residual-in_err-make_folder.ensures.1 in
    rw (exit.1, exit.2) (record {
      step = went _ _ _ _ _ _ _ c.in_ok-remove.ensures.step
          (ended _ _ _ _ _ c.in_err-make_folder.ensures.step);
    })

pub returns : goal.returns
unfolding prepares_folder
returns g c = record {
  step = went _ _ _ _ _ _ _ c.in_ok-remove.ensures.step
      (went _ _ _ _ _ _ _ c.in_ok-make_folder.ensures.step
      (stored_as _ _ _ _ _ _ c.kept_for.ensures c.write_store_document.ensures.step));
}
