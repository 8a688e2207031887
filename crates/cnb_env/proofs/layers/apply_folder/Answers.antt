use Rattle.std.proofs.lemmas.Result.{err_from_is_err_and}
use Rattle.cnb_env.proofs.BlameLemmas.{folder_same}
use Rattle.cnb_env.proofs.layers.apply_folder.Goals as goal

pub returns-in_err-env_folder-clause-blames : goal.returns-in_err-env_folder-clause-blames
returns-in_err-env_folder-clause-blames g c =
    let exit = err_from_is_err_and c.from_residual-in_err-env_folder.result
    c.from_residual-in_err-env_folder.ensures.1 in
    rw (exit.1, exit.2) (folder_same _ _ c.in_ok-folder.ensures.0 _ c.in_err-env_folder.ensures.blames)
