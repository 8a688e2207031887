use Rattle.std.proofs.Common.{refl}
use Rattle.std.proofs.lemmas.Result.{err_from_is_err_and}
use Rattle.tree_store.proofs.Ahead.{leaves_memory}
use Rattle.tree_store.proofs.Partly.{partly_itself}
use Rattle.tree_store.proofs.laying_held.lay_at.Goals as goal

pub returns-in_err-place-clause-leaves : goal.returns-in_err-place-clause-leaves
returns-in_err-place-clause-leaves g c =
    let exit = err_from_is_err_and c.from_residual.result c.from_residual.ensures.1 in
    rw (exit.1, exit.2) (leaves_memory c.args.root.now _ _)

pub returns-in_err-place-clause-partly : goal.returns-in_err-place-clause-partly
returns-in_err-place-clause-partly g c = λ tree fit ahead. partly_itself _ _ _ _ refl
