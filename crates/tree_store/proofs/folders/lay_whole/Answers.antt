use Rattle.std.proofs.Common.{Err, Ok}
use Rattle.std.proofs.lemmas.Result.{err_from_is_err_and}
use Rattle.steps.proofs.StepLemmas.{ended, went}
use Rattle.tree_store.specs.Steps.{lays_stored}
use Rattle.tree_store.proofs.Stored.{whole_laid}
use Rattle.tree_store.proofs.folders.lay_whole.Goals as goal

pub returns-in_err-tree : goal.returns-in_err-tree
unfolding lays_stored
returns-in_err-tree g c =
    let exit = err_from_is_err_and c.from_residual.result c.from_residual.ensures.1 in
    rw (exit.1, exit.2) (record { steps = (ended _ _ _ _ _ c.in_err-tree.ensures.steps) })

pub returns-in_err-write_tree : goal.returns-in_err-write_tree
unfolding lays_stored
returns-in_err-write_tree g c =
    let exit = err_from_is_err_and c.from_residual-in_err-write_tree.result
    c.from_residual-in_err-write_tree.ensures.1 in
    rw (exit.1, exit.2) (record {
      steps = (went _ _ _ _ _ _ _ c.in_ok-tree.ensures.steps
          (whole_laid c.args.store.now c.args.digest.now c.args.root.now c.args.place.now _ _ _
          (Err _) c.in_err-write_tree.ensures.steps));
    })

pub returns : goal.returns
unfolding lays_stored
returns g c = record {
  steps =
      went _ _ _ _ _ _ _ c.in_ok-tree.ensures.steps
      (whole_laid c.args.store.now c.args.digest.now c.args.root.now c.args.place.now _ _ _
      (Ok _) c.in_ok-write_tree.ensures.steps);
}
