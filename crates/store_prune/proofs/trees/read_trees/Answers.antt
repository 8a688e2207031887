use Rattle.std.proofs.lemmas.Result.{err_from_is_err_and}
use Rattle.steps.proofs.StepLemmas.{ended, went}
use Rattle.store_prune.specs.Trees.{reads_trees}
use Rattle.store_prune.proofs.NamedSteps.{not_listed}
use Rattle.store_prune.proofs.TreeSteps.{listed_at, trees_at}
use Rattle.store_prune.proofs.trees.read_trees.Goals as goal

pub returns-in_err-folder : goal.returns-in_err-folder
unfolding reads_trees
returns-in_err-folder g c =
    let exit = err_from_is_err_and c.from_residual.result c.from_residual.ensures.1 in
    rw (exit.1, exit.2) (record { steps = ended _ _ _ _ _ (not_listed _ _) })

pub returns-in_err-names : goal.returns-in_err-names
unfolding reads_trees
returns-in_err-names g c =
    let exit = err_from_is_err_and c.from_residual-in_err-names.result c.from_residual-in_err-names.ensures.1 in
    rw (exit.1, exit.2) (record {
      steps = ended _ _ _ _ _
          (listed_at _ _ _ _ _ c.in_ok-folder.ensures.path c.in_err-names.ensures.steps);
    })

pub returns : goal.returns
unfolding reads_trees
returns g c = record {
  steps = went _ _ _ _ _ _ _
      (listed_at _ _ _ _ _ c.in_ok-folder.ensures.path c.in_ok-names.ensures.steps)
      (trees_at _ _ _ _ _ _ _ c.as_slice.ensures c.add_trees.ensures.steps);
}
