use Rattle.std.proofs.lemmas.Result.{err_from_is_err_and}
use Rattle.steps.proofs.EachLemmas.{goes_on, over, stops}
use Rattle.store_prune.specs.Trees.{adds_tree}
use Rattle.store_prune.proofs.TreeSteps.{tree_at}
use Rattle.store_prune.proofs.trees.add_trees.Goals as goal

pub returns-in_err-trees : goal.returns-in_err-trees
returns-in_err-trees g c =
    let exit = err_from_is_err_and c.from_residual.result c.from_residual.ensures.1 in
    rw (exit.1, exit.2) (record {
      steps = c.loop-name.invariant.left _ _
          (stops (adds_tree c.args.store.now) c.args.names.now c.loop-name.name-index c.name-item.result _ _ _ _
          c.loop-name-test.true c.name-item.is (tree_at _ _ _ _ _ _ _ c.as_str.ensures
          c.in_err-trees.ensures.steps));
    })

pub loop-name-preserved : goal.loop-name-preserved
loop-name-preserved g c = record {
  left = λ result new h. c.loop-name.invariant.left result new
      (goes_on (adds_tree c.args.store.now) c.args.names.now c.loop-name.name-index c.name-item.result _ _ _ _
      c.loop-name-test.true c.name-item.is (tree_at _ _ _ _ _ _ _ c.as_str.ensures c.in_ok-trees.ensures.steps)
      result new h);
}

pub returns : goal.returns
returns g c = record {
  steps = c.loop-name.invariant.left _ _
      (over (adds_tree c.args.store.now) c.args.names.now c.loop-name.name-index _ _ c.loop-name-test.false);
}
