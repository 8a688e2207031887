use Rattle.std.proofs.Common.{Ok}
use Rattle.std.proofs.lemmas.Result.{err_from_is_err_and}
use Rattle.steps.proofs.EachLemmas.{goes_on, over, stops}
use Rattle.store_prune.specs.Prunes.{removes_all, removes_next}
use Rattle.store_prune.proofs.pruning.remove_all.Goals as goal

pub returns-in_err-remove_file : goal.returns-in_err-remove_file
unfolding removes_all
returns-in_err-remove_file g c =
    let exit = err_from_is_err_and c.from_residual.result c.from_residual.ensures.1 in
    rw (exit.1, exit.2) (record {
      steps = c.loop-path.invariant.left _ _
          (stops removes_next c.args.paths.now c.loop-path.path-index c.path-item.result tt _ _ _
          c.loop-path-test.true c.path-item.is c.in_err-remove_file.ensures.step);
    })

pub loop-path-preserved : goal.loop-path-preserved
loop-path-preserved g c = record {
  left = λ result new h. c.loop-path.invariant.left result new
      (goes_on removes_next c.args.paths.now c.loop-path.path-index c.path-item.result tt tt _ _
      c.loop-path-test.true c.path-item.is c.in_ok-remove_file.ensures.step result new h);
}

pub returns : goal.returns
unfolding removes_all
returns g c = record {
  steps = c.loop-path.invariant.left (Ok tt) _
      (over removes_next c.args.paths.now c.loop-path.path-index tt _ c.loop-path-test.false);
}
