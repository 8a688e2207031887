use Rattle.std.proofs.Common.{Ok, Err}
use Rattle.std.proofs.lemmas.Result.{err_from_is_err_and}
use Rattle.steps.proofs.EachLemmas.{goes_on, over, stops}
use Rattle.cnb_launch.specs.Exec.{runs_execs}
use Rattle.cnb_launch.proofs.PlanLemmas.{execs_as}
use Rattle.cnb_launch.proofs.exec.run_all.Goals as goal

pub returns-in_err-env : goal.returns-in_err-env
returns-in_err-env g c =
    let exit = err_from_is_err_and c.from_residual.result c.from_residual.ensures.1 in
    rw (exit.1, exit.2) (record {
      step = c.loop-paths.invariant.left _ _ (stops (runs_execs c.args.dir.now) c.args.lists.now
          c.loop-paths.paths-index c.paths-item.result _ _ _ _ c.loop-paths-test.true c.paths-item.is
          (execs_as _ _ _ _ _ _ (Err _) c.as_slice.ensures c.in_err-env.ensures.step));
    })

pub loop-paths-preserved : goal.loop-paths-preserved
loop-paths-preserved g c = record {
  left = λ result new h. c.loop-paths.invariant.left result new
      (goes_on (runs_execs c.args.dir.now) c.args.lists.now c.loop-paths.paths-index c.paths-item.result _ _ _ _
      c.loop-paths-test.true c.paths-item.is
      (execs_as _ _ _ _ _ _ (Ok _) c.as_slice.ensures c.in_ok-env.ensures.step) result new h);
}

pub returns : goal.returns
returns g c = record {
  step = c.loop-paths.invariant.left (Ok _) _
      (over (runs_execs c.args.dir.now) c.args.lists.now c.loop-paths.paths-index _ _ c.loop-paths-test.false);
}
