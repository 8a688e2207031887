use Rattle.std.proofs.Common.{Ok}
use Rattle.std.proofs.lemmas.Result.{err_from_is_err_and}
use Rattle.steps.proofs.EachLemmas.{goes_on, over, stops}
use Rattle.cnb_launch.specs.Exec.{runs_exec}
use Rattle.cnb_launch.proofs.exec.run_execs.Goals as goal

pub returns-in_err-env : goal.returns-in_err-env
returns-in_err-env g c =
    let exit = err_from_is_err_and c.from_residual.result c.from_residual.ensures.1 in
    rw (exit.1, exit.2) (record {
      step = c.loop-path.invariant.left _ _
          (stops (runs_exec c.args.dir.now) c.args.paths.now c.loop-path.path-index c.path-item.result _ _ _ _
          c.loop-path-test.true c.path-item.is c.in_err-env.ensures.step);
    })

pub loop-path-preserved : goal.loop-path-preserved
loop-path-preserved g c = record {
  left = λ result new h. c.loop-path.invariant.left result new
      (goes_on (runs_exec c.args.dir.now) c.args.paths.now c.loop-path.path-index c.path-item.result _ _ _ _
      c.loop-path-test.true c.path-item.is c.in_ok-env.ensures.step result new h);
}

pub returns : goal.returns
returns g c = record {
  step = c.loop-path.invariant.left (Ok _) _
      (over (runs_exec c.args.dir.now) c.args.paths.now c.loop-path.path-index _ _ c.loop-path-test.false);
}
