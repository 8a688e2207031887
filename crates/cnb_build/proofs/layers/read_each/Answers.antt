use Rattle.std.proofs.lemmas.Result.{err_from_is_err_and}
use Rattle.steps.proofs.EachLemmas.{goes_on, over, stops}
use Rattle.cnb_build.proofs.layers.read_each.Goals as goal

pub returns-in_err-found-clause-step : goal.returns-in_err-found-clause-step
returns-in_err-found-clause-step g c =
    let exit = err_from_is_err_and c.from_residual.result c.from_residual.ensures.1 in
    rw (exit.1, exit.2) (c.loop-layer.invariant.step _ _
    (stops _ _ _ c.layer-item.result _ _ _ _ c.loop-layer-test.true c.layer-item.is
    c.in_err-found.ensures.step))

pub loop-layer-preserved : goal.loop-layer-preserved
loop-layer-preserved g c = record {
  step = λ result new h. c.loop-layer.invariant.step result new
      (goes_on _ _ _ c.layer-item.result _ _ _ _ c.loop-layer-test.true c.layer-item.is c.in_ok-found.ensures.step
      result new h);
  short = c.in_ok-found.ensures.short;
}

pub returns-clause-step : goal.returns-clause-step
returns-clause-step g c = c.loop-layer.invariant.step _ _ (over _ _ _ _ _ c.loop-layer-test.false)
