use Rattle.std.proofs.Common.{◌∙◌}
use Rattle.std.proofs.lemmas.Result.{err_from_is_err_and}
use Rattle.steps.proofs.EachLemmas.{goes_on, over, stops}
use Rattle.cnb_restore.specs.Restores.{restores_group}
use Rattle.cnb_restore.proofs.buildpack.restore_group.Goals as goal

pub returns-in_err-so_far-clause-step : goal.returns-in_err-so_far-clause-step
unfolding restores_group
returns-in_err-so_far-clause-step g c =
    let exit = err_from_is_err_and c.from_residual.result c.from_residual.ensures.1 in
    rw (exit.1, exit.2) (c.loop-row.invariant.step _ _
    (stops _ _ _ c.row-item.result _ _ _ _ c.loop-row-test.true c.row-item.is c.in_err-so_far.ensures.step))

pub loop-row-preserved : goal.loop-row-preserved
unfolding restores_group
loop-row-preserved g c = record {
  step = λ result new h. c.loop-row.invariant.step result new
      (goes_on _ _ _ c.row-item.result _ _ _ _ c.loop-row-test.true c.row-item.is c.in_ok-so_far.ensures.step
      result new h);
  count = c.in_ok-so_far.ensures.count ∙ c.loop-row.invariant.count;
}

pub returns-clause-step : goal.returns-clause-step
unfolding restores_group
returns-clause-step g c = c.loop-row.invariant.step _ _ (over _ _ _ _ _ c.loop-row-test.false)
