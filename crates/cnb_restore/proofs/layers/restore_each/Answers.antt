use Rattle.std.proofs.Common.{◌∙◌}
use Rattle.std.proofs.lemmas.Result.{err_from_is_err_and}
use Rattle.steps.proofs.EachLemmas.{goes_on, over, stops}
use Rattle.cnb_restore.specs.Restores.{restores_each}
use Rattle.cnb_restore.proofs.RestoreLemmas.{text_at, text_below, texts_over}
use Rattle.cnb_restore.proofs.layers.restore_each.Goals as goal

pub returns-in_err-so_far-clause-step : goal.returns-in_err-so_far-clause-step
unfolding restores_each
returns-in_err-so_far-clause-step g c =
    let exit = err_from_is_err_and c.from_residual.result c.from_residual.ensures.1 in
    rw (exit.1, exit.2) (c.loop-name.invariant.step _ _
    (stops _ _ _ _ _ _ _ _ (text_below _ _ c.loop-name-test.true)
    (text_at c.args.names.now _ _ c.loop-name-test.true) c.in_err-so_far.ensures.step))

pub loop-name-preserved : goal.loop-name-preserved
unfolding restores_each
loop-name-preserved g c = record {
  step = λ result new h. c.loop-name.invariant.step result new
      (goes_on _ _ _ _ _ _ _ _ (text_below _ _ c.loop-name-test.true)
      (text_at c.args.names.now _ _ c.loop-name-test.true) c.in_ok-so_far.ensures.step result new h);
  count = c.in_ok-so_far.ensures.count ∙ c.loop-name.invariant.count;
}

pub returns-clause-step : goal.returns-clause-step
unfolding restores_each
returns-clause-step g c = c.loop-name.invariant.step _ _ (over _ _ _ _ _ (texts_over _ _ c.loop-name-test.false))
