use Rattle.std.proofs.lemmas.Result.{err_from_is_err_and}
use Rattle.steps.proofs.EachLemmas.{goes_on, over, stops}
use Rattle.cnb_layers.proofs.buildpack.export_group.Goals as goal

pub returns-in_err-all : goal.returns-in_err-all
returns-in_err-all g c =
    let exit = err_from_is_err_and c.from_residual.result c.from_residual.ensures.1 in
    rw (exit.1, exit.2) (record {
      step = c.loop-row.invariant _ _
          (stops _ _ _ c.row-item.result _ _ _ _ c.loop-row-test.true c.row-item.is c.in_err-all.ensures.step);
    })

pub loop-row-preserved : goal.loop-row-preserved
loop-row-preserved g c = λ result new h. c.loop-row.invariant result new
    (goes_on _ _ _ c.row-item.result _ _ _ _ c.loop-row-test.true c.row-item.is c.in_ok-all.ensures.step result
    new h)

pub returns : goal.returns
returns g c = record { step = c.loop-row.invariant _ _ (over _ _ _ _ _ c.loop-row-test.false) }
