use Rattle.std.proofs.lemmas.Result.{err_from_is_err_and}
use Rattle.steps.proofs.EachLemmas.{goes_on, over, stops}
use Rattle.cnb_build.proofs.group.build_rows.Goals as goal

pub returns-in_err-built : goal.returns-in_err-built
returns-in_err-built g c =
    let exit = err_from_is_err_and c.from_residual.result c.from_residual.ensures.1 in
    rw (exit.1, exit.2) (record {
      step = c.loop-row.invariant.step _ _
          (stops _ _ _ c.row-item.result _ _ _ _ c.loop-row-test.true c.row-item.is c.in_err-built.ensures.step);
    })

pub loop-row-preserved : goal.loop-row-preserved
loop-row-preserved g c = record {
  step = λ result new h. c.loop-row.invariant.step result new
      (goes_on _ _ _ c.row-item.result _ _ _ _ c.loop-row-test.true c.row-item.is c.in_ok-built.ensures.step
      result new h);
  kept = c.in_ok-built.ensures.kept;
  short = c.in_ok-built.ensures.short;
}

pub returns : goal.returns
returns g c = record { step = c.loop-row.invariant.step _ _ (over _ _ _ _ _ c.loop-row-test.false) }
