use Rattle.std.proofs.Common.{Ok}
use Rattle.std.proofs.lemmas.Result.{err_from_is_err_and}
use Rattle.steps.proofs.EachLemmas.{goes_on, over, stops}
use Rattle.cnb_launch.specs.Unpacking.{lays_row}
use Rattle.cnb_launch.proofs.UnpackLemmas.{one_row}
use Rattle.cnb_launch.proofs.unpacking.lay_rows.Goals as goal

pub lay_row-requires-clause-row : goal.lay_row-requires-clause-row
lay_row-requires-clause-row g c = one_row c.args.rows.now c.loop-row.row-index c.row-item.result
    c.loop-row-test.true c.row-item.is c.requires.rows

pub returns-in_err-lay_row : goal.returns-in_err-lay_row
returns-in_err-lay_row g c =
    let exit = err_from_is_err_and c.from_residual.result c.from_residual.ensures.1 in
    rw (exit.1, exit.2) (record {
      step = c.loop-row.invariant.left _ _
          (stops (lays_row c.args.store.now c.args.root.now) c.args.rows.now c.loop-row.row-index c.row-item.result
          tt _ _ _ c.loop-row-test.true c.row-item.is c.in_err-lay_row.ensures.step);
    })

pub loop-row-preserved : goal.loop-row-preserved
loop-row-preserved g c = record {
  left = λ result new h. c.loop-row.invariant.left result new
      (goes_on (lays_row c.args.store.now c.args.root.now) c.args.rows.now c.loop-row.row-index c.row-item.result
      tt tt _ _ c.loop-row-test.true c.row-item.is c.in_ok-lay_row.ensures.step result new h);
}

pub returns : goal.returns
returns g c = record {
  step = c.loop-row.invariant.left (Ok tt) _
      (over (lays_row c.args.store.now c.args.root.now) c.args.rows.now c.loop-row.row-index tt _
      c.loop-row-test.false);
}
