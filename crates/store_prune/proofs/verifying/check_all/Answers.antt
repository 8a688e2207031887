use Rattle.std.proofs.Common.{Ok}
use Rattle.std.proofs.lemmas.Result.{err_from_is_err_and}
use Rattle.steps.proofs.EachLemmas.{goes_on, over, stops}
use Rattle.store_prune.specs.Verifies.{checks_all, checks_next}
use Rattle.store_prune.proofs.verifying.check_all.Goals as goal

pub returns-in_err-check_next : goal.returns-in_err-check_next
unfolding checks_all
returns-in_err-check_next g c =
    let exit = err_from_is_err_and c.from_residual.result c.from_residual.ensures.1 in
    rw (exit.1, exit.2) (record {
      steps = c.loop-digest.invariant.left _ _
          (stops (checks_next c.args.store.now) c.args.digests.now c.loop-digest.digest-index c.digest-item.result
          tt _ _ _ c.loop-digest-test.true c.digest-item.is c.in_err-check_next.ensures.steps);
    })

pub loop-digest-preserved : goal.loop-digest-preserved
loop-digest-preserved g c = record {
  left = λ result new h. c.loop-digest.invariant.left result new
      (goes_on (checks_next c.args.store.now) c.args.digests.now c.loop-digest.digest-index c.digest-item.result
      tt tt _ _ c.loop-digest-test.true c.digest-item.is c.in_ok-check_next.ensures.steps result new h);
}

pub returns : goal.returns
unfolding checks_all
returns g c = record {
  steps = c.loop-digest.invariant.left (Ok tt) _
      (over (checks_next c.args.store.now) c.args.digests.now c.loop-digest.digest-index tt _
      c.loop-digest-test.false);
}
