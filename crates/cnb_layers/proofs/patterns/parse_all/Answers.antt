use Rattle.std.proofs.Common.{ap, refl, sym, Ok}
use Rattle.std.proofs.lemmas.Result.{err_from_is_err_and}
use Rattle.steps.proofs.EachLemmas.{goes_on, over, stops}
use Rattle.steps.proofs.StepLemmas.{ended, given, no_memory, went}
use Rattle.tree_store.specs.declared.fault.StoreFault.TheVariants as stored
use Rattle.cnb_layers.specs.declared.fault.ExportFault.TheVariants.{Store}
use Rattle.cnb_layers.specs.Patterns.{adds_pattern, reads_pattern}
use Rattle.cnb_layers.proofs.patterns.parse_all.Goals as goal

pub returns-in_err-pattern : goal.returns-in_err-pattern
unfolding adds_pattern reads_pattern
returns-in_err-pattern c =
    let exit = err_from_is_err_and c.from_residual.result c.from_residual.ensures.1 in
    rw (exit.1, exit.2) (record {
      step = λ outside. c.loop-text.invariant outside _
          (stops _ _ _ c.text-item.result _ _ _ _ c.loop-text-test.true c.text-item.is
          (ended _ _ _ _ _ (refl, c.in_err-pattern.ensures)));
    })

pub returns-in_err-push : goal.returns-in_err-push
unfolding adds_pattern reads_pattern
returns-in_err-push c =
    let exit = err_from_is_err_and c.from_residual-in_err-push.result c.from_residual-in_err-push.ensures.1 in
    rw (exit.1, exit.2) (record {
      step = λ outside. c.loop-text.invariant outside _
          (stops _ _ _ c.text-item.result _ _ _ _ c.loop-text-test.true c.text-item.is
          (went _ _ _ _ _ _ _ (refl, c.in_ok-pattern.ensures) (no_memory _ _ _ (Store stored.Memory) refl)));
    })

pub loop-text-preserved : goal.loop-text-preserved
unfolding adds_pattern reads_pattern
loop-text-preserved c = λ outside result h.
    c.loop-text.invariant outside result (goes_on _ _ _ c.text-item.result _ _ _ _ c.loop-text-test.true
    c.text-item.is (went _ _ _ _ _ _ _ (refl, c.in_ok-pattern.ensures)
    (given _ _ _ _ (ap Ok (sym c.in_ok-push.ensures.ok)))) result outside h)

pub returns : goal.returns
returns c = record { step = λ outside. c.loop-text.invariant outside _ (over _ _ _ _ _ c.loop-text-test.false) }
