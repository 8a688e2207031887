use Rattle.std.proofs.Common.{ap, refl, sym, Ok}
use Rattle.std.proofs.lemmas.Result.{err_from_is_err_and}
use Rattle.steps.proofs.EachLemmas.{goes_on, over, stops}
use Rattle.steps.proofs.StepLemmas.{ended, given, no_memory, went}
use Rattle.tree_store.specs.declared.fault.StoreFault.TheVariants as stored
use Rattle.cnb_layers.specs.declared.fault.ExportFault.TheVariants.{Store}
use Rattle.cnb_layers.specs.Patterns.{adds_slice, reads_patterns}
use Rattle.cnb_layers.proofs.ReadSteps.{same_for}
use Rattle.cnb_layers.proofs.patterns.parse_slices.Goals as goal

pub returns-in_err-patterns : goal.returns-in_err-patterns
unfolding adds_slice
returns-in_err-patterns c =
    let exit = err_from_is_err_and c.from_residual.result c.from_residual.ensures.1 in
    rw (exit.1, exit.2) (record {
      step = λ outside. c.loop-texts.invariant outside _
          (stops _ _ _ c.texts-item.result _ _ _ _ c.loop-texts-test.true c.texts-item.is
          (ended _ _ _ _ _ (same_for (reads_patterns c.args.id.now) _ _ _ _ _ c.as_slice.ensures
          (c.in_err-patterns.ensures.step outside))));
    })

pub returns-in_err-push : goal.returns-in_err-push
unfolding adds_slice
returns-in_err-push c =
    let exit = err_from_is_err_and c.from_residual-in_err-push.result c.from_residual-in_err-push.ensures.1 in
    rw (exit.1, exit.2) (record {
      step = λ outside. c.loop-texts.invariant outside _
          (stops _ _ _ c.texts-item.result _ _ _ _ c.loop-texts-test.true c.texts-item.is
          (went _ _ _ _ _ _ _ (same_for (reads_patterns c.args.id.now) _ _ _ _ _ c.as_slice.ensures
          (c.in_ok-patterns.ensures.step outside)) (no_memory _ _ _ (Store stored.Memory) refl)));
    })

pub loop-texts-preserved : goal.loop-texts-preserved
unfolding adds_slice
loop-texts-preserved c = λ outside result h.
    c.loop-texts.invariant outside result (goes_on _ _ _ c.texts-item.result _ _ _ _ c.loop-texts-test.true
    c.texts-item.is (went _ _ _ _ _ _ _ (same_for (reads_patterns c.args.id.now) _ _ _ _ _ c.as_slice.ensures
    (c.in_ok-patterns.ensures.step outside)) (given _ _ _ _ (ap Ok (sym c.in_ok-push.ensures.ok)))) result
    outside h)

pub returns : goal.returns
returns c = record { step = λ outside. c.loop-texts.invariant outside _ (over _ _ _ _ _ c.loop-texts-test.false) }
