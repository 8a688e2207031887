use Rattle.std.proofs.Common.{◌≡◌, ◌-◌, ◌∙◌, false, sym, arith, ap, get_or}
use Rattle.std.specs.Prelude.{slice_get}
use Rattle.std.proofs.lemmas.List.{get_or_default}
use Rattle.plan_resolve.specs.Trials.{holds, is_optional_at}
use Rattle.plan_resolve.proofs.PruningLemmas.{ascending_way, on_the_way_without, on_the_way_fails_at}
use Rattle.plan_resolve.proofs.pruning.sweep.Goals as goal

pub holds-requires-clause-ascending : goal.holds-requires-clause-ascending
holds-requires-clause-ascending c = rw c.as_slice.ensures.value
    (ascending_way c.args.trial.now c.loop-index.set.items c.loop-index.invariant.way)

pub returns-then-not-is_optional-clause-fails : goal.returns-then-not-is_optional-clause-fails
returns-then-not-is_optional-clause-fails c =
    let set = c.loop-index.set.items in
    let place = get_or set (c.loop-index.index - 1) 0 in
    let fail : holds c.args.trial.now set place ≡ false = rw c.as_slice.ensures.value at
    (sym c.holds.ensures ∙ c.if-not-holds.true) in
    let at : place ≡ c.index.result.now = get_or_default set (c.loop-index.index - 1) 0 c.index.result.now
    (omega arith) ∙ sym c.index.ensures in
    let wanted = ap (λ p. is_optional_at (slice_get c.args.trial.now p)) at
    ∙ (sym c.is_optional.ensures ∙ c.if-not-is_optional.true) in
    on_the_way_fails_at c.args.trial.now set (c.loop-index.index - 1) c.loop-index.invariant.way
    (omega arith) fail wanted

pub loop-index-preserved-then-not-holds : goal.loop-index-preserved-then-not-holds
loop-index-preserved-then-not-holds c =
    let set = c.loop-index.set.items in
    let place = get_or set (c.loop-index.index - 1) 0 in
    let fail : holds c.args.trial.now set place ≡ false = rw c.as_slice.ensures.value at
    (sym c.holds.ensures ∙ c.if-not-holds.true) in
    let at : place ≡ c.index.result.now = get_or_default set (c.loop-index.index - 1) 0 c.index.result.now
    (omega arith) ∙ sym c.index.ensures in
    let free = ap (λ p. is_optional_at (slice_get c.args.trial.now p)) at
    ∙ (sym c.is_optional.ensures ∙ c.if-not-is_optional.false) in
    record {
      way = rw c.remove-place.ensures.items (on_the_way_without c.args.trial.now set
          (c.loop-index.index - 1) c.loop-index.invariant.way (omega arith) fail free);
      within = omega arith;
      fewer = omega arith;
      closed = λ e. absurd (omega arith);
    }
