use Rattle.std.proofs.Common.{◌≡◌, ◌≤◌, length, sym, ◌∙◌, ap, Some, None, arith}
use Rattle.plan_resolve.specs.Trials.{kept_of, numbers_below, places}
use Rattle.plan_resolve.specs.Choices.{choices_of}
use Rattle.plan_resolve.proofs.ChoiceLemmas.{length-choices}
use Rattle.plan_resolve.proofs.NearLemmas.{ascending-numbers}
use Rattle.plan_resolve.proofs.PruningLemmas.{fails_at_once}
use Rattle.plan_resolve.proofs.ResolutionLemmas.{next_fail, next_fails, next_passes, none_left}
use Rattle.plan_resolve.proofs.resolution.first_passing.Goals as goal
use Rattle.plan_resolve.proofs.resolution.first_passing.Goals.{in-Some-failing}
use Rattle.plan_resolve.proofs.resolution.first_passing.Goals.{in_default-failing+in_ok-places+in_default-2}

pub overflow_add-number : goal.overflow_add-number
overflow_add-number c = let fail = rw c.in-Some.is at c.in_ok-count.ensures.dead in omega (arith, fail.within)

pub loop-number-smaller-in-Some : goal.loop-number-smaller-in-Some
loop-number-smaller-in-Some c = let fail = rw c.in-Some.is at c.in_ok-count.ensures.dead in omega (arith, fail.some)

pub loop-number-preserved-in-Some : goal.loop-number-preserved-in-Some
loop-number-preserved-in-Some c =
    let rows = c.args.rows.now in
    let fail = rw c.in-Some.is at c.in_ok-count.ensures.dead in
    c.loop-number.invariant ∙ next_fail rows (choices_of rows) c.loop-number.number c.in-Some.count
    (omega (arith, fail.within, length-choices rows)) fail.each

pub failing-requires : goal.failing-requires
failing-requires c = rw (c.as_slice.ensures.value, c.in_ok-all.ensures) (ascending-numbers (length c.args.rows.now))

pub kept_places-requires : goal.kept_places-requires
kept_places-requires c = let len = rw c.in_default.is at c.in_ok-count.ensures.len
    in rw c.rows-trial.ensures (omega (arith, c.requires.len))

pub returns-in-Some-2 : goal.returns-in-Some-2
returns-in-Some-2 c =
    let rows = c.args.rows.now in
    let trial = c.choose.new.prefix.rows.items in
    let here = rw c.in_default.is at c.in_ok-count.ensures.trial in
    let kept : Some c.in-Some-2.places.items ≡ kept_of trial = rw
    (c.in-Some-2.is, c.rows-trial.ensures) at c.in_ok-places.ensures in
    let resolved = rw (c.rows-trial.ensures, c.as_slice-in-Some-2.ensures.value) at c.in_ok-resolved.ensures in
    ap Some resolved
    ∙ sym (c.loop-number.invariant ∙ next_passes rows (choices_of rows) c.loop-number.number trial
    c.in-Some-2.places.items here (sym kept))

pub loop-number-preserved : goal.loop-number-preserved
loop-number-preserved c =
    let rows = c.args.rows.now in
    let number = c.loop-number.number in
    let trial = c.choose.new.prefix.rows.items in
    let here = rw c.in_default.is at c.in_ok-count.ensures.trial in
    let len = rw c.in_default.is at c.in_ok-count.ensures.len in
    let all : c.in_ok-all.all.items ≡ places trial = c.in_ok-all.ensures ∙ ap numbers_below (sym len) in
    elim c.match-failing.branch [
      | in-Some-failing w ↦
          let within = rw (c.as_slice.ensures.value, all) at w.in-Some-failing.ensures.within in
          let fails = rw (c.rows-trial.ensures, c.as_slice.ensures.value, all) at w.in-Some-failing.ensures.fails in
          c.loop-number.invariant ∙ next_fails rows (choices_of rows) number trial here
          (fails_at_once trial w.in-Some-failing.index within fails)
      | in_default-failing+in_ok-places+in_default-2 w ↦
          let kept : None ≡ kept_of trial = rw (w.in_default-2.is, c.rows-trial.ensures) at w.in_ok-places.ensures in
          c.loop-number.invariant ∙ next_fails rows (choices_of rows) number trial here (sym kept)
    ]

pub returns : goal.returns
returns c =
    let rows = c.args.rows.now in
    let all : length (choices_of rows) ≤ c.loop-number.number = omega (arith, length-choices rows) in
    sym (c.loop-number.invariant ∙ none_left rows (choices_of rows) c.loop-number.number all)
