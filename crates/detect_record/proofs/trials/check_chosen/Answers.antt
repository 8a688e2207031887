use Rattle.std.proofs.Common.{◌≤◌, ◌∙◌, ◌+◌, true, length, drop, ap, sym, arith}
use Rattle.plan_resolve.specs.Choices.{choices_of}
use Rattle.plan_resolve.proofs.ChoiceLemmas.{length-choices}
use Rattle.detect_record.specs.Record.{AtEnd, trying}
use Rattle.detect_record.specs.Following.{checks}
use Rattle.detect_record.proofs.FollowingLemmas.{answers_from, err_answers, is_last, next_trial, no_trial, none_behind}
use Rattle.detect_record.proofs.GroupLemmas.{refused_answers}
use Rattle.detect_record.proofs.trials.check_chosen.Goals as goal

pub returns-in_err-places : goal.returns-in_err-places
returns-in_err-places c = λ known groups.
    let choices = choices_of c.args.rows.now in
    let number = c.loop-number.number in
    err_answers _ c.in_err-places.field-0.0 _ _ _ c.from_residual-in_err-places.ensures.1
    (next_trial _ known c.args.place c.args.rows.now groups number choices c.chosen_trial.new.out.items
    c.as_slice-chosen.result.now c.loop-number.lines
    (c.loop-number.invariant known groups) c.in_ok-chosen_trial.ensures.trial c.as_slice-chosen.ensures.value)
    (c.in_err-places.ensures known c.args.place c.args.rows.now groups number (drop (number + 1) choices)
    (is_last choices number c.args.count (length-choices c.args.rows.now ∙ sym c.requires.count) (omega arith)))

pub returns-in-Some : goal.returns-in-Some
returns-in-Some c = λ known groups.
    let choices = choices_of c.args.rows.now in
    let number = c.loop-number.number in
    answers_from _ _ _
    (next_trial _ known c.args.place c.args.rows.now groups number choices c.chosen_trial.new.out.items
    c.as_slice-chosen.result.now c.loop-number.lines
    (c.loop-number.invariant known groups) c.in_ok-chosen_trial.ensures.trial c.as_slice-chosen.ensures.value
    ∙ (rw c.in-Some.is at c.in_ok-places.ensures) known c.args.place c.args.rows.now groups number
    (drop (number + 1) choices)
    (is_last choices number c.args.count (length-choices c.args.rows.now ∙ sym c.requires.count) (omega arith))
    ∙ ap (λ set. checks known (AtEnd c.args.place c.args.rows.now number c.as_slice-chosen.result.now set)
    c.check_next.new.lines) (sym c.as_slice.ensures.value))
    (c.finish.ensures known)

pub loop-number-preserved : goal.loop-number-preserved
loop-number-preserved c = λ known groups.
    let choices = choices_of c.args.rows.now in
    let number = c.loop-number.number in
    next_trial _ known c.args.place c.args.rows.now groups number choices c.chosen_trial.new.out.items
    c.as_slice-chosen.result.now c.loop-number.lines
    (c.loop-number.invariant known groups) c.in_ok-chosen_trial.ensures.trial c.as_slice-chosen.ensures.value
    ∙ (rw c.in_default.is at c.in_ok-places.ensures) known c.args.place c.args.rows.now groups number
    (drop (number + 1) choices)
    (is_last choices number c.args.count (length-choices c.args.rows.now ∙ sym c.requires.count) (omega arith))

pub returns : goal.returns
returns c = λ known groups.
    let choices = choices_of c.args.rows.now in
    let number = c.loop-number.number in
    let all : length choices ≤ number = omega (arith, length-choices c.args.rows.now, c.requires.count) in
    refused_answers c.missing.result (c.loop-number.lines.taken + 1) _ c.missing.ensures
    (c.loop-number.invariant known groups
    ∙ (ap (λ ts. checks known (trying true c.args.place c.args.rows.now groups number ts) c.loop-number.lines)
    (none_behind choices number all)
    ∙ no_trial known c.args.place c.args.rows.now groups number c.loop-number.lines.taken c.loop-number.lines.left))
