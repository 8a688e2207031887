use Rattle.std.proofs.Common.{◌≤◌, ◌∙◌, ◌+◌, false, length, drop, ap, arith}
use Rattle.plan_resolve.specs.Choices.{choices_of}
use Rattle.plan_resolve.proofs.ChoiceLemmas.{length-choices}
use Rattle.detect_record.specs.Record.{trying}
use Rattle.detect_record.specs.Following.{checks}
use Rattle.detect_record.proofs.FollowingLemmas.{err_goes, failing_trial, none_behind}
use Rattle.detect_record.proofs.trials.check_trials.Goals as goal

pub returns-in_err-check_drop : goal.returns-in_err-check_drop
returns-in_err-check_drop c = λ known place groups.
    let choices = choices_of c.args.rows.now in
    let number = c.loop-number.number in
    err_goes _ c.in_err-check_drop.field-0.0 _ _ _ _ c.from_residual-in_err-check_drop.ensures.1
    (failing_trial _ known place c.args.rows.now groups number choices c.chosen_trial.new.out.items
    c.as_slice.result.now c.loop-number.lines
    (c.loop-number.invariant known place groups) c.in_ok-chosen_trial.ensures.trial c.as_slice.ensures.value)
    (c.in_err-check_drop.ensures known place c.args.rows.now groups number (drop (number + 1) choices))

pub loop-number-preserved : goal.loop-number-preserved
loop-number-preserved c = λ known place groups.
    let choices = choices_of c.args.rows.now in
    let number = c.loop-number.number in
    failing_trial _ known place c.args.rows.now groups number choices c.chosen_trial.new.out.items
    c.as_slice.result.now c.loop-number.lines
    (c.loop-number.invariant known place groups) c.in_ok-chosen_trial.ensures.trial c.as_slice.ensures.value
    ∙ c.in_ok-check_drop.ensures known place c.args.rows.now groups number (drop (number + 1) choices)

pub returns : goal.returns
returns c = λ known place groups.
    let choices = choices_of c.args.rows.now in
    let number = c.loop-number.number in
    let all : length choices ≤ number = omega (arith, length-choices c.args.rows.now, c.requires.count) in
    c.loop-number.invariant known place groups
    ∙ ap (λ ts. checks known (trying false place c.args.rows.now groups number ts) c.loop-number.lines)
    (none_behind choices number all)
