use Rattle.std.proofs.Common.{◌≡◌, Some}
use Rattle.std.specs.Prelude.{slice_get}
use Rattle.plan_resolve.specs.Choices.{choices_of}
use Rattle.detect_record.specs.Making.{trial_whole}
use Rattle.detect_record.proofs.GroupTextLemmas.{item_put, item_refused}
use Rattle.detect_record.proofs.making_groups.put_trials.Goals as goal

pub returns-in-Err : goal.returns-in-Err
returns-in-Err c =
    let here : slice_get (choices_of c.args.rows.now) c.loop-number.number
    ≡ Some c.as_slice.result.now = cc (c.in_ok-chosen_trial.ensures.trial, c.as_slice.ensures.value) in
    item_refused trial_whole (choices_of c.args.rows.now) c.loop-number.number c.args.last c.as_slice.result.now
    c.args.text.now c.loop-number.text c.put_trial.new.text c.put_trial.new.text c.in-Err.fault
    here c.loop-number-test.true c.loop-number.invariant c.in-Err.ensures

pub loop-number-preserved : goal.loop-number-preserved
loop-number-preserved c =
    let here : slice_get (choices_of c.args.rows.now) c.loop-number.number
    ≡ Some c.as_slice.result.now = cc (c.in_ok-chosen_trial.ensures.trial, c.as_slice.ensures.value) in
    item_put trial_whole (choices_of c.args.rows.now) c.loop-number.number c.as_slice.result.now c.args.text.now
    c.loop-number.text c.put_trial.new.text
    here c.loop-number.invariant c.in-Ok.ensures
