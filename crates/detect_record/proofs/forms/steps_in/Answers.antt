use Rattle.std.proofs.Common.{◌≡◌, Some, None}
use Rattle.detect_record.specs.Forms.{step_in, steps_in}
use Rattle.detect_record.proofs.StepLemmas.{steps_end, steps_next, steps_refused, steps_refused_end}
use Rattle.detect_record.proofs.forms.steps_in.Goals as goal

pub returns-in_default-step_in : goal.returns-in_default-step_in
returns-in_default-step_in c =
    let none : step_in c.in-Some.text.now ≡ None = cc in
    steps_refused (steps_in c.args.text.now) c.loop-text.left.now c.in-Some.text.now c.in-Some.rest.now
    c.loop-text.steps c.loop-text.invariant c.in-Some.ensures none

pub loop-text-preserved : goal.loop-text-preserved
loop-text-preserved c =
    let read : step_in c.in-Some.text.now ≡ Some c.in-Some-step_in.step = cc in
    steps_next (steps_in c.args.text.now) c.loop-text.left.now c.in-Some.text.now c.in-Some.rest.now
    c.loop-text.steps c.push.new.self c.in-Some-step_in.step c.loop-text.invariant
    c.in-Some.ensures read c.in_ok-push.ensures.ok

pub returns-in_default-step_in-2 : goal.returns-in_default-step_in-2
returns-in_default-step_in-2 c =
    let none : step_in c.loop-text.left.now ≡ None = cc in
    steps_refused_end (steps_in c.args.text.now) c.loop-text.left.now c.loop-text.steps c.loop-text.invariant
    c.in_default.ensures none

pub returns : goal.returns
returns c =
    let read : step_in c.loop-text.left.now ≡ Some c.in-Some-step_in-2.step = cc in
    steps_end (steps_in c.args.text.now) c.loop-text.left.now c.loop-text.steps c.push-2.new.self
    c.in-Some-step_in-2.step c.loop-text.invariant c.in_default.ensures read c.in_ok-push-2.ensures.ok
