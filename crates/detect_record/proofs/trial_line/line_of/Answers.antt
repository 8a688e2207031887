use Rattle.std.proofs.Common.{◌≡◌, ◌∙◌, Some, None, ap, sym}
use Rattle.plan_resolve.specs.Trials.{numbers_below}
use Rattle.detect_record.specs.Canonical.{first_step}
use Rattle.detect_record.proofs.MakingLemmas.{made_begins, made_drop, made_keep, made_next, made_shorter}
use Rattle.detect_record.proofs.trial_line.line_of.Goals as goal

pub loop-steps-init : goal.loop-steps-init
loop-steps-init c = made_begins c.args.trial.now c.new-steps.result c.in_ok-left.left.items c.new-steps.ensures
    (c.in_ok-left.ensures ∙ ap numbers_below c.in_ok-number_of.ensures)

pub returns-then-drop_to_end : goal.returns-then-drop_to_end
returns-then-drop_to_end c =
    let found : first_step c.args.trial.now c.loop-steps.left.items
    ≡ Some c.in-Some.step = cc (c.in_ok-step.ensures, c.as_slice.ensures.value, c.in-Some.is) in
    made_drop c.args.trial.now c.loop-steps.steps c.push.new.self c.loop-steps.left.items
    c.drop_to_end.new.left.items c.in-Some.step c.loop-steps.invariant found
    c.drop_to_end.ensures.left (sym c.drop_to_end.ensures.end ∙ c.if-drop_to_end.true) c.in_ok-push.ensures.ok

pub loop-steps-smaller : goal.loop-steps-smaller
loop-steps-smaller c =
    let found : first_step c.args.trial.now c.loop-steps.left.items
    ≡ Some c.in-Some.step = cc (c.in_ok-step.ensures, c.as_slice.ensures.value, c.in-Some.is) in
    made_shorter c.args.trial.now c.loop-steps.left.items c.drop_to_end.new.left.items c.in-Some.step found
    c.drop_to_end.ensures.left

pub loop-steps-preserved : goal.loop-steps-preserved
loop-steps-preserved c =
    let found : first_step c.args.trial.now c.loop-steps.left.items
    ≡ Some c.in-Some.step = cc (c.in_ok-step.ensures, c.as_slice.ensures.value, c.in-Some.is) in
    made_next c.args.trial.now c.loop-steps.steps c.push.new.self c.loop-steps.left.items
    c.drop_to_end.new.left.items c.in-Some.step c.loop-steps.invariant found
    c.drop_to_end.ensures.left (sym c.drop_to_end.ensures.end ∙ c.if-drop_to_end.false) c.in_ok-push.ensures.ok

pub returns : goal.returns
returns c =
    let none : first_step c.args.trial.now c.loop-steps.left.items
    ≡ None = cc (c.in_ok-step.ensures, c.as_slice.ensures.value, c.in_default.is) in
    made_keep c.args.trial.now c.loop-steps.steps c.loop-steps.left.items c.loop-steps.invariant none
