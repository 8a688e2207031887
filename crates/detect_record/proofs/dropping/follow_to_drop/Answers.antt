use Rattle.std.proofs.Common.{sym}
use Rattle.detect_record.proofs.FollowLemmas.{drops_not, last_fits_not, last_required, last_optional}
use Rattle.detect_record.proofs.dropping.follow_to_drop.Goals as goal
use Rattle.detect_record.proofs.dropping.follow_to_drop.Goals.{then-not-follow-via-then-not-follow}
use Rattle.detect_record.proofs.dropping.follow_to_drop.Goals.{then-not-follow-via-else-not-follow+then-not-step_fits}

pub returns-then-not-follow : goal.returns-then-not-follow
returns-then-not-follow c = elim c.then-not-follow.branch [
  | then-not-follow-via-then-not-follow w ↦
      sym (drops_not c.args.trial.now c.args.left.now.items c.args.steps.now c.in-Some.before.now
      c.in-Some.last.now c.in-Some.ensures.cases.0 w.if-not-follow.ensures.refused)
  | then-not-follow-via-else-not-follow+then-not-step_fits w ↦
      last_fits_not c.args.trial.now c.args.left.now.items c.follow.new.left.items w.as_slice.result.now
      c.args.steps.now c.in-Some.before.now c.in-Some.last.now w.step_fits.result
      c.in-Some.ensures.cases.0 w.if-not-follow.ensures.followed w.as_slice.ensures.value w.step_fits.ensures
      w.if-not-step_fits.true
]

pub returns-then-not-may_drop : goal.returns-then-not-may_drop
returns-then-not-may_drop c =
    last_required c.args.trial.now c.args.left.now.items c.follow.new.left.items c.as_slice.result.now
    c.args.steps.now c.in-Some.before.now c.in-Some.last.now c.step_fits.result c.may_drop.result
    c.in-Some.ensures.cases.0 c.if-not-follow.ensures.followed c.as_slice.ensures.value c.step_fits.ensures
    c.if-not-step_fits.false c.may_drop.ensures c.if-not-may_drop.true

pub returns-else-not-may_drop : goal.returns-else-not-may_drop
returns-else-not-may_drop c =
    last_optional c.args.trial.now c.args.left.now.items c.follow.new.left.items c.as_slice.result.now
    c.drop_place.new.left.items c.as_slice-else-not-may_drop.result.now
    c.args.steps.now c.in-Some.before.now c.in-Some.last.now c.step_fits.result c.may_drop.result c.is_nothing.result
    c.in-Some.ensures.cases.0 c.if-not-follow.ensures.followed c.as_slice.ensures.value c.step_fits.ensures
    c.if-not-step_fits.false c.may_drop.ensures c.if-not-may_drop.false
    c.drop_place.ensures c.as_slice-else-not-may_drop.ensures.value c.is_nothing.ensures
