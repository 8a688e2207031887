use Rattle.detect_record.proofs.FollowLemmas.{kept}
use Rattle.detect_record.proofs.dropping.keeps.Goals as goal

pub returns-then-is_closed-clause-law : goal.returns-then-is_closed-clause-law
returns-then-is_closed-clause-law c =
    kept c.args.trial.now c.in_ok-left.left.items c.follow.new.left.items c.as_slice.result.now
    c.as_slice-then-not-is_nothing.result.now c.args.steps.now c.is_nothing.result c.is_closed.result
    c.in_ok-left.ensures c.if-follow.ensures.followed c.is_nothing.ensures c.if-not-is_nothing.true
    c.as_slice.ensures.value c.is_closed.ensures c.if-is_closed.true
    c.as_slice-then-not-is_nothing.ensures.value
