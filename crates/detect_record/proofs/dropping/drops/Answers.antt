use Rattle.detect_record.proofs.FollowLemmas.{dropped}
use Rattle.detect_record.proofs.dropping.drops.Goals as goal

pub returns-clause-law : goal.returns-clause-law
returns-clause-law c = dropped c.args.trial.now c.in_ok-left.left.items c.args.steps.now c.follow_to_drop.result
    c.in_ok-left.ensures c.follow_to_drop.ensures
