use Rattle.detect_core.specs.Kept.{kept_says}
use Rattle.detect_record.proofs.GroupTextLemmas.{groups_put}
use Rattle.detect_record.proofs.making_groups.put_groups.Goals as goal

pub returns-in-Ok : goal.returns-in-Ok
returns-in-Ok c =
    groups_put (kept_says c.args.target.now c.args.kept.now) c.args.place c.args.trial c.args.walk.now
    c.put_passed_groups.new.walk c.args.text.now c.put_passed_groups.new.text c.put_last_group.new.text
    c.put_last_group.result
    c.in-Ok.ensures.put c.in-Ok.ensures.walk c.put_last_group.ensures
