use Rattle.std.proofs.Common.{◌+◌}
use Rattle.detect_record.proofs.GroupTextLemmas.{passing_put, passing_refused}
use Rattle.detect_record.proofs.making_groups.put_passing.Goals as goal

pub returns-in-Ok : goal.returns-in-Ok
returns-in-Ok c =
    passing_put c.args.rows.now c.in_ok-count.count (c.args.trial + 1) c.args.text.now c.put_chosen_count.new.text
    c.put_trials.new.text c.put_trials.result c.in_ok-count.ensures c.in-Ok.ensures c.put_trials.ensures

pub returns-in-Err : goal.returns-in-Err
returns-in-Err c =
    passing_refused c.args.rows.now c.in_ok-count.count (c.args.trial + 1) c.args.text.now
    c.put_chosen_count.new.text c.put_chosen_count.new.text c.in-Err.fault c.in_ok-count.ensures
    c.in-Err.ensures
