use Rattle.detect_record.proofs.GroupTextLemmas.{failing_put, failing_refused}
use Rattle.detect_record.proofs.making_groups.put_failing.Goals as goal

pub returns-in-Ok : goal.returns-in-Ok
returns-in-Ok c =
    failing_put c.args.rows.now c.in_ok-count.count c.args.text.now c.put_count.new.text c.put_trials.new.text
    c.put_trials.result c.in_ok-count.ensures c.in-Ok.ensures c.put_trials.ensures

pub returns-in-Err : goal.returns-in-Err
returns-in-Err c =
    failing_refused c.args.rows.now c.in_ok-count.count c.args.text.now c.put_count.new.text c.put_count.new.text
    c.in-Err.fault c.in_ok-count.ensures c.in-Err.ensures
