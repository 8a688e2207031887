use Rattle.std.proofs.Common.{arith}
use Rattle.detect_record.specs.Making.{answer_whole}
use Rattle.detect_record.proofs.PutLemmas.{items_refused}
use Rattle.detect_record.proofs.making.put_answers.Goals as goal

pub returns-in-Err : goal.returns-in-Err
returns-in-Err c =
    items_refused answer_whole c.args.rows.now c.loop-row.row-index c.row-item.result c.args.text.now
    c.loop-row.text c.put_answer.new.text c.put_answer.new.text c.in-Err.fault
    (omega arith) c.row-item.is c.loop-row.invariant c.in-Err.ensures
