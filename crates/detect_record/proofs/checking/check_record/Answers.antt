use Rattle.detect_record.proofs.CheckLaws.{answer_of_lines, asked_of, first_of}
use Rattle.detect_record.proofs.checking.check_record.Goals as goal

pub returns-clause-check : goal.returns-clause-check
returns-clause-check c =
    answer_of_lines c.args.catalog.now c.args.order.now c.args.bytes.now c.new.result c.check_lines.result
    c.new.ensures.taken c.new.ensures.left c.check_lines.ensures

pub returns-clause-first : goal.returns-clause-first
returns-clause-first c =
    first_of c.args.catalog.now c.args.order.now c.args.bytes.now c.check_lines.result
    (answer_of_lines c.args.catalog.now c.args.order.now c.args.bytes.now c.new.result c.check_lines.result
    c.new.ensures.taken c.new.ensures.left c.check_lines.ensures)

pub returns-clause-asked : goal.returns-clause-asked
returns-clause-asked c =
    asked_of c.args.catalog.now c.args.order.now c.args.bytes.now c.check_lines.result
    (answer_of_lines c.args.catalog.now c.args.order.now c.args.bytes.now c.new.result c.check_lines.result
    c.new.ensures.taken c.new.ensures.left c.check_lines.ensures)
