use Rattle.detect_record.proofs.CutLemmas.{cut_shorter}
use Rattle.detect_record.proofs.LinesLemmas.{lines_fault, lines_read, lines_whole}
use Rattle.detect_record.proofs.line_reading.first_line.Goals as goal

pub returns-in_default-clause-bad : goal.returns-in_default-clause-bad
returns-in_default-clause-bad c = lines_whole c.args.bytes.now c.in_default.ensures

pub returns-in-Ok-clause-line : goal.returns-in-Ok-clause-line
returns-in-Ok-clause-line c = lines_read c.args.bytes.now c.in-Some.text.now c.in-Some.rest.now c.in-Ok.line
    c.in-Some.ensures c.in-Ok.ensures

pub returns-in-Ok-clause-rest : goal.returns-in-Ok-clause-rest
returns-in-Ok-clause-rest c = cut_shorter 10 c.args.bytes.now c.in-Some.text.now c.in-Some.rest.now c.in-Some.ensures

pub returns-in-Err-clause-bad : goal.returns-in-Err-clause-bad
returns-in-Err-clause-bad c = lines_fault c.args.bytes.now c.in-Some.text.now c.in-Some.rest.now c.in-Err.fault
    c.in-Some.ensures c.in-Err.ensures
