use Rattle.detect_record.proofs.PlainLemmas.{no_id}
use Rattle.detect_record.proofs.line_reading.id_from.Goals as goal

pub returns-in_default : goal.returns-in_default
returns-in_default c = no_id c.args.text.now c.in_default.ensures.cases.0
