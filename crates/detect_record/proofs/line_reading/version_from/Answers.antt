use Rattle.detect_record.proofs.PlainLemmas.{no_version}
use Rattle.detect_record.proofs.line_reading.version_from.Goals as goal

pub returns-in_default : goal.returns-in_default
returns-in_default c = no_version c.args.text.now c.in_default.ensures.cases.0
