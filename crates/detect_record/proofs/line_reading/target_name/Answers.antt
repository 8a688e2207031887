use Rattle.detect_record.proofs.PlainLemmas.{no_target_name}
use Rattle.detect_record.proofs.line_reading.target_name.Goals as goal

pub returns-in_default : goal.returns-in_default
returns-in_default c = no_target_name c.args.text.now c.in_default.ensures.cases.0
