use Rattle.detect_record.proofs.LineLawLemmas.{line_back, lines_back}
use Rattle.detect_record.proofs.laws.lines_read_back.Goals as goal

pub returns : goal.returns
returns c = record { line = line_back; lines = lines_back }
