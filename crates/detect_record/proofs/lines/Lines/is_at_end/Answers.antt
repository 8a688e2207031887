use Rattle.std.proofs.Common.{◌∙◌, ap}
use Rattle.detect_record.specs.LinesLeft.{is_at_end}
use Rattle.detect_record.proofs.LinesLemmas.{empty_test}
use Rattle.detect_record.proofs.lines.Lines.is_at_end.Goals as goal

pub returns : goal.returns
returns c = c.is_empty.ensures ∙ empty_test c.self.inside.left.now ∙ ap is_at_end c.self.view_is
