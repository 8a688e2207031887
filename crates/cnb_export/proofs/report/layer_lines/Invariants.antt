use Rattle.std.proofs.Common.{◌≡◌, string_bytes, take}
use Rattle.cnb_export.specs.Report.{layer_lines}
use Rattle.cnb_export.proofs.report.layer_lines.Given as goal

abbrev pub invariant-loop-row : goal.invariant-loop-row
invariant-loop-row l = string_bytes l.lines ≡ layer_lines (take l.row-index l.rows)
