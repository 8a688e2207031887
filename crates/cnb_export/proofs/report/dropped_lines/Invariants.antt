use Rattle.std.proofs.Common.{◌≡◌, string_bytes, take}
use Rattle.cnb_export.specs.Report.{dropped_lines}
use Rattle.cnb_export.proofs.report.dropped_lines.Given as goal

abbrev pub invariant-loop-number : goal.invariant-loop-number
invariant-loop-number l = string_bytes l.lines ≡ dropped_lines (take l.number-index l.numbers)
