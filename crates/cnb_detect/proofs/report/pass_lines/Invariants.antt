use Rattle.std.proofs.Common.{◌≡◌, string_bytes, take}
use Rattle.cnb_detect.specs.Report.{pass_lines}
use Rattle.cnb_detect.proofs.report.pass_lines.Given as goal

abbrev pub invariant-loop-row : goal.invariant-loop-row
invariant-loop-row l = string_bytes l.text ≡ pass_lines (take l.row-index l.group)
