use Rattle.std.proofs.Common.{◌≡◌, drop}
use Rattle.cnb_export.specs.Rows.{version_of}
use Rattle.cnb_export.proofs.rows.version_of.Given as goal

abbrev pub invariant-loop-row : goal.invariant-loop-row
invariant-loop-row l = version_of (drop l.row-index l.group) l.id ≡ version_of l.group l.id
