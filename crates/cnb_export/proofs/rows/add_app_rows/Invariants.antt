use Rattle.std.proofs.Common.{◌≡◌, ◌++◌, map, take}
use Rattle.cnb_export.specs.Rows.{app_row}
use Rattle.cnb_export.proofs.rows.add_app_rows.Given as goal

abbrev pub invariant-loop-digest : goal.invariant-loop-digest
invariant-loop-digest l = l.rows ≡ l.initial.rows ++ map app_row (take l.digest-index l.app)
