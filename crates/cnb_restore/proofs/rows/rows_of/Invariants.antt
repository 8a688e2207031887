use Rattle.std.proofs.Common.{◌≡◌, map, take}
use Rattle.cnb_restore.specs.Rows.{rows_of}
use Rattle.cnb_restore.proofs.rows.rows_of.Given as goal

abbrev pub invariant-loop-row : goal.invariant-loop-row
invariant-loop-row l = map (λ row. row.now) l.found.items ≡ rows_of l.id (take l.row-index l.rows)
