use Rattle.std.proofs.Common.{◌≡◌, map, drop}
use Rattle.cnb_restore.specs.Rows.{row_of}
use Rattle.cnb_restore.proofs.rows.row_of.Given as goal

abbrev pub invariant-loop-row : goal.invariant-loop-row
invariant-loop-row l = row_of l.name (map (λ row. row.now) (drop l.row-index l.rows))
    ≡ row_of l.name (map (λ row. row.now) l.rows)
