use Rattle.std.proofs.Common.{◌≡◌, ◌++◌, map, take}
use Rattle.cnb_restore.proofs.rows.add_names.Given as goal

abbrev pub invariant-loop-row : goal.invariant-loop-row
invariant-loop-row l = map (λ name. name.now) l.names.items ≡ map (λ name. name.now) l.initial.names.items
    ++ map (λ row. row.layer) (map (λ row. row.now) (take l.row-index l.rows))
