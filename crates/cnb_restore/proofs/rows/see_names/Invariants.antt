use Rattle.std.proofs.Common.{take}
use Rattle.cnb_restore.specs.RestoresFrom.{HavePartNames}
use Rattle.cnb_restore.proofs.rows.see_names.Given as goal

abbrev pub invariant-loop-row : goal.invariant-loop-row
invariant-loop-row l = HavePartNames (take l.row-index l.rows)
