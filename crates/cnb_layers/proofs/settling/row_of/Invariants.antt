use Rattle.std.proofs.Common.{◌≡◌, drop}
use Rattle.cnb_layers.specs.Settling.{row_of}
use Rattle.cnb_layers.proofs.settling.row_of.Given as goal

abbrev pub invariant-loop-row : goal.invariant-loop-row
invariant-loop-row l = row_of (drop l.row-index l.rows) l.id l.layer ≡ row_of l.rows l.id l.layer
