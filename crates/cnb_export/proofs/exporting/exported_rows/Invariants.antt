use Rattle.std.proofs.Common.{◌≡◌, map, take}
use Rattle.cnb_export.specs.Exports.{exported_row}
use Rattle.cnb_export.proofs.exporting.exported_rows.Given as goal

abbrev pub invariant-loop-layer : goal.invariant-loop-layer
invariant-loop-layer l = l.rows ≡ map exported_row (take l.layer-index l.layers)
