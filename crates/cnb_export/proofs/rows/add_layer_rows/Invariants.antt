use Rattle.std.proofs.Common.{◌≡◌, ◌++◌, map, take, true}
use Rattle.cnb_export.specs.Rows.{layer_row}
use Rattle.cnb_export.proofs.PlaceLaws.{are_placed}
use Rattle.cnb_export.proofs.rows.add_layer_rows.Given as goal

abbrev pub invariant-loop-layer : goal.invariant-loop-layer
invariant-loop-layer l = record {
  pushed : l.rows ≡ l.initial.rows ++ map (layer_row l.group) (take l.layer-index l.layers);
  placed : are_placed l.group (take l.layer-index l.layers) ≡ true;
}
