use Rattle.std.proofs.Common.{◌≡◌}
use Rattle.std.specs.Prelude.{fold}
use Rattle.cnb_toml.specs.Distinct.{HasKeysOf}
use Rattle.image_docs.specs.LayerRow.{layer_key, same_layer}
use Rattle.shelf_set.specs.Gathering.{with_row}
use Rattle.shelf_set.proofs.gathering.add_rows.Given as goal

abbrev pub invariant-loop-row : goal.invariant-loop-row
invariant-loop-row l = record {
  rows : l.rows ≡ fold with_row l.fn.rows l.yielded;
  seen : HasKeysOf same_layer layer_key l.rows l.seen;
}
