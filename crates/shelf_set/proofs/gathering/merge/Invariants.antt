use Rattle.std.proofs.Common.{◌≡◌}
use Rattle.cnb_toml.specs.Distinct.{HasKeysOf}
use Rattle.image_docs.specs.LayerRow.{layer_key, same_layer}
use Rattle.shelf_set.specs.Gathering.{all_rows, first_rows, unread_of}
use Rattle.shelf_set.proofs.gathering.merge.Given as goal

abbrev pub invariant-loop-one : goal.invariant-loop-one
invariant-loop-one l = record {
  rows : l.merged.rows ≡ first_rows (all_rows l.yielded);
  seen : HasKeysOf same_layer layer_key l.merged.rows l.merged.seen;
  unread : l.merged.unread ≡ unread_of l.yielded;
}
