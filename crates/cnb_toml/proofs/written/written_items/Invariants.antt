use Rattle.std.proofs.Common.{◌≡◌, true, map, take}
use Rattle.std.specs.List.{list_all}
use Rattle.toml.specs.View.{view}
use Rattle.cnb_toml.proofs.written.written_items.Given as goal

abbrev pub invariant-loop-item : goal.invariant-loop-item
invariant-loop-item g l = record {
  written : map view l.values.items ≡ map g.F.Written.data_of (take l.item-index l.items);
  typed : list_all g.F.Written.is_typed (take l.item-index l.items) ≡ true;
}
