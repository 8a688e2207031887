use Rattle.std.proofs.Common.{◌≡◌, true, map, take}
use Rattle.std.specs.List.{list_all}
use Rattle.toml.specs.View.{view}
use Rattle.cnb_toml.specs.Written.{table_data}
use Rattle.cnb_toml.proofs.written.written_rows.Given as goal

abbrev pub invariant-loop-row : goal.invariant-loop-row
invariant-loop-row g l = record {
  written : map view l.values.items ≡ map (table_data g.F.WrittenRow.members_of) (take l.row-index l.rows);
  typed : list_all g.F.WrittenRow.is_typed (take l.row-index l.rows) ≡ true;
}
