use Rattle.std.proofs.Common.{◌≡◌, [], drop}
use Rattle.toml.specs.View.{array_view, items_view}
use Rattle.cnb_toml.specs.Rows.{rows_in}
use Rattle.cnb_toml.proofs.rows.rows.Given as goal

abbrev pub invariant-loop-place : goal.invariant-loop-place
invariant-loop-place g l = record {
  read_on : rows_in g.F.RowForm.row_in l.rows l.place (items_view (drop l.place l.values.items))
      ≡ rows_in g.F.RowForm.row_in [] 0 (array_view l.values);
  seen : g.F.RowForm.keeps l.rows l.seen;
}
