use Rattle.std.proofs.Common.{◌≡◌, drop}
use Rattle.image_docs.specs.Row.{run_rows_first}
use Rattle.image_docs.proofs.row.run_rows_first.Given as goal

abbrev pub invariant-loop-place : goal.invariant-loop-place
invariant-loop-place l = run_rows_first (drop l.place l.rows) ≡ run_rows_first l.rows
