use Rattle.std.proofs.Common.{◌≡◌, ◌+◌, drop}
use Rattle.std.specs.List.{prefix_len}
use Rattle.image_docs.specs.Row.{is_run}
use Rattle.cnb_rebase.proofs.image.run_count.Given as goal

abbrev pub invariant-loop-row : goal.invariant-loop-row
invariant-loop-row l = record {
  so_far : l.count + prefix_len is_run (drop l.row-index l.rows) ≡ prefix_len is_run l.rows;
  at : l.count ≡ l.row-index;
}
