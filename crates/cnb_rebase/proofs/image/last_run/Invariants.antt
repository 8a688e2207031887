use Rattle.std.proofs.Common.{◌≡◌, drop}
use Rattle.cnb_rebase.specs.Rebased.{last_run}
use Rattle.cnb_rebase.proofs.image.last_run.Given as goal

abbrev pub invariant-loop-row : goal.invariant-loop-row
invariant-loop-row l = last_run l.last (drop l.row-index l.rows) ≡ last_run l.fn.other l.rows
