use Rattle.std.proofs.Common.{◌≡◌, map, take}
use Rattle.cnb_world.specs.Memory.{end_of_run, row_of, runs_of}
use Rattle.cnb_world.proofs.memory.changes.Changes.runs.Given as goal

abbrev pub invariant-loop-change : goal.invariant-loop-change
invariant-loop-change l = map row_of l.rows.items ≡ map end_of_run (runs_of (take l.change-index l.change-items))
