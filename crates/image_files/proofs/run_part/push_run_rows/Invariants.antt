use Rattle.std.proofs.Common.{◌≡◌, ◌++◌, map, take}
use Rattle.image_files.specs.RunPart.{run_row}
use Rattle.image_files.proofs.run_part.push_run_rows.Given as goal

abbrev pub invariant-loop-digest : goal.invariant-loop-digest
invariant-loop-digest l = l.rows ≡ l.initial.rows ++ map (run_row l.name) (take l.digest-index l.run)
