use Rattle.std.proofs.Common.{◌≡◌, drop}
use Rattle.image_files.specs.RunPart.{top_or}
use Rattle.image_files.proofs.run_part.top_or.Given as goal

abbrev pub invariant-loop-digest : goal.invariant-loop-digest
invariant-loop-digest l = top_or l.top (drop l.digest-index l.rows) ≡ top_or l.fn.other l.rows
