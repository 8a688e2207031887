use Rattle.std.proofs.Common.{◌≡◌, map}
use Rattle.image_docs.specs.OldRow.{migrated}
use Rattle.image_docs.proofs.old_row.all_migrated.Given as goal

abbrev pub invariant-loop-row : goal.invariant-loop-row
invariant-loop-row l = l.rows ≡ map (migrated l.base) l.yielded
