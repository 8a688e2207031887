use Rattle.std.proofs.Common.{◌≡◌, take}
use Rattle.tree_canon.proofs.copying.+copying.Given as goal

abbrev pub invariant-copy_entries-loop-entry : goal.invariant-copy_entries-loop-entry
invariant-copy_entries-loop-entry l = l.copies ≡ take l.entry-index l.entries
