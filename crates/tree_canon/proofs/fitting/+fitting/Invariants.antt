use Rattle.std.proofs.Common.{◌≡◌, drop, None}
use Rattle.std.specs.Option.{option_copied}
use Rattle.tree_canon.specs.Fits.{entries_fit}
use Rattle.tree_canon.proofs.fitting.+fitting.Given as goal

abbrev pub invariant-entries_fit-loop-entry : goal.invariant-entries_fit-loop-entry
invariant-entries_fit-loop-entry l = entries_fit (option_copied l.last) (drop l.entry-index l.entries) l.depth
    ≡ entries_fit None l.entries l.depth
