use Rattle.std.proofs.Common.{◌≡◌, ℕ, length}
use Rattle.app_slices.specs.Cutting.{entries_at, folders_at, with_more}
use Rattle.app_slices.proofs.slot_entries.add_folders.Given as goal

abbrev pub invariant-loop-slot : goal.invariant-loop-slot
invariant-loop-slot l = (k : ℕ) → with_more (entries_at l.parts k) (folders_at l.name l.left k)
    ≡ with_more (entries_at l.initial.parts k) (folders_at l.name l.initial.left k)

abbrev pub decreases-loop-slot : goal.decreases-loop-slot
decreases-loop-slot l = length l.left.entries
