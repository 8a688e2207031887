use Rattle.std.proofs.Common.{◌≡◌, ℕ, ◌≤◌, drop, length}
use Rattle.app_slices.specs.Cutting.{entries_at, with_more, all_at}
use Rattle.app_slices.proofs.cutting.+cutting.Given as goal

abbrev pub invariant-cut_entries-loop-entry : goal.invariant-cut_entries-loop-entry
invariant-cut_entries-loop-entry l =
    (k : ℕ) → k ≤ length l.slices
    → with_more (entries_at l.parts k) (all_at l.slices l.own l.path (drop l.entry-index l.entries) k)
    ≡ with_more (entries_at l.initial.parts k) (all_at l.slices l.own l.path l.entries k)
