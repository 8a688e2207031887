use Rattle.std.proofs.Common.{◌≡◌, ◌≤◌, ℕ, length, drop}
use Rattle.order_expand.specs.Groups.{raw_groups, expanded}
use Rattle.order_expand.specs.Sizes.{size_of, sizes_at}
use Rattle.order_expand.proofs.count.of_group.Given as goal

-- the size of the groups of the entries from a place on
abbrev pub invariant-loop-place : goal.invariant-loop-place
invariant-loop-place l = record {
  within : l.place ≤ length l.entries;
  behind : (levels : ℕ) → l.below ≡ sizes_at levels l.catalog
      → l.size ≡ size_of (expanded (raw_groups levels l.catalog) l.catalog (drop l.place l.entries));
}

abbrev pub decreases-loop-place : goal.decreases-loop-place
decreases-loop-place l = l.place
