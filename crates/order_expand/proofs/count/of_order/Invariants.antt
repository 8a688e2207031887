use Rattle.std.proofs.Common.{◌≡◌, ℕ, take}
use Rattle.std.specs.List.{flat_map}
use Rattle.order_expand.specs.Groups.{raw_groups, expanded}
use Rattle.order_expand.specs.Sizes.{size_of, sizes_at}
use Rattle.order_expand.proofs.count.of_order.Given as goal

abbrev pub invariant-loop-group : goal.invariant-loop-group
invariant-loop-group l = (levels : ℕ) → l.below ≡ sizes_at levels l.catalog
    → l.size ≡ size_of (flat_map (expanded (raw_groups levels l.catalog) l.catalog) (take l.group-index l.order))
