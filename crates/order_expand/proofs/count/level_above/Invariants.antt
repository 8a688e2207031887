use Rattle.std.proofs.Common.{◌≡◌, ℕ, suc, length, map, take}
use Rattle.order_expand.specs.Check.{order_of_body}
use Rattle.order_expand.specs.Groups.{raw_groups}
use Rattle.order_expand.specs.Sizes.{size_of, sizes_at}
use Rattle.order_expand.proofs.count.level_above.Given as goal

abbrev pub invariant-loop-descriptor : goal.invariant-loop-descriptor
invariant-loop-descriptor l = record {
  number : length l.above.items ≡ l.descriptor-index;
  exact : (levels : ℕ) → l.below ≡ sizes_at levels l.catalog
      → l.above.items ≡ map (λ descriptor. size_of (raw_groups (suc levels) l.catalog
      (order_of_body descriptor.body))) (take l.descriptor-index l.descriptor-items);
}
