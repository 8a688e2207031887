use Rattle.std.proofs.Common.{◌≡◌, ℕ, suc, map, take}
use Rattle.order_expand.specs.Check.{order_of_body}
use Rattle.order_expand.specs.Nesting.{order_nests, nests_at}
use Rattle.order_expand.proofs.nesting.level_above.Given as goal

abbrev pub invariant-loop-descriptor : goal.invariant-loop-descriptor
invariant-loop-descriptor l = (levels : ℕ) → l.nests ≡ nests_at levels l.catalog
    → l.above.items ≡ map (λ descriptor. order_nests (suc levels) l.catalog (order_of_body descriptor.body))
    (take l.descriptor-index l.descriptor-items)
