use Rattle.std.proofs.Common.{◌≡◌, map, take, length}
use Rattle.std.specs.Prelude.{nat_lt}
use Rattle.order_expand.specs.Check.{order_of_body}
use Rattle.order_expand.proofs.nesting.level_zero.Given as goal

abbrev pub invariant-loop-descriptor : goal.invariant-loop-descriptor
invariant-loop-descriptor l = l.nests.items ≡ map (λ descriptor. nat_lt 0
    (length (order_of_body descriptor.body))) (take l.descriptor-index l.descriptor-items)
