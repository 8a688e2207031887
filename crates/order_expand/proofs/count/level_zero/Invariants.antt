use Rattle.std.proofs.Common.{◌≡◌, [], map, take}
use Rattle.order_expand.specs.Sizes.{size_of}
use Rattle.order_expand.proofs.count.level_zero.Given as goal

abbrev pub invariant-loop : goal.invariant-loop
invariant-loop l = l.sizes.items ≡ map (λ descriptor. size_of []) (take l.index l.items)
