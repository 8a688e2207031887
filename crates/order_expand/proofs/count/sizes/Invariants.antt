use Rattle.std.proofs.Common.{◌≡◌}
use Rattle.order_expand.specs.Sizes.{sizes_at}
use Rattle.order_expand.proofs.count.sizes.Given as goal

abbrev pub invariant-loop : goal.invariant-loop
invariant-loop l = l.sizes.items ≡ sizes_at l.counter l.catalog
