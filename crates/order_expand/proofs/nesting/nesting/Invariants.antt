use Rattle.std.proofs.Common.{◌≡◌}
use Rattle.order_expand.specs.Nesting.{nests_at}
use Rattle.order_expand.proofs.nesting.nesting.Given as goal

abbrev pub invariant-loop : goal.invariant-loop
invariant-loop l = l.nests.items ≡ nests_at l.counter l.catalog
