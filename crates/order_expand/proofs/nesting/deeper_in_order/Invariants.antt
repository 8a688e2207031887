use Rattle.std.proofs.Common.{◌≡◌, ℕ, take}
use Rattle.std.specs.Prelude.{None}
use Rattle.std.specs.List.{find}
use Rattle.order_expand.specs.Check.{entries_of, nests_deeper}
use Rattle.order_expand.specs.Nesting.{nests_at}
use Rattle.order_expand.proofs.nesting.deeper_in_order.Given as goal

abbrev pub invariant-loop-group : goal.invariant-loop-group
invariant-loop-group l = (levels : ℕ) → l.nests ≡ nests_at levels l.catalog
    → find (nests_deeper levels l.catalog) (entries_of (take l.group-index l.order)) ≡ None
