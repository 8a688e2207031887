use Rattle.std.proofs.Common.{◌≡◌, ℕ, take}
use Rattle.std.specs.Prelude.{None}
use Rattle.std.specs.List.{find}
use Rattle.order_expand.specs.Check.{nests_deeper}
use Rattle.order_expand.specs.Nesting.{nests_at}
use Rattle.order_expand.proofs.nesting.deeper_in_group.Given as goal

abbrev pub invariant-loop-entry : goal.invariant-loop-entry
invariant-loop-entry l = (levels : ℕ) → l.nests ≡ nests_at levels l.catalog
    → find (nests_deeper levels l.catalog) (take l.entry-index l.entries) ≡ None
