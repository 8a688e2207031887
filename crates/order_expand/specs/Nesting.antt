-- How deep composites nest.
use Rattle.std.specs.Prelude.{ℕ, zero, suc, Bool, List, map, length, nat_lt}
use Rattle.std.specs.List.{list_any}
use Rattle.bp_docs.specs.declared.descriptor.Entry.{Entry}
use Rattle.bp_docs.specs.declared.descriptor.Descriptor.{Descriptor}
use Rattle.order_expand.specs.Check.{order_of_body, nests_deeper}

-- whether a composite with an order nests deeper than a number of levels, where itself is one
abbrev pub order_nests : ℕ → List Descriptor → List (List Entry) → Bool
order_nests zero catalog order = nat_lt 0 (length order)
order_nests (suc levels) catalog order = list_any (list_any (nests_deeper levels catalog)) order

-- the same for each descriptor
abbrev pub nests_at : ℕ → List Descriptor → List Bool
nests_at levels catalog = map (λ descriptor. order_nests levels catalog (order_of_body descriptor.body)) catalog
