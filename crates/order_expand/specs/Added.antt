-- How a descriptor comes into a catalog.
use Rattle.std.specs.Prelude.{◌≡◌, ◌++◌, ◌∷◌, [], true, false, List, Result, Ok, Err}
use Rattle.bp_docs.specs.declared.descriptor.Descriptor.{Descriptor}
use Rattle.order_expand.specs.declared.catalog.CatalogFault.{CatalogFault}
use Rattle.order_expand.specs.declared.catalog.CatalogFault.TheVariants.{Twice, Memory}
use Rattle.order_expand.specs.Catalog.{has_key}

-- at the end, where its key is new; a key that is there is refused
abbrev pub AddsTo : Result (Unit {0}) CatalogFault → List Descriptor → Descriptor → List Descriptor → Type 0
AddsTo (Ok done) old descriptor new = (has_key old descriptor.key ≡ false) × (new ≡ old ++ descriptor ∷ [])
AddsTo (Err (Twice key)) old descriptor new = (has_key old descriptor.key ≡ true) × (key ≡ descriptor.key)
AddsTo (Err Memory) old descriptor new = Unit {0}
