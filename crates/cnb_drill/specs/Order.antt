-- The order of the drill, and the catalog that it is read by: the order lists 8 × 8 × 8 × 8 groups.
use Rattle.std.specs.Prelude.{ℕ, List, [], ◌∷◌, ◌++◌, map}
use Rattle.std.specs.List.{flat_map}
use Rattle.bp_docs.specs.declared.descriptor.Entry.{Entry}
use Rattle.bp_docs.specs.declared.descriptor.Descriptor.{Descriptor}
use Rattle.plan_resolve.specs.Trials.{numbers_below}
use Rattle.cnb_drill.specs.Buildpacks.{column_of, component, composite_key, entry_of, tail_key}

-- the first columns, so many
abbrev pub columns_below : ℕ → List Descriptor
columns_below columns = flat_map column_of (numbers_below columns)

unfoldable pub drill_catalog : List Descriptor
drill_catalog = columns_below 4 ++ component tail_key ∷ []

abbrev pub composite_entries : List Entry
composite_entries = map (λ column. entry_of (composite_key column)) (numbers_below 4)

-- the composites of the four columns, and the last component
abbrev pub drill_group : List Entry
drill_group = composite_entries ++ entry_of tail_key ∷ []

unfoldable pub drill_order : List (List Entry)
drill_order = drill_group ∷ []
