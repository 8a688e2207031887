-- The buildpacks of the drill. There are four columns of eight components, one for each digit, and a last component.
use Rattle.std.specs.Prelude.{ℕ, None, ◌+◌, false, List, [], ◌∷◌, ◌++◌, codes, map}
use Rattle.cnb_toml.specs.declared.names.Key.{Key}
use Rattle.bp_docs.specs.declared.descriptor.Entry.{Entry}
use Rattle.bp_docs.specs.declared.descriptor.Body.TheVariants.{Component, Composite}
use Rattle.bp_docs.specs.declared.descriptor.Descriptor.{Descriptor}
use Rattle.plan_resolve.specs.Trials.{numbers_below}

abbrev pub key_of_id : List ℕ → Key
key_of_id id = record { id = id; version = codes "1.0.0" }

-- `drill/c0-0` to `drill/c3-7`
abbrev pub component_key : ℕ → ℕ → Key
component_key column digit = key_of_id (codes "drill/c" ++ (48 + column) ∷ 45 ∷ (48 + digit) ∷ [])

-- `drill/k0` to `drill/k3`
abbrev pub composite_key : ℕ → Key
composite_key column = key_of_id (codes "drill/k" ++ (48 + column) ∷ [])

abbrev pub tail_key : Key
tail_key = key_of_id (codes "drill/tail")

-- a required entry without a version
abbrev pub entry_of : Key → Entry
entry_of key = record { id = key.id; version = None; optional = false }

abbrev pub eight : List ℕ
eight = numbers_below 8

abbrev pub component : Key → Descriptor
component key = record { key = key; body = Component false [] }

-- the composite of a column has eight groups, of one component each
abbrev pub composite : ℕ → Descriptor
composite column = record {
  key = composite_key column;
  body = Composite
      (map (λ digit. entry_of (component_key column digit) ∷ []) eight);
}

abbrev pub column_of : ℕ → List Descriptor
column_of column = composite column ∷ map (λ digit. component (component_key column digit)) eight
