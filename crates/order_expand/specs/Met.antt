-- The entries of an order as they are met.
use denote.Ref.{Bor}
use Rattle.std.specs.Prelude.{ℕ, ◌+◌, Bool, List, [], ◌∷◌, map, reverse, if◌then◌else◌}
use Rattle.std.specs.List.{list_any}
use Rattle.cnb_toml.specs.declared.names.Key.{Key}
use Rattle.cnb_toml.specs.Keys.{same_key}
use Rattle.bp_docs.specs.declared.descriptor.Entry.{Entry}
use Rattle.bp_docs.specs.declared.descriptor.Descriptor.{Descriptor}
use Rattle.order_expand.specs.Check.{order_of_body, entry_count}

-- entries that are still to be met, where the next one stands last
abbrev pub waiting_in : List (Bor Entry) → List Entry
waiting_in entries = reverse (map (λ entry. entry.now) entries)

-- for each descriptor whether its key was met
abbrev pub marks_of : List Key → List Descriptor → List Bool
marks_of met catalog = map (λ descriptor. list_any (same_key descriptor.key) met) catalog

-- how many entries the descriptors have that were not met
abbrev pub unmet_count : List Bool → List Descriptor → ℕ
unmet_count [] descriptors = 0
unmet_count (mark ∷ marks) [] = 0
unmet_count (mark ∷ marks) (descriptor ∷ descriptors) =
    (if mark then 0 else entry_count (order_of_body descriptor.body)) + unmet_count marks descriptors
