-- A catalog: descriptors with distinct keys.
use Rattle.std.specs.Prelude.{Bool, true, not, ◌&&◌, List, [], ◌∷◌}
use Rattle.std.specs.List.{list_any}
use Rattle.cnb_toml.specs.declared.names.Key.{Key}
use Rattle.cnb_toml.specs.Keys.{same_key}
use Rattle.bp_docs.specs.declared.descriptor.Descriptor.{Descriptor}

abbrev pub has_key : List Descriptor → Key → Bool
has_key catalog key = list_any (λ descriptor. same_key key descriptor.key) catalog

-- whether no two descriptors have the same key
abbrev pub has_distinct_keys : List Descriptor → Bool
has_distinct_keys [] = true
has_distinct_keys (descriptor ∷ descriptors) = not (has_key descriptors descriptor.key) && has_distinct_keys descriptors
