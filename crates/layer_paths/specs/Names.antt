-- The layers that have a document in a folder (buildpack.md, "Layer Content Metadata (TOML)").
use Rattle.std.specs.Prelude.{ℕ, ◌-◌, List, codes, length, nat_eq, take, if◌then◌else◌, Option, Some, None}
use Rattle.std.specs.List.{ends_with, filter, filter_map}
use Rattle.cnb_toml.specs.Names.{is_layer_name}
use Rattle.cnb_toml.specs.Ascending.{ascending}

-- a name in front of `.toml`
abbrev pub stem_of : List ℕ → Option (List ℕ)
stem_of name = if ends_with nat_eq name (codes ".toml") then Some (take (length name - 5) name) else None

-- the layers that have a document among files of these names, ascending
abbrev pub layers_among : List (List ℕ) → List (List ℕ)
layers_among names = filter is_layer_name (ascending (filter_map stem_of names))
