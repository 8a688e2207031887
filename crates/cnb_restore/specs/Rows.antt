-- The rows of a buildpack's layers, and what is restored of each (platform.md, "restorer").
use Rattle.std.specs.Prelude.{ℕ, Bool, false, ◌++◌, List, map, Option, Some, None, find, if◌then◌else◌}
use Rattle.std.specs.List.{filter}
use Rattle.std.specs.Option.{option_map}
use Rattle.std.specs.Str.{bytes_eq}
use Rattle.image_docs.specs.declared.layer_row.LayerRow.{LayerRow}
use Rattle.layer_flags.specs.Restore.{restore_table}
use Rattle.layer_flags.specs.declared.flags.Flags.{Flags}
use Rattle.layer_flags.specs.declared.restore.RestoreRow.{RestoreRow}
use Rattle.cnb_toml.specs.Ascending.{ascending}

-- a buildpack's rows
abbrev pub rows_of : List ℕ → List LayerRow → List LayerRow
rows_of id rows = filter (λ row. bytes_eq row.id id) rows

-- the row of a layer among those of its buildpack
abbrev pub row_of : List ℕ → List LayerRow → Option LayerRow
row_of name rows = find (λ row. bytes_eq row.layer name) rows

-- the layers of a buildpack that the image or the caches have
abbrev pub layer_names : List LayerRow → List LayerRow → List (List ℕ)
layer_names app cache = ascending (map (λ row. row.layer) app ++ map (λ row. row.layer) cache)

abbrev pub flags_of : Option LayerRow → Option Flags
flags_of row = option_map (λ r. r.flags) row

-- both rows are there with one digest
abbrev pub are_same : Option LayerRow → Option LayerRow → Bool
are_same (Some app) (Some cache) = bytes_eq app.digest cache.digest
are_same app cache = false

-- what is restored of a layer
abbrev pub restored_part : Option LayerRow → Option LayerRow → RestoreRow
restored_part app cache = restore_table (flags_of app) (flags_of cache) (are_same app cache)

-- the row whose metadata and tree it is: the image's where that is for launch, else the caches'
abbrev pub source_of : Option LayerRow → Option LayerRow → Option LayerRow
source_of None cache = cache
source_of (Some app) cache = if app.flags.launch then Some app else cache
