-- The text that `export` prints.
use Rattle.std.specs.Prelude.{ℕ, Bool, List, [], ◌∷◌, ◌++◌, codes, flat_map, length, if◌then◌else◌}
use Rattle.std.specs.Fmt.{decimal}
use Rattle.cnb_export.specs.declared.exported.Exported.{Exported}
use Rattle.cnb_export.specs.declared.exported.ExportedRow.{ExportedRow}

abbrev pub line_feed : List ℕ
line_feed = 10 ∷ []

abbrev pub word_of : Bool → List ℕ
word_of reused = if reused then codes "reused " else codes "added "

-- the line of a layer of the image
abbrev pub layer_line : ExportedRow → List ℕ
layer_line row = word_of row.reused ++ row.id ++ codes ":" ++ row.layer ++ line_feed

-- the line of a cache that was dropped
abbrev pub dropped_line : ℕ → List ℕ
dropped_line number = codes "cache " ++ decimal number ++ codes " dropped" ++ line_feed

-- the line of the image
abbrev pub image_line : List ℕ → ℕ → List ℕ
image_line name rows = codes "image " ++ name ++ codes " " ++ decimal rows ++ codes " rows" ++ line_feed

abbrev pub layer_lines : List ExportedRow → List ℕ
layer_lines rows = flat_map layer_line rows

abbrev pub dropped_lines : List ℕ → List ℕ
dropped_lines numbers = flat_map dropped_line numbers

-- each layer, each cache that was dropped, and the image with how many rows it has
abbrev pub exported_text : List ℕ → Exported → List ℕ
exported_text name exported = layer_lines exported.rows ++ dropped_lines exported.gone
    ++ image_line name (length exported.image.rows)
