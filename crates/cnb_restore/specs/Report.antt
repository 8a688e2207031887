-- The texts that `analyze` and `restore` print.
use Rattle.std.specs.Prelude.{ℕ, Bool, List, [], ◌∷◌, ◌++◌, codes, flat_map, Option, Some, None, if◌then◌else◌}
use Rattle.std.specs.Fmt.{decimal}
use Rattle.image_docs.specs.declared.analyzed.Analyzed.{Analyzed}
use Rattle.cnb_restore.specs.declared.restored.Restored.{Restored}
use Rattle.cnb_restore.specs.declared.restored.RestoredRow.{RestoredRow}

abbrev pub line_feed : List ℕ
line_feed = 10 ∷ []

-- a name, or that there is none
abbrev pub name_or_none : Option (List ℕ) → List ℕ
name_or_none None = codes "none"
name_or_none (Some name) = name

-- the run image, and the previous image
abbrev pub analyzed_text : Analyzed → List ℕ
analyzed_text analyzed =
    codes "run " ++ analyzed.run ++ line_feed ++ codes "previous " ++ name_or_none analyzed.previous ++ line_feed

abbrev pub part_text : Bool → List ℕ
part_text contents = if contents then codes " contents" else codes " metadata"

abbrev pub restored_line : RestoredRow → List ℕ
restored_line row = codes "restored " ++ row.id ++ codes ":" ++ row.layer ++ part_text row.contents ++ line_feed

-- what is told of the cache of a number
abbrev pub cache_line : List ℕ → ℕ → List ℕ
cache_line told number = codes "cache " ++ decimal number ++ told ++ line_feed

-- each layer that was restored, each cache whose rows were refused, and each that was dropped
abbrev pub restored_text : Restored → List ℕ
restored_text restored =
    flat_map restored_line restored.rows ++ flat_map (cache_line (codes " unread")) restored.unread
    ++ flat_map (cache_line (codes " dropped")) restored.gone
