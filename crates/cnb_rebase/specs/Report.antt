-- What `rebase`, `base` and `show` print.
use Rattle.std.specs.Prelude.{ℕ, List, [], ◌∷◌, ◌++◌, codes, flat_map, length}
use Rattle.std.specs.Fmt.{decimal}
use Rattle.hex.specs.Hex.{encode_lower}
use Rattle.image_docs.specs.Row.{role_text}
use Rattle.image_docs.specs.declared.image.ImageDoc.{ImageDoc}
use Rattle.image_docs.specs.declared.row.Row.{Row}
use Rattle.image_docs.specs.declared.run_image.RunDoc.{RunDoc}
use Rattle.cnb_rebase.specs.Rebased.{run_count}

abbrev pub line_feed : List ℕ
line_feed = 10 ∷ []

-- the image, and how many rows of its run image it has now
abbrev pub rebased_text : List ℕ → ImageDoc → List ℕ
rebased_text name image = codes "rebased " ++ name ++ codes " " ++ decimal (run_count image.rows)
    ++ codes " run rows" ++ line_feed

-- the run image, and how many rows it has
abbrev pub base_text : List ℕ → RunDoc → List ℕ
base_text name image = codes "run " ++ name ++ codes " " ++ decimal (length image.rows) ++ codes " rows" ++ line_feed

-- a row: what it holds, where it stands, the digest of its tree, and what made it
abbrev pub row_line : Row → List ℕ
row_line row = role_text row.role ++ codes " " ++ row.place ++ codes " " ++ encode_lower row.digest ++ codes " "
    ++ row.by ++ line_feed

-- what starts an image
abbrev pub entrypoint_line : List ℕ → List ℕ
entrypoint_line entrypoint = codes "entrypoint " ++ entrypoint ++ line_feed

-- the rows of an image, and what starts it
abbrev pub image_text : ImageDoc → List ℕ
image_text image = flat_map row_line image.rows ++ entrypoint_line image.entrypoint
