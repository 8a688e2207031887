-- The text that `detect` prints.
use Rattle.std.specs.Prelude.{ℕ, List, [], ◌∷◌, ◌++◌, codes, flat_map}
use Rattle.std.specs.Fmt.{decimal}
use Rattle.run_docs.specs.declared.group.GroupRow.{GroupRow}

abbrev pub line_feed : List ℕ
line_feed = 10 ∷ []

-- the line of a buildpack of the chosen group
abbrev pub pass_line : GroupRow → List ℕ
pass_line row = codes "pass " ++ row.key.id ++ codes "@" ++ row.key.version ++ line_feed

abbrev pub pass_lines : List GroupRow → List ℕ
pass_lines group = flat_map pass_line group

-- the chosen group, and how many entries its plan has
abbrev pub choice_text : List GroupRow → ℕ → List ℕ
choice_text group entries = pass_lines group ++ (codes "plan " ++ decimal entries ++ line_feed)
