-- The text that `build` prints.
use Rattle.std.specs.Prelude.{ℕ, List, [], ◌∷◌, ◌++◌, codes, flat_map}
use Rattle.run_docs.specs.declared.group.GroupRow.{GroupRow}

-- the line of a buildpack that was built
abbrev pub built_line : GroupRow → List ℕ
built_line row = codes "built " ++ row.key.id ++ codes "@" ++ row.key.version ++ 10 ∷ []

abbrev pub built_text : List GroupRow → List ℕ
built_text group = flat_map built_line group
