-- The text that `check` prints.
use Rattle.std.specs.Prelude.{ℕ, List, [], ◌∷◌, ◌++◌, codes}
use Rattle.std.specs.Fmt.{decimal}

abbrev pub line_feed : List ℕ
line_feed = 10 ∷ []

-- the chosen group's place among the listed groups, and the number of its first passing trial
abbrev pub checked_text : ℕ → ℕ → List ℕ
checked_text place trial = codes "checked " ++ decimal place ++ codes " " ++ decimal trial ++ line_feed
