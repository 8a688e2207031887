-- Names in ascending order, each once.
use Rattle.std.specs.Prelude.{ℕ, List, [], ◌∷◌}
use Rattle.std.specs.declared.cmp.Ordering.{Ordering}
use Rattle.std.specs.declared.cmp.Ordering.TheVariants.{Less, Equal, Greater}
use Rattle.std.specs.Ordering.{nat_cmp}
use Rattle.std.specs.Cmp.Lexicographic.{slice_cmp}

-- a name put into a strictly ascending list of names
abbrev pub put_name_by : Ordering → List ℕ → List ℕ → List (List ℕ) → List (List ℕ) → List (List ℕ)
put_name_by Less name x xs later = name ∷ x ∷ xs
put_name_by Equal name x xs later = x ∷ xs
put_name_by Greater name x xs later = x ∷ later

abbrev pub put_name : List ℕ → List (List ℕ) → List (List ℕ)
put_name name [] = name ∷ []
put_name name (x ∷ xs) = put_name_by (slice_cmp nat_cmp name x) name x xs (put_name name xs)

-- these names ascending, each once
abbrev pub ascending : List (List ℕ) → List (List ℕ)
ascending [] = []
ascending (name ∷ names) = put_name name (ascending names)
