-- Rows that are told apart by their keys.
use Rattle.std.specs.Prelude.{◌≡◌, Bool, true, not, ◌&&◌, List, [], ◌∷◌}
use Rattle.std.specs.HashSet.{HashSet, contains}
use Rattle.std.specs.List.{list_any}

module _ {A K : Type 0} (eq : K → K → Bool) (key_of : A → K) where
  -- whether one of the rows has this key
  abbrev pub has_key : List A → K → Bool
  has_key rows key = list_any (λ row. eq (key_of row) key) rows

  -- no row before has this one's key
  abbrev pub is_new : List A → A → Bool
  is_new before row = not (has_key before (key_of row))

  -- no two rows have one key
  abbrev pub are_distinct : List A → Bool
  are_distinct [] = true
  are_distinct (row ∷ rows) = not (has_key rows (key_of row)) && are_distinct rows

  -- the set has the keys of these rows, and no others
  abbrev pub HasKeysOf : {S : Type 0} → List A → HashSet K S → Type 0
  HasKeysOf rows seen = (key : K) → contains eq seen key ≡ has_key rows key
