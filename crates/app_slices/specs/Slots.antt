-- Which slice of an application takes each of its paths. buildpack.md, "launch.toml (TOML)", has `slices`.
use Rattle.std.specs.Prelude.{◌≡◌, ◌<◌, ◌++◌, ℕ, Bool, true, false, List, [], ◌∷◌, map, length, chars, min, nat_eq}
use Rattle.std.specs.Prelude.{Option, Some, None, Any, position}
use Rattle.std.specs.List.{list_any, range_with_len, slice_get}
use Rattle.app_slices.specs.declared.item.Item.{Item}
use Rattle.app_slices.specs.Items.{Matches}
use Rattle.app_slices.specs.Matching.{matched}

-- the patterns of each slice, in order
abbrev pub Slices : Type 0
Slices = List (List (List Item))

-- the number of a slice, or none for the rest, which is the last
abbrev pub Slot : Type 0
Slot = Option ℕ

-- the slices in order, then the rest
abbrev pub slots : Slices → List Slot
slots slices = map Some (range_with_len 0 (length slices)) ++ None ∷ []

-- the path of a name in a folder; paths are seen from the application's own folder, which has the empty one
abbrev pub below : List ℕ → List ℕ → List ℕ
below [] name = name
below (b ∷ folder) name = (b ∷ folder) ++ 47 ∷ name

-- ---- the slot of a path

-- one of these patterns matches one of these paths
abbrev pub MatchesSome : List (List Item) → List (List ℕ) → Type 0
MatchesSome patterns paths = Any (λ path. Any (λ pattern. Matches pattern (chars path)) patterns) paths

-- the slice of this number takes a path, which is given with those above it
abbrev pub IsTakenBy : Slices → List (List ℕ) → ℕ → Type 0
IsTakenBy slices paths k =
    (patterns : List (List Item)) × (slice_get slices k ≡ Some patterns) × MatchesSome patterns paths

-- the first slice that takes the path, or the rest where none does
abbrev pub IsSlot : Slices → List (List ℕ) → Slot → Type 0
IsSlot slices paths None = (k : ℕ) → IsTakenBy slices paths k → ⊥
IsSlot slices paths (Some k) =
    IsTakenBy slices paths k × ((before : ℕ) → before < k → IsTakenBy slices paths before → ⊥)

-- ---- the same along the way from the application's own folder

abbrev pub takes_path : List (List Item) → List ℕ → Bool
takes_path patterns path = list_any (λ pattern. matched pattern (chars path)) patterns

-- the first slice of which a pattern matches this very path
abbrev pub first_taking : Slices → List ℕ → Slot
first_taking slices path = position (λ patterns. takes_path patterns path) slices

-- the first of two slots
abbrev pub earlier : Slot → Slot → Slot
earlier None b = b
earlier (Some a) None = Some a
earlier (Some a) (Some b) = Some (min a b)

-- the slot of a path, by that of the folder that it is in
abbrev pub slot_in : Slices → Slot → List ℕ → Slot
slot_in slices above path = earlier above (first_taking slices path)

-- the slot of the last of these paths, each of which is in the one before it, by that of the folder of the first
abbrev pub slot_along : Slices → Slot → List (List ℕ) → Slot
slot_along slices above [] = above
slot_along slices above (path ∷ paths) = slot_along slices (slot_in slices above path) paths

-- the way leads to the slot of each path
abbrev pub SlotsAlong : Slices → Type 0
SlotsAlong slices = (paths : List (List ℕ)) → IsSlot slices paths (slot_along slices None paths)

abbrev pub same_slot : Slot → Slot → Bool
same_slot None None = true
same_slot None (Some b) = false
same_slot (Some a) None = false
same_slot (Some a) (Some b) = nat_eq a b
