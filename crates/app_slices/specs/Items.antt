-- Which characters an item of a pattern takes, and which paths a pattern matches.
use Rattle.std.specs.Prelude.{◌≡◌, ℕ, Bool, true, not, ◌&&◌, ◌==◌, ◌++◌, List, [], ◌∷◌, nat_le, if◌then◌else◌}
use Rattle.std.specs.List.{list_all, list_any}
use Rattle.app_slices.specs.declared.item.Range.{Range}
use Rattle.app_slices.specs.declared.item.Item.{Item}
use Rattle.app_slices.specs.declared.item.Item.TheVariants.{Star, One, Class, Just}

-- a range holds its two ends and all between them
abbrev pub holds : ℕ → Range → Bool
holds c r = nat_le r.first c && nat_le c r.last

-- one character other than a slash, which some range holds, or with `^` none
abbrev pub in_class : Bool → List Range → ℕ → Bool
in_class negated ranges c =
    not (c == 47) && (if negated then not (list_any (holds c) ranges) else list_any (holds c) ranges)

-- the characters that an item takes
abbrev pub takes : Item → ℕ → Bool
takes Star c = not (c == 47)
takes One c = not (c == 47)
takes (Class negated ranges) c = in_class negated ranges c
takes (Just only) c = c == only

-- a part of one such character
abbrev pub IsOne : Item → List ℕ → Type 0
IsOne item part = (c : ℕ) × (part ≡ c ∷ []) × (takes item c ≡ true)

-- the part of a path that an item matches
abbrev pub Takes : Item → List ℕ → Type 0
Takes Star part = list_all (takes Star) part ≡ true
Takes One part = IsOne One part
Takes (Class negated ranges) part = IsOne (Class negated ranges) part
Takes (Just only) part = IsOne (Just only) part

-- a path is parts, one for each item in order
abbrev pub Matches : List Item → List ℕ → Type 0
Matches [] path = path ≡ []
Matches (item ∷ items) path =
    (part : List ℕ) × (rest : List ℕ) × (path ≡ part ++ rest) × Takes item part × Matches items rest
