-- The texts of patterns.
use Rattle.std.specs.Prelude.{◌≡◌, ◌≢◌, ℕ, Bool, false, ◌||◌, ◌==◌, if◌then◌else◌}
use Rattle.std.specs.Prelude.{◌++◌, List, [], ◌∷◌, Option, None, Some}
use Rattle.app_slices.specs.declared.item.Range.{Range}
use Rattle.app_slices.specs.declared.item.Item.{Item}
use Rattle.app_slices.specs.declared.item.Item.TheVariants.{Star, One, Class, Just}

-- a character and what is behind it
abbrev pub Taken : Type 0
Taken = ℕ × List ℕ

abbrev pub first_in : List ℕ → Option Taken
first_in [] = None
first_in (c ∷ cs) = Some (c, cs)

-- a character of a class: the one behind `\`, or any but `\`, `-` and `]`
abbrev pub class_char_in : List ℕ → Option Taken
class_char_in [] = None
class_char_in (c ∷ cs) = if c == 92 then first_in cs else (if (c == 45) || (c == 93) then None else Some (c, cs))

abbrev pub range : ℕ → ℕ → Range
range first last = record { first = first; last = last }

abbrev pub range_to : ℕ → Option Taken → Option (Range × List ℕ)
range_to first None = None
range_to first (Some last) = Some (range first last.0, last.1)

-- behind the first character of a range: `-` and another one, or nothing more of it
abbrev pub range_from : ℕ → List ℕ → Option (Range × List ℕ)
range_from first [] = Some (range first first, [])
range_from first (c ∷ cs) = if c == 45 then range_to first (class_char_in cs) else Some (range first first, c ∷ cs)

abbrev pub range_of : Option Taken → Option (Range × List ℕ)
range_of None = None
range_of (Some first) = range_from first.0 first.1

-- a character of a class, or two joined by `-`
abbrev pub range_in : List ℕ → Option (Range × List ℕ)
range_in text = range_of (class_char_in text)

-- a text is these ranges, then `]` and this rest
abbrev pub AreRanges : List Range → List ℕ → List ℕ → Type 0
AreRanges [] text rest = text ≡ 93 ∷ rest
AreRanges (r ∷ rs) text rest = (between : List ℕ) × (range_in text ≡ Some (r, between)) × AreRanges rs between rest

-- what is behind `[`, without a `^` that comes first
abbrev pub is_negated : List ℕ → Bool
is_negated [] = false
is_negated (c ∷ cs) = c == 94

abbrev pub body_of : List ℕ → List ℕ
body_of [] = []
body_of (c ∷ cs) = if c == 94 then cs else c ∷ cs

-- behind `[` a class: at least one range
abbrev pub IsClass : Item → List ℕ → List ℕ → Type 0
IsClass item text rest =
    (ranges : List Range) × (item ≡ Class (is_negated text) ranges)
    × (ranges ≢ []) × AreRanges ranges (body_of text) rest

-- what the first character of an item says of it
pub data Lead : Type 0 where
  AStar : Lead
  AOne : Lead
  AnEscape : Lead
  AClass : Lead
  ItSelf : Lead

abbrev pub lead_of : ℕ → Lead
lead_of c =
    if c == 42 then AStar
    else (if c == 63 then AOne
    else (if c == 92 then AnEscape
    else (if c == 91 then AClass else ItSelf)))

-- what a text is behind that character
abbrev pub IsLed : Lead → ℕ → Item → List ℕ → List ℕ → Type 0
IsLed AStar c item text rest = (item ≡ Star) × (rest ≡ text)
IsLed AOne c item text rest = (item ≡ One) × (rest ≡ text)
IsLed AnEscape c item text rest = (only : ℕ) × (text ≡ only ∷ rest) × (item ≡ Just only)
IsLed AClass c item text rest = IsClass item text rest
IsLed ItSelf c item text rest = (item ≡ Just c) × (rest ≡ text)

-- a text is this item and this rest: `*`, `?`, `[` and a class, `\` and a character, or any other character
abbrev pub IsItem : Item → List ℕ → List ℕ → Type 0
IsItem item [] rest = ⊥
IsItem item (c ∷ cs) rest = IsLed (lead_of c) c item cs rest

-- a text is these items
abbrev pub Spells : List Item → List ℕ → Type 0
Spells [] text = text ≡ []
Spells (item ∷ items) text = (rest : List ℕ) × IsItem item text rest × Spells items rest

-- a text is no item with a rest, and no items
abbrev pub IsNoItem : List ℕ → Type 0
IsNoItem text = (item : Item) (rest : List ℕ) → IsItem item text rest → ⊥

abbrev pub IsNoPattern : List ℕ → Type 0
IsNoPattern text = (items : List Item) → Spells items text → ⊥

-- no ranges stand behind `[`
abbrev pub IsNoClass : List ℕ → Type 0
IsNoClass text = (ranges : List Range) (rest : List ℕ) → AreRanges ranges text rest → ⊥

-- What was read of a text: these items, with this rest left. Where more items are the rest, all of them are the text,
-- and nothing else is. Private calls alone speak of it.
pub record HasRead (text : List ℕ) (items : List Item) (rest : List ℕ) : Type 0 where
  pub is : (more : List Item) → Spells more rest → Spells (items ++ more) text
  pub only : (all : List Item) → Spells all text → (more : List Item) × (all ≡ items ++ more) × Spells more rest

-- the same of ranges
pub record HasRanges (text : List ℕ) (ranges : List Range) (rest : List ℕ) : Type 0 where
  pub is : (more : List Range) (end : List ℕ) → AreRanges more rest end → AreRanges (ranges ++ more) text end
  pub only : (all : List Range) (end : List ℕ)
      → AreRanges all text end → (more : List Range) × (all ≡ ranges ++ more) × AreRanges more rest end
