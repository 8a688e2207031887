-- Finding a tree in shelves.
use Rattle.std.specs.Prelude.{ℕ, Bool, true, false, ◌≡◌, List, [], ◌∷◌, map, Option, Some, None, is_some, IfSome}
use Rattle.std.specs.List.{AllByRecursion}
use Rattle.std.specs.FinMap.{get}
use Rattle.cnb_world.specs.Shelf.{Held}
use Rattle.tree_canon.specs.declared.fault.Reason.{Reason}
use Rattle.tree_canon.specs.declared.judging.Judged.TheVariants as judged
use Rattle.tree_canon.specs.declared.node.Node.{Node}
use Rattle.tree_canon.specs.Judging.{IsJudged}
use Rattle.shelf_set.specs.ShelfState.{ShelfState}
use Rattle.shelf_set.specs.Dropping.{Turn, after_of, left_of, Drops}

-- what caches hold under a digest: the bytes of a tree, none, or bytes that are damaged
pub data InCaches : Type 0 where
  Whole : Node → InCaches
  Missing : InCaches
  Broken : List ℕ → List ℕ → Option Reason → InCaches

-- it tells the same before and after
abbrev pub TellsSame : Turn → Type 0
TellsSame t = (t.after.held ≡ t.before.held) × (t.after.rows ≡ t.before.rows)

-- the first shelf in order that holds the digest decides
abbrev pub holds_first : List ℕ → Option (List ℕ) → Type 0 → Option (List ℕ) → Type 0
holds_first digest (Some bytes) later held = held ≡ Some bytes
holds_first digest None later held = later

-- what the first of the shelves holds that holds the digest; of shelves that don't tell nothing is said
abbrev pub IsFirst : List ShelfState → List ℕ → Option (List ℕ) → Type 0
IsFirst [] digest held = held ≡ None
IsFirst (s ∷ ss) digest held = IfSome s.held (λ h. holds_first digest (get h digest) (IsFirst ss digest held) held)

-- it tells that it holds the digest
abbrev pub tells_of : List ℕ → Option Held → Bool
tells_of digest None = false
tells_of digest (Some held) = is_some (get held digest)

-- it wasn't asked: it is left, and is the very same
abbrev pub IsUnasked : Turn → Type 0
IsUnasked t = (t.failed ≡ false) × (t.after ≡ t.before)

-- Behind a shelf that is left and tells that it holds the digest none is asked.
abbrev pub NoneBehind : List ℕ → List Turn → Type 0
NoneBehind digest [] = Unit {0}
NoneBehind digest (t ∷ ts) = (t.failed ≡ false → tells_of digest t.before.held ≡ true
    → AllByRecursion IsUnasked ts) × NoneBehind digest ts

-- what is found: nothing where no shelf holds the digest, and else what these bytes are under it
abbrev pub IsFound : List ℕ → Option (List ℕ) → InCaches → Type 0
IsFound digest None answer = answer ≡ Missing
IsFound digest (Some bytes) Missing = ⊥
IsFound digest (Some bytes) (Whole tree) = IsJudged digest bytes (judged.Tree tree)
IsFound digest (Some bytes) (Broken asked is bad) = IsJudged digest bytes (judged.Damaged asked is bad)

-- What is answered and left: the failed shelves are dropped, all shelves tell what they told, and the first of those
-- left that holds the digest decides. Those behind it aren't asked.
pub record Finds (old : List ShelfState) (places digest : List ℕ) (answer : InCaches) (new : List ShelfState)
    (standing gone : List ℕ) : Type 0 where
  pub turns : List Turn
  pub drops : Drops turns old new places standing gone
  pub same : AllByRecursion TellsSame turns
  pub held : Option (List ℕ)
  pub first : IsFirst (map after_of (left_of turns)) digest held
  pub found : IsFound digest held answer
  pub unasked : NoneBehind digest turns

-- what is left where memory ran out: the failed shelves are dropped, and all tell what they told
pub record LeavesSame (old : List ShelfState) (places : List ℕ) (new : List ShelfState)
    (standing : List ℕ) : Type 0 where
  pub turns : List Turn
  pub gone : List ℕ
  pub drops : Drops turns old new places standing gone
  pub same : AllByRecursion TellsSame turns

-- the same of a search for a digest, which asks none behind a shelf that holds it
pub record LeavesSearched (old : List ShelfState) (places digest : List ℕ) (new : List ShelfState)
    (standing : List ℕ) : Type 0 where
  pub turns : List Turn
  pub gone : List ℕ
  pub drops : Drops turns old new places standing gone
  pub same : AllByRecursion TellsSame turns
  pub unasked : NoneBehind digest turns
