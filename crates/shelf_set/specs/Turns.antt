-- Shelves one after another, which private calls alone speak of.
use Rattle.std.specs.Prelude.{ℕ, Bool, true, false, ◌≡◌, ◌+◌, ◌++◌, List, [], ◌∷◌, length, map, take, drop, Result}
use Rattle.std.specs.Prelude.{Ok, Err}
use Rattle.std.specs.List.{AllByRecursion}
use Rattle.cnb_world.specs.declared.shelf.ShelfFault.{ShelfFault}
use Rattle.cnb_world.specs.declared.shelf.ShelfFault.TheVariants as shelf
pub use Rattle.tree_store.specs.ShelfState.{Replaces}
use Rattle.shelf_set.specs.ShelfState.{ShelfState}
use Rattle.shelf_set.specs.Dropping.{Turn, number_of, before_of, after_of, failed_of, left_of, IsCounted}

-- whether an answer is that of a shelf that failed
abbrev pub is_failed : {T : Type 0} → Result T ShelfFault → Bool
is_failed (Ok value) = false
is_failed (Err shelf.Failed) = true
is_failed (Err shelf.Memory) = false

-- an item is moved to the end
pub record MovesLast {X : Type 0} (old : List X) (at : ℕ) (new : List X) : Type 0 where
  pub front : List X
  pub item : X
  pub back : List X
  pub entry : old ≡ front ++ item ∷ back
  pub place : at ≡ length front
  pub exit : new ≡ front ++ (back ++ item ∷ [])

-- a shelf that failed is moved to the end, and the next one comes to its place; else the place goes on
abbrev pub Settles : Bool → List ShelfState → List ℕ → ℕ → List ShelfState → List ℕ → ℕ → Type 0
Settles true old numbers at new later next = MovesLast old at new × MovesLast numbers at later × (next ≡ at)
Settles false old numbers at new later next = (new ≡ old) × (later ≡ numbers) × (next ≡ at + 1)

-- the shelf at a place is asked, of which this holds before and after, and settled by whether it failed
pub record TakesTurn (old : List ShelfState) (numbers : List ℕ) (at : ℕ) (Does : ShelfState → ShelfState → Type 0)
    (fails : Bool) (new : List ShelfState) (later : List ℕ) (next : ℕ) : Type 0 where
  pub before : ShelfState
  pub after : ShelfState
  pub between : List ShelfState
  pub replaced : Replaces old at before after between
  pub does : Does before after
  pub settled : Settles fails between numbers at new later next

-- these shelves had their turns, and the next one stands at this place
pub record Goes (turns : List Turn) (old new : List ShelfState) (places numbers : List ℕ) (at : ℕ) : Type 0 where
  pub counted : AllByRecursion IsCounted turns
  pub rest : List ShelfState
  pub later : List ℕ
  pub earlier : List ShelfState
  pub paired : length rest ≡ length later
  pub entry : old ≡ map before_of turns ++ (rest ++ earlier)
  pub exit : new ≡ map after_of (left_of turns) ++ (rest ++ (earlier ++ map after_of (failed_of turns)))
  pub first : places ≡ map number_of turns ++ later
  pub now : numbers ≡ map number_of (left_of turns) ++ (later ++ map number_of (failed_of turns))
  pub place : at ≡ length (left_of turns)

-- ---- shelves that are settled when all were asked

-- of the first items, by whether each failed, those that didn't
abbrev pub staying : {X : Type 0} → List Bool → List X → List X
staying [] items = []
staying (fails ∷ failed) [] = []
staying (true ∷ failed) (x ∷ items) = staying failed items
staying (false ∷ failed) (x ∷ items) = x ∷ staying failed items

-- and those that did
abbrev pub failing : {X : Type 0} → List Bool → List X → List X
failing [] items = []
failing (fails ∷ failed) [] = []
failing (true ∷ failed) (x ∷ items) = x ∷ failing failed items
failing (false ∷ failed) (x ∷ items) = failing failed items

-- so many were settled
pub record Settling (failed : List Bool) (count : ℕ) (old now : List ShelfState) (places numbers : List ℕ)
    (at : ℕ) : Type 0 where
  pub listed : now ≡ staying (take count failed) old ++ (drop count old ++ failing (take count failed) old)
  pub numbered : numbers ≡ staying (take count failed) places ++ (drop count places
      ++ failing (take count failed) places)
  pub place : at ≡ length (staying (take count failed) places)

-- Those that failed are moved behind all others, in their order. So many numbers are those of the shelves that stand.
pub record SettlesEach (failed : List Bool) (old : List ShelfState) (places : List ℕ) (new : List ShelfState)
    (numbers : List ℕ) (standing : ℕ) : Type 0 where
  pub listed : new ≡ staying failed old ++ (drop (length failed) old ++ failing failed old)
  pub numbered : numbers ≡ staying failed places ++ failing failed places
  pub stands : standing ≡ length (staying failed places)

-- the same with the numbers parted
pub record DropsFailed (failed : List Bool) (old : List ShelfState) (places : List ℕ) (new : List ShelfState)
    (standing gone : List ℕ) : Type 0 where
  pub listed : new ≡ staying failed old ++ (drop (length failed) old ++ failing failed old)
  pub left : standing ≡ staying failed places
  pub dropped : gone ≡ failing failed places
