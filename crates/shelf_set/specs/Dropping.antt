-- Which shelves a call leaves standing, of all calls of this crate.
use Rattle.std.specs.Prelude.{ℕ, Bool, not, ◌≡◌, ◌≤◌, ◌++◌, List, length, map}
use Rattle.std.specs.List.{AllByRecursion, filter}
pub use Rattle.tree_store.specs.ShelfState.{Counted}
use Rattle.shelf_set.specs.ShelfState.{ShelfState}

-- what every call asks for: the numbers are those of the first shelves
abbrev pub AreStanding : List ℕ → List ShelfState → Type 0
AreStanding places shelves = length places ≤ length shelves

-- a shelf that stood before a call: its number in the list that the caller first had, its states before and after, and
-- whether it failed
pub record Turn : Type 0 where
  pub number : ℕ
  pub before : ShelfState
  pub after : ShelfState
  pub failed : Bool

abbrev pub number_of : Turn → ℕ
number_of t = t.number

abbrev pub before_of : Turn → ShelfState
before_of t = t.before

abbrev pub after_of : Turn → ShelfState
after_of t = t.after

abbrev pub has_failed : Turn → Bool
has_failed t = t.failed

abbrev pub IsCounted : Turn → Type 0
IsCounted t = Counted t.failed t.before.faults t.after.faults

-- those that failed, and the others, each in their order
abbrev pub failed_of : List Turn → List Turn
failed_of turns = filter has_failed turns

abbrev pub left_of : List Turn → List Turn
left_of turns = filter (λ t. not (has_failed t)) turns

-- Of the shelves that stood, exactly those that failed are dropped, and exactly their counts rose. The others stand in
-- their old order. The dropped ones are at the end, behind those that were dropped before, which are as they were;
-- `gone` has their numbers.
pub record Drops (turns : List Turn) (old new : List ShelfState) (places standing gone : List ℕ) : Type 0 where
  pub counted : AllByRecursion IsCounted turns
  pub earlier : List ShelfState
  pub entry : old ≡ map before_of turns ++ earlier
  pub exit : new ≡ map after_of (left_of turns) ++ (earlier ++ map after_of (failed_of turns))
  pub numbers : places ≡ map number_of turns
  pub left : standing ≡ map number_of (left_of turns)
  pub dropped : gone ≡ map number_of (failed_of turns)
