-- Storing trees in shelves.
use Rattle.std.specs.Prelude.{ℕ, Bool, true, false, ◌≡◌, ◌≤◌, ◌⊎◌, List, [], ◌∷◌, length, take}
use Rattle.std.specs.List.{AllByRecursion}
use Rattle.std.specs.Option.{option_map}
use Rattle.std.specs.FinMap.{insert}
use Rattle.cnb_world.specs.Shelf.{Held}
use Rattle.shelf_set.specs.ShelfState.{ShelfState}
use Rattle.shelf_set.specs.Dropping.{Turn, has_failed, Drops}

-- the bytes of a tree, and their digest
pub record TreeBytes : Type 0 where
  pub digest : List ℕ
  pub bytes : List ℕ

-- trees put one after another, each in place of what is there under its digest
abbrev pub with_trees : List TreeBytes → Held → Held
with_trees [] held = held
with_trees (t ∷ ts) held = with_trees ts (insert held t.digest t.bytes)

-- the shelf holds all the trees besides what it held, and has these rows
abbrev pub HasAll : List TreeBytes → List ℕ → ShelfState → ShelfState → Type 0
HasAll trees rows before after = (after.held ≡ option_map (with_trees trees) before.held)
    × (after.rows ≡ option_map (λ _. rows) before.rows)

-- the shelf holds some of the trees, the first ones, besides what it held, and has its old rows
abbrev pub HasSome : List TreeBytes → ShelfState → ShelfState → Type 0
HasSome trees before after = ((n : ℕ) × (n ≤ length trees)
    × (after.held ≡ option_map (with_trees (take n trees)) before.held)) × (after.rows ≡ before.rows)

abbrev pub HasEither : Bool → List TreeBytes → List ℕ → ShelfState → ShelfState → Type 0
HasEither true trees rows before after = HasSome trees before after
HasEither false trees rows before after = HasAll trees rows before after

-- a shelf that failed has some of the trees, and any other has all
abbrev pub IsStored : List TreeBytes → List ℕ → Turn → Type 0
IsStored trees rows t = HasEither (has_failed t) trees rows t.before t.after

abbrev pub MayBeStored : List TreeBytes → List ℕ → Turn → Type 0
MayBeStored trees rows t = HasSome trees t.before t.after ⊎ HasAll trees rows t.before t.after

-- What is left: the failed shelves are dropped, and all others have all the trees and the rows.
pub record StoresAll (trees : List TreeBytes) (rows : List ℕ) (old : List ShelfState) (places : List ℕ)
    (new : List ShelfState) (standing gone : List ℕ) : Type 0 where
  pub turns : List Turn
  pub drops : Drops turns old new places standing gone
  pub stored : AllByRecursion (IsStored trees rows) turns

-- What is left where memory ran out: the failed shelves are dropped, and each shelf has all the trees and the rows, or
-- some of the trees and its old rows.
pub record StoresSome (trees : List TreeBytes) (rows : List ℕ) (old : List ShelfState) (places : List ℕ)
    (new : List ShelfState) (standing : List ℕ) : Type 0 where
  pub turns : List Turn
  pub gone : List ℕ
  pub drops : Drops turns old new places standing gone
  pub may_be : AllByRecursion (MayBeStored trees rows) turns
