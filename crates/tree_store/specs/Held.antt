-- Laying a tree that a cache holds.
use Rattle.std.specs.Prelude.{ℕ, Bool, true, false, ◌≡◌, ◌≤◌, List, codes, length, Option, Some, None, Result, Ok, Err}
use Rattle.std.specs.Prelude.{IfErr, IsTrue, OnOk}
use Rattle.std.specs.FinMap.{get}
use Rattle.std.specs.Option.{option_map}
use Rattle.sha2.specs.Sha256.{sha256}
use Rattle.cnb_world.specs.Shelf.{Held}
use Rattle.cnb_world.specs.Tree.{Tree, is_within}
use Rattle.steps.specs.Causes.{Cause}
use Rattle.steps.specs.Counts.{FileCounts}
use Rattle.steps.specs.Outside.{Seen}
use Rattle.steps.specs.Steps.{Allows}
use Rattle.tree_canon.specs.Fits.{fits}
use Rattle.tree_canon.specs.Spelling.{limit, spelling_of}
use Rattle.tree_canon.specs.declared.node.Node.{Node}
use Rattle.tree_store.specs.Answers.{cause_of}
use Rattle.tree_store.specs.Around.{LeavesAround}
use Rattle.tree_store.specs.Overlay.{tree_laid}
use Rattle.tree_store.specs.Partly.{LaidPartly, items_placed}
use Rattle.tree_store.specs.ShelfState.{Counted, ShelfState}
use Rattle.tree_store.specs.Steps.{can_lay, lays_tree}
use Rattle.tree_store.specs.declared.fault.StoreFault.{StoreFault}
use Rattle.tree_store.specs.declared.fault.StoreFault.TheVariants.{OddFile, Limit, File, NoTree, Damaged, Clash, Memory}
use Rattle.tree_store.specs.declared.laying_held.HeldFault.{HeldFault}
use Rattle.tree_store.specs.declared.laying_held.HeldFault.TheVariants.{Shelf, Store}

-- a shelf that tells what it holds has the spelling of a tree under a digest
pub record HoldsTree (shelf : ShelfState) (digest : List ℕ) (tree : Node) : Type 0 where
  pub held : Held
  pub told : shelf.held ≡ Some held
  pub bytes : get held digest ≡ Some (spelling_of tree)
  pub named : sha256 (spelling_of tree) ≡ digest
  pub fit : fits tree 0 ≡ true
  pub size : length (spelling_of tree) ≤ limit

-- whether it was the shelf that failed
abbrev pub is_shelf_fault : Result (Unit {0}) HeldFault → Bool
is_shelf_fault (Ok done) = false
is_shelf_fault (Err Shelf) = true
is_shelf_fault (Err (Store fault)) = false

-- what ended a call; a shelf that failed is no failure of the world
abbrev pub held_end : Result (Unit {0}) HeldFault → Option Cause
held_end (Ok done) = None
held_end (Err Shelf) = None
held_end (Err (Store fault)) = Some (cause_of fault)

-- what a call answers, by whether the shelf failed
abbrev pub held_answer : Bool → Result (Unit {0}) StoreFault → Result (Unit {0}) HeldFault
held_answer failed (Ok done) = Ok done
held_answer true (Err fault) = Err Shelf
held_answer false (Err fault) = Err (Store fault)

-- a failed call was at the path or below it
abbrev pub IsHeldCause : List ℕ → HeldFault → Type 0
IsHeldCause root Shelf = Unit {0}
IsHeldCause root (Store (File blamed)) = IsTrue (is_within root blamed)
IsHeldCause root (Store (OddFile odd)) = Unit {0}
IsHeldCause root (Store (Limit kind)) = Unit {0}
IsHeldCause root (Store (NoTree digest)) = Unit {0}
IsHeldCause root (Store (Damaged asked found bad)) = Unit {0}
IsHeldCause root (Store (Clash digest)) = Unit {0}
IsHeldCause root (Store Memory) = Unit {0}

-- A tree is laid at a path. Where the shelf failed, each path there or below has what stood there, or a part of what
-- the tree gives.
abbrev pub LaysTold : List ℕ → Node → Seen → Result (Unit {0}) HeldFault → Seen → Type 0
LaysTold root tree old (Ok done) new = lays_tree root (codes "/") tree old (Ok done) new
LaysTold root tree old (Err (Store fault)) new = lays_tree root (codes "/") tree old (Err fault) new
LaysTold root tree old (Err Shelf) new = LaidPartly root (items_placed root (codes "/") tree) old.files new.files
    × Allows (can_lay root (codes "/") tree) old new

-- a tree of this digest was laid at a path, whatever was known of its bytes before
pub record LaysSome (root digest : List ℕ) (old new : Option Tree) : Type 0 where
  pub tree : Node
  pub named : sha256 (spelling_of tree) ≡ digest
  pub fit : fits tree 0 ≡ true
  pub size : length (spelling_of tree) ≤ limit
  pub files : new ≡ option_map (tree_laid root (codes "/") tree) old

-- What is left of a shelf and of the files where the tree that the shelf holds under a digest is laid at a path. The
-- shelf tells what it told, and its count rose where it failed.
pub record LaysHeld (root digest : List ℕ) (before : ShelfState) (old : Seen) (result : Result (Unit {0}) HeldFault)
    (after : ShelfState) (new : Seen) : Type 0 where
  pub held : after.held ≡ before.held
  pub rows : after.rows ≡ before.rows
  pub faults : Counted (is_shelf_fault result) before.faults after.faults
  pub around : LeavesAround root old new
  pub counts : FileCounts (held_end result) old new
  pub blames : IfErr result (IsHeldCause root)
  pub told : (files : Tree) (tree : Node) → old.files ≡ Some files → HoldsTree before digest tree
      → LaysTold root tree old result new
  pub laid : OnOk result (LaysSome root digest old.files new.files)
