-- What contracts see of where a tree's bytes are read from, and what calls leave of it.
use Rattle.std.specs.Prelude.{ℕ, suc, Bool, true, false, ◌≡◌, ◌⊎◌, List, [], codes, take, drop, Option, Some, None}
use Rattle.std.specs.Prelude.{is_some}
use Rattle.std.specs.Prelude.{Result, IfErr, IfOk, IfSome, IsTrue, OnOk}
use Rattle.std.specs.FinMap.{get}
use Rattle.std.specs.List.{slice_get}
use Rattle.std.specs.Option.{option_map}
use Rattle.cnb_world.specs.Calls.{CountsShelf, MayMisuse}
use Rattle.cnb_world.specs.Shelf.{Held}
use Rattle.cnb_world.specs.Tree.{Tree, bytes_of, is_file, is_within, item_at}
use Rattle.cnb_world.specs.declared.shelf.ShelfFault.{ShelfFault}
use Rattle.cnb_world.specs.declared.world.Item.{Item}
use Rattle.cnb_world.specs.declared.world.Item.TheVariants as item
use Rattle.steps.specs.Causes.{CountsFiles}
use Rattle.steps.specs.Outside.{Seen}
use Rattle.tree_store.specs.Answers.{cause_of, is_free}
use Rattle.tree_store.specs.Around.{LeavesAround}
use Rattle.tree_store.specs.ShelfState.{Counted, ShelfState}
use Rattle.tree_store.specs.declared.fault.StoreFault.{StoreFault}
use Rattle.tree_store.specs.declared.fault.StoreFault.TheVariants.{OddFile, Limit, File, NoTree, Damaged, Clash, Memory}

-- The path of a file; or a shelf, those before and behind it, and whether it failed.
pub record OriginState : Type 0 where
  pub path : List ℕ
  pub shelf : Option ShelfState
  pub others : List ShelfState × List ShelfState
  pub failed : Bool

abbrev pub of_file : List ℕ → OriginState
of_file path = record { path = path; shelf = None; others = ([], []); failed = false }

-- No path but `/` itself is at or above the one that stands here for a path.
abbrev pub of_shelf : List ShelfState → ℕ → Bool → OriginState
of_shelf shelves number failed = record {
  path = codes "/";
  shelf = slice_get shelves number;
  others = (take number shelves, drop (suc number) shelves);
  failed = failed;
}

-- what a shelf tells that may not be there, and its count of faults
abbrev pub held_of : Option ShelfState → Option Held
held_of None = None
held_of (Some shelf) = shelf.held

abbrev pub rows_of : Option ShelfState → Option (List ℕ)
rows_of None = None
rows_of (Some shelf) = shelf.rows

abbrev pub faults_of : Option ShelfState → ℕ
faults_of None = 0
faults_of (Some shelf) = shelf.faults

-- the bytes under a digest, where they are told
abbrev pub held_under : Option Held → List ℕ → Option (List ℕ)
held_under None digest = None
held_under (Some held) digest = get held digest

-- What is read: what stands at a path, or the bytes that a shelf has under a digest.
abbrev pub found_by : Bool → List ℕ → Option Held → List ℕ → Tree → Option Item
found_by false path held digest files = item_at files path
found_by true path held digest files = option_map (λ bytes. item.File false bytes) (held_under held digest)

abbrev pub found_in : OriginState → List ℕ → Tree → Option Item
found_in origin digest files = found_by (is_some origin.shelf) origin.path (held_of origin.shelf) digest files

-- What a call leaves of the shelves. The one that is read tells what it told, and its count of faults rose exactly
-- where it is said to have failed afterwards.
pub record LeavesShelf {A : Type 0} (origin : OriginState) (result : Result A StoreFault) (after : OriginState)
    : Type 0 where
  pub others : after.others ≡ origin.others
  pub stands : is_some after.shelf ≡ is_some origin.shelf
  pub held : held_of after.shelf ≡ held_of origin.shelf
  pub rows : rows_of after.shelf ≡ rows_of origin.shelf
  pub calm : OnOk result (after.failed ≡ origin.failed)
  pub faults : origin.failed ≡ false → Counted after.failed (faults_of origin.shelf) (faults_of after.shelf)

-- `File` carries this path, one below it, or that of the file which is read
abbrev pub BlamesRead : List ℕ → OriginState → StoreFault → Type 0
BlamesRead path origin (File blamed) = IsTrue (is_within path blamed)
    ⊎ ((is_some origin.shelf ≡ false) × (blamed ≡ origin.path))
BlamesRead path origin (OddFile odd) = Unit {0}
BlamesRead path origin (Limit kind) = Unit {0}
BlamesRead path origin (NoTree digest) = Unit {0}
BlamesRead path origin (Damaged asked found bad) = Unit {0}
BlamesRead path origin (Clash digest) = Unit {0}
BlamesRead path origin Memory = Unit {0}

-- What a call leaves, whatever bytes it reads: all that isn't at a path or below it. Where files aren't told it makes
-- no call on a path of the wrong kind. Where a shelf failed in it, no call on files did.
pub record Leaves {A : Type 0} (path : List ℕ) (origin : OriginState) (old : Seen) (result : Result A StoreFault)
    (after : OriginState) (new : Seen)
    : Type 0 where
  pub stays : after.path ≡ origin.path
  pub shelf : LeavesShelf origin result after
  pub quiet : origin.failed ≡ false → after.failed ≡ true → new.file_faults ≡ old.file_faults
  pub around : LeavesAround path old new
  pub untold : MayMisuse (option_map (λ files. false) old.files) old.misused new.misused
  pub children : new.child_faults ≡ old.child_faults
  pub counts : CountsFiles cause_of result old.file_faults new.file_faults
  pub blames : IfErr result (BlamesRead path origin)

-- a piece of the bytes of a digest is read, from a place on
pub record ReadsPiece (origin : OriginState) (digest : List ℕ) (at : ℕ) (old : Seen)
    (result : Result (List ℕ) StoreFault) (after : OriginState) (new : Seen)
    : Type 0 where
  pub leaves : (path : List ℕ) → Leaves path origin old result after new
  pub files : new.files ≡ old.files
  pub told : IfSome old.files (λ files. IsTrue (is_file (found_in origin digest files))
      → IfOk result (λ piece. piece ≡ take 65536 (drop at (bytes_of (found_in origin digest files)))))
  pub right : MayMisuse (option_map (λ files. is_file (found_in origin digest files)) old.files)
      old.misused new.misused
  pub free : IfErr result (λ fault. IsTrue (is_free fault))

-- what one shelf gives of the bytes under a digest, from a place on
pub record ReadsShelf (digest : List ℕ) (at : ℕ) (result : Result (Option (List ℕ)) ShelfFault)
    (before after : ShelfState) : Type 0 where
  pub held : after.held ≡ before.held
  pub rows : after.rows ≡ before.rows
  pub faults : CountsShelf result before.faults after.faults
  pub told : IfSome before.held (λ h. IfOk result (λ found. found
      ≡ option_map (λ bytes. take 65536 (drop at bytes)) (get h digest)))

-- a piece of the bytes that a shelf has under a digest
pub record ReadsHeld (origin : OriginState) (digest : List ℕ) (at : ℕ) (result : Result (List ℕ) StoreFault)
    (after : OriginState) : Type 0 where
  pub path : after.path ≡ origin.path
  pub shelf : LeavesShelf origin result after
  pub told : (bytes : List ℕ) → held_under (held_of origin.shelf) digest ≡ Some bytes
      → IfOk result (λ piece. piece ≡ take 65536 (drop at bytes))
  pub memory : IfErr result (λ fault. fault ≡ Memory)
