-- What contracts see of where the bytes of a tree go, and what adding some leaves.
use Rattle.std.specs.Prelude.{ℕ, Bool, true, false, ◌≡◌, ◌≤◌, ◌⊎◌, ◌++◌, List, [], ◌∷◌, map, Option}
use Rattle.std.specs.Prelude.{Result, IfErr, IsTrue, OnOk}
use Rattle.std.specs.Option.{option_map}
use Rattle.std.specs.declared.dyn_box.DynBox.{DynBox}
use Rattle.cnb_world.specs.Shelf.{Held, empty_at, with_more}
use Rattle.cnb_world.specs.Tree.{Tree}
use Rattle.cnb_world.specs.declared.memory.shelf.Held.{Held as HeldBytes}
use Rattle.cnb_world.specs.declared.shelf.Shelf as shelf
use Rattle.steps.specs.Causes.{CountsFiles, IsReadCause}
use Rattle.steps.specs.Outside.{Seen}
use Rattle.tree_store.specs.Answers.{BlamesEither, BlamesWithin, cause_of, is_free}
use Rattle.tree_store.specs.Around.{KeptAround}
use Rattle.tree_store.specs.Places.{LeavesButFile, begun_with, new_path}
use Rattle.tree_store.specs.ShelfState.{ShelfState, state_of}
use Rattle.tree_store.specs.Shelves.{KeepsTold, OnEachSeen}
use Rattle.tree_store.specs.declared.fault.StoreFault.{StoreFault}

-- a shelf, and what was begun on it
pub record Receiver : Type 0 where
  pub shelf : ShelfState
  pub begun : Option HeldBytes

abbrev pub shelf_of : Receiver → ShelfState
shelf_of receiver = receiver.shelf

abbrev pub receiver_of : Option Held → Option (List ℕ) → ℕ → Option HeldBytes → Receiver
receiver_of held rows faults begun = record { shelf = state_of held rows faults; begun = begun }

-- of boxed shelves, each with its own calls
abbrev pub receivers_seen : {X Z : Type 0} {F : X → Type 0} → ((x : X) → shelf.Ghosts (F x)) → List (DynBox X Z F)
    → List Receiver
receivers_seen ghosts boxes = map (λ box. receiver_of ((ghosts box.vtable).held box.value)
    ((ghosts box.vtable).rows box.value) ((ghosts box.vtable).faults box.value) ((ghosts box.vtable).begun box.value))
    boxes

-- The path of a file; or a digest, shelves, and whether each of the first of them has failed.
pub data TargetState : Type 0 where
  ToFile : List ℕ → TargetState
  ToShelves : List ℕ → List Receiver → List Bool → TargetState

-- Of the bytes under the digest these were begun on each shelf that has not failed.
abbrev pub HaveBegun : List ℕ → List ℕ → List Bool → List Receiver → Type 0
HaveBegun digest bytes [] receivers = Unit {0}
HaveBegun digest bytes (true ∷ failed) (r ∷ receivers) = HaveBegun digest bytes failed receivers
HaveBegun digest bytes (false ∷ failed) (r ∷ receivers) =
    (r.begun ≡ option_map (λ _. with_more bytes (empty_at digest)) r.shelf.held)
    × HaveBegun digest bytes failed receivers
HaveBegun digest bytes (f ∷ failed) [] = ⊥

-- these bytes went there, since the files were those
abbrev pub WentTo : List ℕ → Option Tree → TargetState → List ℕ → Option Tree → Type 0
WentTo store before (ToFile path) bytes now = (path ≡ new_path store)
    × (now ≡ option_map (begun_with store bytes) before)
WentTo store before (ToShelves digest receivers failed) bytes now = (now ≡ before)
    × HaveBegun digest bytes failed receivers

-- and all other files are as they were
pub record HasGone (store : List ℕ) (before : Option Tree) (target : TargetState) (bytes : List ℕ)
    (now : Option Tree) : Type 0 where
  pub went : WentTo store before target bytes now
  pub kept : KeptAround (new_path store) before now

abbrev pub AsTold : Receiver → Receiver → Type 0
AsTold before after = KeepsTold before.shelf after.shelf

-- it is the same file, or the shelves tell what they told
abbrev pub StaysTarget : TargetState → TargetState → Type 0
StaysTarget (ToFile path) (ToFile other) = other ≡ path
StaysTarget (ToShelves digest receivers failed) (ToShelves other later fails) = (other ≡ digest)
    × OnEachSeen shelf_of AsTold failed fails receivers later
StaysTarget (ToFile path) (ToShelves digest receivers failed) = ⊥
StaysTarget (ToShelves digest receivers failed) (ToFile path) = ⊥

-- nothing was done to it, or that
abbrev pub KeepsTarget : TargetState → TargetState → Type 0
KeepsTarget before after = (after ≡ before) ⊎ StaysTarget before after

-- what a call leaves of files that only reads them
pub record LeavesFiles {A : Type 0} (old : Seen) (result : Result A StoreFault) (new : Seen) : Type 0 where
  pub files : new.files ≡ old.files
  pub runs : new.runs ≡ old.runs
  pub misused : old.misused ≤ new.misused
  pub children : new.child_faults ≡ old.child_faults
  pub counts : CountsFiles cause_of result old.file_faults new.file_faults
  pub cause : IfErr result (λ fault. IsReadCause new.failed_at (cause_of fault))

abbrev pub LeavesOthers : {A : Type 0} → TargetState → Seen → Result A StoreFault → Seen → Type 0
LeavesOthers (ToFile path) old result new = LeavesButFile path old result new
LeavesOthers (ToShelves digest receivers failed) old result new = LeavesFiles old result new

-- a refusal for a failed call was at the path or below it, or at the file
abbrev pub BlamesTarget : List ℕ → TargetState → StoreFault → Type 0
BlamesTarget path (ToFile file) fault = BlamesEither path file fault
BlamesTarget path (ToShelves digest receivers failed) fault = BlamesWithin path fault

-- what a call leaves that reads at a path or below it and adds bytes
pub record LeavesTarget {A : Type 0} (path : List ℕ) (target : TargetState) (old : Seen)
    (result : Result A StoreFault) (after : TargetState) (new : Seen) : Type 0 where
  pub stays : KeepsTarget target after
  pub others : LeavesOthers target old result new
  pub blames : IfErr result (BlamesTarget path target)

-- bytes are added behind those that went there
pub record AppendsTo (bytes : List ℕ) (target : TargetState) (old : Seen) (result : Result (Unit {0}) StoreFault)
    (after : TargetState) (new : Seen) : Type 0 where
  pub leaves : (path : List ℕ) → LeavesTarget path target old result after new
  pub adds : (store : List ℕ) (before : Option Tree) (first : List ℕ) → HasGone store before target first old.files
      → OnOk result (HasGone store before after (first ++ bytes) new.files) × (new.misused ≡ old.misused)
  pub free : IfErr result (λ fault. IsTrue (is_free fault))
