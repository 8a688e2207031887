-- What each call does, as a step: from what is seen before, by an answer, to what is seen after.
use Rattle.std.specs.Prelude.{[], ◌∷◌, ◌&&◌, ◌⊎◌, ℕ, Bool, true, ◌≡◌, List, Option, Some, None, Result, Ok, Err, IfErr}
use Rattle.std.specs.Prelude.{IfSome, IsTrue, OnErr}
use Rattle.std.specs.Option.{option_map}
use Rattle.sha2.specs.Sha256.{sha256}
use Rattle.cnb_world.specs.Tree.{Tree, can_make_folder, item_at, is_file, is_file_or_absent, is_within}
use Rattle.cnb_world.specs.Whole.{can_write}
use Rattle.steps.specs.Causes.{Cause, FileFailed, ChildFailed, OutOfMemory, Decided, IsAnswer, IsReadCause}
use Rattle.steps.specs.Causes.{Only, WhereDecided, ended_by}
use Rattle.steps.specs.Counts.{FileCounts}
use Rattle.steps.specs.Outside.{Seen}
use Rattle.steps.specs.Steps.{◌>>=◌, Allows, Same, reads, yields}
use Rattle.tree_canon.specs.Spelling.{spelling_of}
use Rattle.tree_canon.specs.declared.node.Node.{Node}
use Rattle.tree_store.specs.Answers.{AtOrBelow, BlamesAt, cause_of}
use Rattle.tree_store.specs.Around.{KeptAround, LeavesAround}
use Rattle.tree_store.specs.Overlay.{can_stand, parts_of, tree_laid}
use Rattle.tree_store.specs.Partly.{LaidPartly, items_placed}
use Rattle.tree_store.specs.Reading.{tree_in}
use Rattle.tree_store.specs.Store.{Gets, LeavesStore, Puts, tree_path, tree_put}
use Rattle.tree_store.specs.Writing.{IsCleared, KeptFile, bytes_put, can_begin, new_path, trees_of}
use Rattle.tree_store.specs.declared.fault.StoreFault.{StoreFault}
use Rattle.tree_store.specs.declared.fault.StoreFault.TheVariants.{OddFile, Limit, File, NoTree, Damaged, Clash, Memory}

-- the tree of a folder is read
unfoldable pub reads_tree : List ℕ → Seen → Result Node StoreFault → Seen → Type 0
reads_tree path old result new = reads cause_of (AtOrBelow path) (λ files. true) (tree_in path) old result new

-- whether the store has the file of a tree
unfoldable pub looks_for_tree : List ℕ → List ℕ → Seen → Result Bool StoreFault → Seen → Type 0
looks_for_tree store digest old result new =
    reads cause_of (Only (tree_path store digest)) (λ files. true)
    (λ files. Ok (is_file (item_at files (tree_path store digest)))) old result new

-- The file of a tree is read, by calls of the right kind where it is a file or absent. A refusal for a failed call
-- names that file.
pub record GetsTree (store digest : List ℕ) (old : Seen) (result : Result Node StoreFault) (new : Seen) : Type 0 where
  pub same : Same old new
  pub answer : IfSome old.files (λ files. Gets digest (item_at files (tree_path store digest)) result)
  pub cause : IfErr result (λ fault. IsReadCause new.failed_at (cause_of fault))
  pub blames : IfErr result (BlamesAt (tree_path store digest))
  pub allows : Allows (λ files. is_file_or_absent (item_at files (tree_path store digest))) old new
  pub counts : FileCounts (ended_by cause_of result) old new

-- the tree that the store has under a digest
unfoldable pub gets_tree : List ℕ → List ℕ → Seen → Result Node StoreFault → Seen → Type 0
gets_tree store digest old result new = GetsTree store digest old result new

-- that there is one
unfoldable pub checks_tree : List ℕ → List ℕ → Seen → Result (Unit {0}) StoreFault → Seen → Type 0
checks_tree store digest = gets_tree store digest >>= (λ tree. yields tt)

-- where a tree may be put: where its file may be written
abbrev pub can_put : List ℕ → Node → Tree → Bool
can_put store tree = can_write (tree_path store (sha256 (spelling_of tree)))

-- what is left of the files where a tree was put, and where it was refused
abbrev pub LeavesPut : List ℕ → Node → Seen → Result (List ℕ) StoreFault → Seen → Type 0
LeavesPut store tree old (Ok digest) new =
    (digest ≡ sha256 (spelling_of tree)) × (new.files ≡ option_map (tree_put store tree) old.files)
LeavesPut store tree old (Err fault) new =
    LeavesStore fault (tree_path store (sha256 (spelling_of tree))) (spelling_of tree) old.files new.files

-- The file of a tree is written, or has its bytes. A refusal for a failed call names that file.
pub record PutsTree (store : List ℕ) (tree : Node) (old : Seen) (result : Result (List ℕ) StoreFault) (new : Seen)
    : Type 0 where
  pub answer : IfSome old.files (λ files. Puts store tree files result)
  pub leaves : LeavesPut store tree old result new
  pub blames : IfErr result (BlamesAt (tree_path store (sha256 (spelling_of tree))))
  pub runs : new.runs ≡ old.runs
  pub allows : Allows (can_put store tree) old new
  pub counts : FileCounts (ended_by cause_of result) old new

-- a tree is put into the store
unfoldable pub puts_tree : List ℕ → Node → Seen → Result (List ℕ) StoreFault → Seen → Type 0
puts_tree store tree old result new = PutsTree store tree old result new

-- where the file of a tree that was read may get its name
abbrev pub can_name : List ℕ → Result Node StoreFault → Tree → Bool
can_name store (Ok tree) files = is_file_or_absent (item_at files (tree_path store (sha256 (spelling_of tree))))
can_name store (Err fault) files = true

-- where a folder's tree may be put: where its file may be begun, and may get its name
abbrev pub can_put_folder : List ℕ → List ℕ → Tree → Bool
can_put_folder store path files = can_begin store files && can_name store (tree_in path files) files

-- the files where a tree is put and nothing stands where its file is written
abbrev pub folder_put : List ℕ → Node → Tree → Tree
folder_put store tree = bytes_put store (spelling_of tree)

-- what putting the tree of a folder answers, by what reading it answers
abbrev pub PutsRead : List ℕ → Result Node StoreFault → Tree → Result (List ℕ) StoreFault → Type 0
PutsRead store (Ok tree) files result = Puts store tree files result
PutsRead store (Err refusal) files result = IsAnswer cause_of result (Err refusal)

-- What is left of the files where a folder's tree was put: its file, and nothing where that is written. Where it was
-- refused, all stands but what stood there, and folders above it may have been made; and where what was read or stood
-- decided that, nothing stands there, or nothing was changed.
abbrev pub LeavesFolder : List ℕ → List ℕ → Seen → Result (List ℕ) StoreFault → Seen → Type 0
LeavesFolder store path old (Ok digest) new =
    (tree : Node) × (digest ≡ sha256 (spelling_of tree)) × IfSome old.files
    (λ files. tree_in path files ≡ Ok tree) × (new.files ≡ option_map (folder_put store tree) old.files)
LeavesFolder store path old (Err fault) new =
    KeptAround (new_path store) old.files new.files × WhereDecided (cause_of fault)
    (IsCleared store new.files ⊎ (new.files ≡ old.files))

-- `File` carries a path at or below the folder, or at or below the folder of the trees' files
abbrev pub BlamesFolder : List ℕ → List ℕ → StoreFault → Type 0
BlamesFolder store path (File blamed) = IsTrue (is_within path blamed) ⊎ IsTrue (is_within (trees_of store) blamed)
BlamesFolder store path (OddFile odd) = Unit {0}
BlamesFolder store path (Limit kind) = Unit {0}
BlamesFolder store path (NoTree digest) = Unit {0}
BlamesFolder store path (Damaged asked found bad) = Unit {0}
BlamesFolder store path (Clash digest) = Unit {0}
BlamesFolder store path Memory = Unit {0}

-- The tree of a folder is read and written, and its file is named by its digest, or one of that name has its bytes. A
-- refusal for a failed call comes with the path whose call failed last. Where it is refused, at the path where that
-- file is written is what was there, or a file or nothing, so that a later call can begin there.
pub record PutsFolder (store path : List ℕ) (old : Seen) (result : Result (List ℕ) StoreFault)
    (new : Seen) : Type 0 where
  pub answer : IfSome old.files (λ files. PutsRead store (tree_in path files) files result)
  pub leaves : LeavesFolder store path old result new
  pub place : OnErr result (KeptFile (new_path store) old.files new.files)
  pub blames : IfErr result (BlamesFolder store path)
  pub cause : IfErr result (λ fault. IsReadCause new.failed_at (cause_of fault))
  pub runs : new.runs ≡ old.runs
  pub allows : Allows (can_put_folder store path) old new
  pub counts : FileCounts (ended_by cause_of result) old new

-- the tree of a folder is put into the store
unfoldable pub puts_folder : List ℕ → List ℕ → Seen → Result (List ℕ) StoreFault → Seen → Type 0
puts_folder store path old result new = PutsFolder store path old result new

-- refused for a failed call at a path or below it, or for want of memory
abbrev pub IsCauseWithin : List ℕ → Cause → Type 0
IsCauseWithin path (FileFailed failed) = IsTrue (is_within path failed)
IsCauseWithin path ChildFailed = ⊥
IsCauseWithin path OutOfMemory = Unit {0}
IsCauseWithin path Decided = ⊥

-- a node may be laid at the place of these parts: nothing but a folder at `/` itself
abbrev pub can_place : Node → List (List ℕ) → List ℕ → Bool
can_place node [] root = can_stand node root
can_place node (part ∷ parts) root = true

-- where a tree may be laid: where its root can be made
abbrev pub can_lay : List ℕ → List ℕ → Node → Tree → Bool
can_lay root place tree files = can_make_folder files root && can_place tree (parts_of place) root

-- A tree is laid at a place under a folder. Where that is refused, each path at the folder or below it has what stood
-- there, or a part of what the tree gives.
unfoldable pub lays_tree : List ℕ → List ℕ → Node → Seen → Result (Unit {0}) StoreFault → Seen → Type 0
lays_tree root place tree old (Ok done) new =
    (new.files ≡ option_map (tree_laid root place tree) old.files) × LeavesAround root old new
    × Allows (can_lay root place tree) old new × FileCounts None old new
lays_tree root place tree old (Err fault) new =
    IsCauseWithin root (cause_of fault) × LeavesAround root old new × Allows (can_lay root place tree) old new
    × FileCounts (Some (cause_of fault)) old new × LaidPartly root
    (items_placed root place tree) old.files new.files

-- The same for a failed call on the file of a tree too; and, where the files are not told, because the file was changed
-- since its bytes were judged.
abbrev pub IsKeptCause : List ℕ → List ℕ → Option Tree → Cause → Type 0
IsKeptCause root file files (FileFailed failed) = IsTrue (is_within root failed) ⊎ (failed ≡ file)
IsKeptCause root file files ChildFailed = ⊥
IsKeptCause root file files OutOfMemory = Unit {0}
IsKeptCause root file files Decided = files ≡ None

-- A tree that the store has is laid at a place under a folder. Where that is refused, each path at the folder or below
-- it has what stood there, or a part of what the tree gives.
unfoldable pub lays_kept : List ℕ → List ℕ → List ℕ → List ℕ → Node → Seen → Result (Unit {0}) StoreFault → Seen
    → Type 0
lays_kept store digest root place tree old (Ok done) new =
    (new.files ≡ option_map (tree_laid root place tree) old.files) × LeavesAround root old new
    × Allows (can_lay root place tree) old new × FileCounts None old new
lays_kept store digest root place tree old (Err fault) new =
    IsKeptCause root (tree_path store digest) old.files (cause_of fault) × LeavesAround root old new
    × Allows (can_lay root place tree) old new × FileCounts (Some (cause_of fault)) old new
    × LaidPartly root (items_placed root place tree) old.files new.files

-- a stored tree is read and judged, and then laid at a place under a folder
unfoldable pub lays_stored : List ℕ → List ℕ → List ℕ → List ℕ → Seen → Result (Unit {0}) StoreFault → Seen → Type 0
lays_stored store digest root place = gets_tree store digest >>= lays_kept store digest root place
