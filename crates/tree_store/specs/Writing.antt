-- A tree's file that is written beside the others, until its digest is known.
use Rattle.std.specs.Prelude.{ℕ, false, true, ◌⊎◌, ◌≡◌, ◌≤◌, ◌+◌, ◌++◌, Bool, List, length, take, Option}
use Rattle.std.specs.Prelude.{Some, None, Result, Ok, Err, IfErr, IfOk, IfSome, OnErr, OnOk, IsTrue}
use Rattle.std.specs.FinMap.{insert, remove}
use Rattle.std.specs.Option.{option_map}
use Rattle.sha2.specs.Hashers.{Holds256}
use Rattle.sha2.specs.Sha256.{sha256}
use Rattle.sha2.specs.declared.Sha256.{Sha256}
use Rattle.cnb_world.specs.Calls.{MayMisuse}
use Rattle.cnb_world.specs.Tree.{Tree, bytes_of, folder_made, is_file, is_file_or_absent, is_within, item_at, without}
use Rattle.cnb_world.specs.declared.world.Item.{Item}
use Rattle.cnb_world.specs.declared.world.Item.TheVariants as item
use Rattle.steps.specs.Causes.{CountsFiles, IsAnswer, IsReadCause, WhereDecided}
use Rattle.steps.specs.Outside.{Seen}
use Rattle.tree_canon.specs.Fits.{entries_fit}
use Rattle.tree_canon.specs.Spelling.{entries_bytes, node_bytes, spelling_of}
use Rattle.tree_canon.specs.declared.node.Named.{Named}
use Rattle.tree_canon.specs.declared.node.Node.{Node}
use Rattle.tree_store.specs.Answers.{cause_of, is_free}
use Rattle.tree_store.specs.Around.{KeptAround}
pub use Rattle.tree_store.specs.Places.{KeepsFile, LeavesButFile, begun_with, can_begin, new_path, trees_of}
unfoldable pub use Rattle.tree_store.specs.Places.{KeptFile}
use Rattle.tree_store.specs.Reading.{FitsFrom, Sized, tree_in}
use Rattle.tree_store.specs.Store.{Keeps, done_of, tree_path}
use Rattle.tree_store.specs.Target.{BlamesTarget, HasGone, KeepsTarget, LeavesOthers, TargetState, ToFile}
use Rattle.tree_store.specs.declared.target.NewFile.{NewFile}
use Rattle.tree_store.specs.declared.fault.StoreFault.{StoreFault}
use Rattle.tree_store.specs.declared.fault.StoreFault.TheVariants.{Clash}
use Rattle.tree_store.specs.declared.writing.Writer as declared

-- neither path is the other or lies in it
pub record AreApart (file path : List ℕ) : Type 0 where
  pub outside : is_within path file ≡ false
  pub beside : is_within file path ≡ false

-- What contracts see of a writer: where its bytes go, those that were hashed, and the piece that it holds.
pub record WriterState : Type 0 where
  pub target : TargetState
  pub hasher : Sha256
  pub piece : List ℕ

abbrev pub writer_seen : {T : Type 0} → (T → TargetState) → declared.Writer T → WriterState
writer_seen state writer = record { target = state writer.target; hasher = writer.hasher; piece = writer.piece.items }

abbrev pub to_file : NewFile → TargetState
to_file file = ToFile file.path

-- The writer took these bytes, since the files were those: the first of them went where they go, and it holds the last
-- ones.
pub record HasWritten (store : List ℕ) (before : Option Tree) (writer : WriterState) (bytes : List ℕ)
    (now : Option Tree) : Type 0 where
  pub first : List ℕ
  pub is : bytes ≡ first ++ writer.piece
  pub hashed : Holds256 writer.hasher bytes
  pub gone : HasGone store before writer.target first now

-- the same of a call that reads at a path or below it and gives bytes to a writer
pub record LeavesNew {A : Type 0} (path : List ℕ) (writer : WriterState) (old : Seen) (result : Result A StoreFault)
    (after : WriterState) (new : Seen) : Type 0 where
  pub stays : KeepsTarget writer.target after.target
  pub others : LeavesOthers writer.target old result new
  pub blames : IfErr result (BlamesTarget path writer.target)

-- what a call answers that adds bytes of which this holds
pub record Added {A : Type 0} (store : List ℕ) (before : Option Tree) (Is : A → List ℕ → Type 0)
    (Why : StoreFault → Type 0) (bytes : List ℕ) (old : Seen) (result : Result A StoreFault) (after : WriterState)
    (new : Seen)
    : Type 0 where
  pub added : IfOk result (λ value. (more : List ℕ) × Is value more
      × HasWritten store before after (bytes ++ more) new.files)
  pub refused : IfErr result Why
  pub right : new.misused ≡ old.misused

-- It adds them to any that were written, where it reads apart from the file: what it reads is then as it was before.
pub record Adds {A : Type 0} (path : List ℕ) (Is : Option Tree → A → List ℕ → Type 0)
    (Why : Option Tree → StoreFault → Type 0) (writer : WriterState) (old : Seen) (result : Result A StoreFault)
    (after : WriterState) (new : Seen)
    : Type 0 where
  pub so : (store : List ℕ) (before : Option Tree) (bytes : List ℕ)
      → HasWritten store before writer bytes old.files → AreApart (new_path store) path
      → Added store before (Is before) (Why before) bytes old result after new

-- bytes that end with those of a node, which is read so and fits
pub record IsNodeOf (before : Option Tree) (want : Tree → Result Sized StoreFault) (depth size : ℕ)
    (head : List ℕ) (now : ℕ) (more : List ℕ) : Type 0 where
  pub node : Node
  pub bytes : more ≡ head ++ node_bytes node
  pub read : IfSome before (λ files. want files ≡ Ok (node, now))
  pub fit : FitsFrom depth size (node, now)

-- reading is refused so
abbrev pub Refuses : {A : Type 0} → Option Tree → (Tree → Result A StoreFault) → StoreFault → Type 0
Refuses {A} before want fault = IfSome before (λ files. IsAnswer {A = A} cause_of (Err fault) (want files))

-- the bytes of a folder's entries, which are read so and fit
pub record AreEntriesOf (before : Option Tree) (want : Tree → Result (List Named × ℕ) StoreFault)
    (depth count size now : ℕ) (more : List ℕ) : Type 0 where
  pub entries : List Named
  pub count_is : length entries ≡ count
  pub bytes : more ≡ entries_bytes entries
  pub read : IfSome before (λ files. want files ≡ Ok (entries, now))
  pub fit : entries_fit None entries depth ≡ true
  pub size_is : now ≡ size + length (entries_bytes entries)

-- a file of so many bytes
pub record HasLength (len : ℕ) (found : Option Item) : Type 0 where
  pub file : IsTrue (is_file found)
  pub length_is : length (bytes_of found) ≡ len

-- the bytes of a file from one place to another
pub record IsPart (before : Option Tree) (path : List ℕ) (from to : ℕ) (more : List ℕ) : Type 0 where
  pub length_is : from + length more ≡ to
  pub told : IfSome before (λ files. take from (bytes_of (item_at files path)) ++ more
      ≡ take to (bytes_of (item_at files path)))

-- the bytes of a folder's root, which is read so and fits
pub record IsRootOf (before : Option Tree) (path : List ℕ) (now : ℕ) (more : List ℕ) : Type 0 where
  pub node : Node
  pub bytes : more ≡ node_bytes node
  pub read : IfSome before (λ files. tree_in path files ≡ Ok node)
  pub fit : FitsFrom 0 5 (node, now)

-- the file gets its name where nothing stands under that; else what stands there is left, and the file is removed
abbrev pub named_or_left : Option Item → List ℕ → List ℕ → List ℕ → Tree → Tree
named_or_left None file path bytes files = insert (remove files file) path (item.File false bytes)
named_or_left (Some found) file path bytes files = without file files

-- the files where these bytes are put into the store, and nothing stands where they were written
abbrev pub bytes_put : List ℕ → List ℕ → Tree → Tree
bytes_put store bytes files =
    named_or_left (item_at files (tree_path store (sha256 bytes))) (new_path store)
    (tree_path store (sha256 bytes)) bytes (folder_made (trees_of store) files)

-- nothing stands where a file was written
abbrev pub IsCleared : List ℕ → Option Tree → Type 0
IsCleared store files = IfSome files (λ t. item_at t (new_path store) ≡ None)

-- What putting leaves, whatever stands there: no child ran, and where it is refused, all but what is at the path where
-- the file is written stands as before, but folders above it.
pub record LeavesButPut {A : Type 0} (store : List ℕ) (old : Seen) (result : Result A StoreFault)
    (new : Seen) : Type 0 where
  pub kept : OnErr result (KeptAround (new_path store) old.files new.files)
  pub place : OnErr result (KeptFile (new_path store) old.files new.files)
  pub runs : new.runs ≡ old.runs
  pub misused : old.misused ≤ new.misused
  pub children : new.child_faults ≡ old.child_faults
  pub counts : CountsFiles cause_of result old.file_faults new.file_faults
  pub cause : IfErr result (λ fault. IsReadCause new.failed_at (cause_of fault))

-- The file of these bytes got the name of their digest, or a file has it that has them.
pub record NamesBytes (store bytes : List ℕ) (before : Option Tree) (old : Seen)
    (result : Result (Unit {0}) StoreFault) (new : Seen) : Type 0 where
  pub keeps : IfSome before (λ files. Keeps (sha256 bytes) bytes
      (item_at files (tree_path store (sha256 bytes))) result)
  pub files : OnOk result (new.files ≡ option_map (bytes_put store bytes) before)
  pub cleared : IfErr result (λ fault. WhereDecided (cause_of fault) (IsCleared store new.files))
  pub right : MayMisuse (option_map (λ t. is_file_or_absent (item_at t (tree_path store (sha256 bytes)))) before)
      old.misused new.misused

-- what reading a node answers, where its bytes were counted so
abbrev pub sized_as : Node → Result ℕ StoreFault → Result Sized StoreFault
sized_as node (Ok size) = Ok (node, size)
sized_as node (Err fault) = Err fault

-- the spelling of a folder's tree, which is read so, and how long it is
pub record IsTreeOf (before : Option Tree) (path : List ℕ) (len : ℕ) (more : List ℕ) : Type 0 where
  pub node : Node
  pub bytes : more ≡ spelling_of node
  pub read : IfSome before (λ files. tree_in path files ≡ Ok node)
  pub length_is : length more ≡ len

-- bytes are put into the store, and their digest is answered
pub record PutsBytes (store bytes : List ℕ) (before : Option Tree) (old : Seen)
    (result : Result (List ℕ) StoreFault) (new : Seen) : Type 0 where
  pub digest : IfOk result (λ digest. digest ≡ sha256 bytes)
  pub named : NamesBytes store bytes before old (done_of result) new

-- A refusal is answered again, once nothing stands where a file was written, or another that may come anyway.
pub record IsClearedOf (fault : StoreFault) (store : List ℕ) (old : Seen) (result : StoreFault)
    (new : Seen) : Type 0 where
  pub others : (first : Seen) → LeavesButFile {A = Unit {0}} (new_path store) first (Err fault) old
      → LeavesButFile {A = Unit {0}} (new_path store) first (Err result) new
  pub right : new.misused ≡ old.misused
  pub cleared : WhereDecided (cause_of result) (IsCleared store new.files)
  pub same : IsTrue (is_free result) ⊎ (result ≡ fault)

-- refused exactly where the bytes aren't the same
abbrev pub ClashesUnless : Bool → List ℕ → Result (Unit {0}) StoreFault → Type 0
ClashesUnless true digest result = result ≡ Ok tt
ClashesUnless false digest result = result ≡ Err (Clash digest)
