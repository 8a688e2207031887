-- Laying a tree as its bytes are read: what lies ahead of the reader, and what each call does.
use Rattle.std.specs.Prelude.{ℕ, ◌≡◌, ◌≢◌, ◌≤◌, ◌+◌, ◌-◌, ◌++◌, List, length, take, drop}
use Rattle.std.specs.Prelude.{Option, Some, None, Result, Ok, Err, IfErr, IfOk, OnOk, IsTrue}
use Rattle.std.specs.Option.{option_map}
use Rattle.sha2.specs.Hashers.{Holds256}
use Rattle.sha2.specs.Sha256.{sha256}
use Rattle.cnb_world.specs.Tree.{Tree, is_file, bytes_of}
use Rattle.cnb_world.specs.declared.world.Item.{Item}
use Rattle.steps.specs.Outside.{Seen}
use Rattle.steps.specs.Steps.{Allows}
use Rattle.tree_canon.specs.Spelling.{limit}
use Rattle.tree_store.specs.Answers.{is_free}
use Rattle.tree_store.specs.Origin.{found_in}
use Rattle.tree_store.specs.Overlay.{Given, tree_laid}
use Rattle.tree_store.specs.Partly.{LaidPartly}
use Rattle.tree_store.specs.Right.{AreFolders}
use Rattle.tree_store.specs.Source.{Source}
use Rattle.tree_store.specs.Steps.{can_lay}
use Rattle.tree_canon.specs.declared.node.Node.{Node}
use Rattle.tree_store.specs.declared.fault.StoreFault.{StoreFault}
use Rattle.tree_store.specs.declared.fault.StoreFault.TheVariants.{Damaged}

-- Of what is read, these bytes lie behind the reader's place, and it holds the first of them. Together with those that
-- it hashed they have its digest.
pub record IsAhead (source : Source) (found : Option Item) (bytes : List ℕ) : Type 0 where
  pub file : IsTrue (is_file found)
  pub few : source.at + length bytes ≤ limit
  pub is : bytes ≡ drop source.at (bytes_of found)
  pub held : drop source.used source.piece ≡ take (length source.piece - source.used) bytes
  pub taken : List ℕ
  pub hashed : Holds256 source.hasher taken
  pub whole : sha256 (taken ++ bytes) ≡ source.digest

-- the same of files that are told
unfoldable pub Ahead : Source → Option Tree → List ℕ → Type 0
Ahead source None bytes = ⊥
Ahead source (Some files) bytes = IsAhead source (found_in source.origin source.digest files) bytes

-- what it does where the files are told and the bytes ahead are known
pub record Did {A : Type 0} (Is : A → Type 0) (rest : List ℕ) (change : Tree → Tree) (paths : List (List ℕ))
    (old : Seen) (result : Result A StoreFault) (after : Source) (new : Seen)
    : Type 0 where
  pub value : IfOk result Is
  pub files : OnOk result (new.files ≡ option_map change old.files)
  pub ahead : OnOk result (Ahead after new.files rest)
  pub folders : OnOk result (AreFolders paths new.files)
  pub free : IfErr result (λ fault. IsTrue (is_free fault))
  pub right : new.misused ≡ old.misused

-- With these bytes ahead and folders at these paths, it answers a value of which this holds, comes to the rest of the
-- bytes, changes the files so, and leaves folders at those paths. It is refused for a failed call or want of memory
-- alone.
pub record Does {A : Type 0} (Is : A → Type 0) (bytes rest : List ℕ) (change : Tree → Tree)
    (before paths : List (List ℕ)) (source : Source) (old : Seen) (result : Result A StoreFault)
    (after : Source) (new : Seen)
    : Type 0 where
  pub so : Ahead source old.files bytes → AreFolders before old.files → Did Is rest change paths old result after new

-- and answers nothing
abbrev pub Lays : List ℕ → List ℕ → (Tree → Tree) → List (List ℕ) → List (List ℕ) → Source → Seen
    → Result (Unit {0}) StoreFault → Source → Seen → Type 0
Lays bytes rest change before paths source old result after new = Does
    (λ done. Unit {0}) bytes rest change before paths source old result after new

-- reading a value changes nothing
abbrev pub Reading : {A : Type 0} → (A → Type 0) → List ℕ → List ℕ → List (List ℕ) → Source → Seen
    → Result A StoreFault → Source → Seen → Type 0
Reading Is bytes rest paths source old result after new = Does Is bytes rest
    (λ files. files) paths paths source old result after new

-- A tree is laid at a place under a folder, where the files are told and its bytes lie ahead.
pub record LaysTree (root place : List ℕ) (tree : Node) (old : Seen) (result : Result (Unit {0}) StoreFault)
    (new : Seen) : Type 0 where
  pub files : OnOk result (new.files ≡ option_map (tree_laid root place tree) old.files)
  pub free : IfErr result (λ fault. IsTrue (is_free fault))
  pub allows : Allows (can_lay root place tree) old new

-- bytes have a digest, or are refused as damaged
abbrev pub HasDigest : List ℕ → List ℕ → Result (Unit {0}) StoreFault → Type 0
HasDigest digest bytes (Ok done) = sha256 bytes ≡ digest
HasDigest digest bytes (Err fault) = (sha256 bytes ≢ digest) × (fault ≡ Damaged digest (sha256 bytes) None)

-- With these bytes ahead and folders at these paths, a call leaves a part of these items, whether it is refused or not.
pub record LaysPartly (folder : List ℕ) (given : List Given) (bytes : List ℕ) (before : List (List ℕ))
    (source : Source) (old new : Seen) : Type 0 where
  pub so : Ahead source old.files bytes → AreFolders before old.files → LaidPartly folder given old.files new.files
