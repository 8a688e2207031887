-- Putting the tree of a folder on several shelves at once, of which some failed.
use Rattle.std.specs.Prelude.{ℕ, Bool, true, ◌≡◌, ◌⊎◌, List, if◌then◌else◌, Result, Ok, Err}
use Rattle.std.specs.FinMap.{insert}
use Rattle.std.specs.Option.{option_map}
use Rattle.std.specs.Str.{bytes_eq}
use Rattle.sha2.specs.Sha256.{sha256}
use Rattle.cnb_world.specs.Tree.{Tree}
use Rattle.cnb_world.specs.declared.values.Memory.{Memory as NoMemory}
use Rattle.steps.specs.Outside.{Seen}
use Rattle.steps.specs.Steps.{◌>>=◌, reads, yields}
use Rattle.tree_canon.specs.Spelling.{spelling_of}
use Rattle.tree_canon.specs.declared.node.Node.{Node}
use Rattle.tree_store.specs.Answers.{AtOrBelow, cause_of}
use Rattle.tree_store.specs.Reading.{tree_in}
use Rattle.tree_store.specs.ShelfState.{ShelfState}
pub use Rattle.tree_store.specs.Shelves.{KeepsTold, OnEach, OnShelf}
use Rattle.tree_store.specs.Steps.{reads_tree}
use Rattle.tree_store.specs.declared.fault.StoreFault.{StoreFault}
use Rattle.tree_store.specs.declared.fault.StoreFault.TheVariants.{OddFile, Memory}

-- the digest of a folder's tree
unfoldable pub digests_folder : List ℕ → Seen → Result (List ℕ) StoreFault → Seen → Type 0
digests_folder path = do
  tree ← reads_tree path
  yields (sha256 (spelling_of tree))

-- ---- the folder

-- a tree that has a digest; the folder of one that doesn't was changed since its digest was taken
abbrev pub tree_if : List ℕ → List ℕ → Node → Result Node StoreFault
tree_if digest path tree = if bytes_eq (sha256 (spelling_of tree)) digest then Ok tree else Err (OddFile path)

abbrev pub if_read : List ℕ → List ℕ → Result Node StoreFault → Result Node StoreFault
if_read digest path (Ok tree) = tree_if digest path tree
if_read digest path (Err fault) = Err fault

abbrev pub tree_under : List ℕ → List ℕ → Tree → Result Node StoreFault
tree_under digest path files = if_read digest path (tree_in path files)

-- the tree of a folder is read, which has a digest
unfoldable pub reads_under : List ℕ → List ℕ → Seen → Result Node StoreFault → Seen → Type 0
reads_under digest path old result new =
    reads cause_of (AtOrBelow path) (λ files. true) (tree_under digest path) old result new

-- ---- the shelves

-- one that holds bytes under a digest, besides what it held
abbrev pub HasPut : List ℕ → List ℕ → ShelfState → ShelfState → Type 0
HasPut digest bytes before after = (after.held ≡ option_map (λ h. insert h digest bytes) before.held)
    × (after.rows ≡ before.rows)

-- one that has these rows
abbrev pub HasRows : List ℕ → ShelfState → ShelfState → Type 0
HasRows document before after = (after.rows ≡ option_map (λ _. document) before.rows) × (after.held ≡ before.held)

abbrev pub MayHaveRows : List ℕ → ShelfState → ShelfState → Type 0
MayHaveRows document before after = KeepsTold before after ⊎ HasRows document before after

-- ---- the calls

abbrev pub MayHavePut : List ℕ → List ℕ → ShelfState → ShelfState → Type 0
MayHavePut digest bytes before after = KeepsTold before after ⊎ HasPut digest bytes before after

-- By what was read: the shelves hold the spelling of the tree, or tell what they told; or, where memory ran out at
-- last, some of them hold it.
abbrev pub CachesRead : List ℕ → Result Node StoreFault → List Bool → List Bool → List ShelfState → List ShelfState
    → Type 0
CachesRead digest (Ok tree) before after old new = (digest ≡ sha256 (spelling_of tree))
    × OnEach (HasPut digest (spelling_of tree)) before after old new
CachesRead digest (Err fault) before after old new = OnEach KeepsTold before after old new
    ⊎ ((fault ≡ Memory) × (tree : Node) × (digest ≡ sha256 (spelling_of tree))
    × OnEach (MayHavePut digest (spelling_of tree)) before after old new)

abbrev pub is_read : Result Node StoreFault → Result Unit StoreFault
is_read (Ok tree) = Ok tt
is_read (Err fault) = Err fault

-- the tree of a folder that has a digest is read, and put on shelves
pub record CachesFolder (digest path : List ℕ) (shelves : List ShelfState) (failed : List Bool) (old : Seen)
    (result : Result Unit StoreFault) (left : List ShelfState) (later : List Bool) (new : Seen) : Type 0 where
  pub read : Result Node StoreFault
  pub reads : reads_under digest path old read new
  pub answer : result ≡ is_read read
  pub caches : CachesRead digest read failed later shelves left

-- the rows are set on shelves
abbrev pub CachesRows : List ℕ → List ShelfState → List Bool → Result Unit NoMemory → List ShelfState → List Bool
    → Type 0
CachesRows document shelves failed (Ok done) left later = OnEach (HasRows document) failed later shelves left
CachesRows document shelves failed (Err memory) left later = OnEach (MayHaveRows document) failed later shelves left
