-- Storing the layers that a cache keeps.
use Rattle.std.specs.Prelude.{ℕ, true, false, ◌≡◌, ◌≤◌, ◌⊎◌, Bool, IsTrue, List, [], ◌∷◌, length, map, take, Result, Ok}
use Rattle.std.specs.Prelude.{Err}
use Rattle.sha2.specs.Sha256.{sha256}
use Rattle.cnb_world.specs.Tree.{Tree, is_root}
use Rattle.steps.specs.Outside.{Seen}
use Rattle.steps.specs.Results.{and_then}
use Rattle.steps.specs.Steps.{reads}
use Rattle.tree_canon.specs.Spelling.{spelling_of}
use Rattle.tree_canon.specs.declared.node.Node.{Node}
use Rattle.tree_store.specs.Answers.{AtOrBelow, cause_of}
use Rattle.tree_store.specs.Caching.{tree_under}
use Rattle.tree_store.specs.declared.fault.StoreFault.{StoreFault}
use Rattle.image_docs.specs.CacheRows.{cache_in}
use Rattle.image_docs.specs.declared.layer_row.LayerRow.{LayerRow}
use Rattle.shelf_set.specs.Caches.{Caches, WorldAndCaches}
use Rattle.shelf_set.specs.ShelfState.{ShelfState}
use Rattle.shelf_set.specs.Storing.{StoresAll, StoresSome}
use Rattle.shelf_set.specs.Storing.{TreeBytes}

abbrev pub digest_of_row : LayerRow → List ℕ
digest_of_row row = row.digest

-- the digest of a tree is that of its spelling
abbrev pub digest_of_tree : Node → List ℕ
digest_of_tree root = sha256 (spelling_of root)

-- the spelling of a tree, under its digest
abbrev pub spelled : Node → TreeBytes
spelled root = record { digest = digest_of_tree root; bytes = spelling_of root }

-- The trees have the digests of the rows. The failed shelves are dropped, and all others hold the spellings of the
-- trees and have a document that reads as the rows, where these can be read.
pub record StoresRows (readable : Bool) (rows : List LayerRow) (trees : List Node) (old : List ShelfState)
    (places : List ℕ) (new : List ShelfState) (standing gone : List ℕ) : Type 0 where
  pub named : map digest_of_row rows ≡ map digest_of_tree trees
  pub document : List ℕ
  pub reads : IsTrue readable → cache_in document ≡ Ok rows
  pub stores : StoresAll (map spelled trees) document old places new standing gone

-- The trees have the digests of the first rows, and each shelf has all of it, or some of the trees and its old
-- document.
pub record StoresPart (readable : Bool) (rows : List LayerRow) (trees : List Node) (old : List ShelfState)
    (places : List ℕ) (new : List ShelfState) (standing : List ℕ) : Type 0 where
  pub named : map digest_of_tree trees ≡ take (length trees) (map digest_of_row rows)
  pub document : List ℕ
  pub reads : IsTrue readable → cache_in document ≡ Ok rows
  pub stores : StoresSome (map spelled trees) document old places new standing

-- What is left where it was refused: nothing was stored, or a part was.
abbrev pub StoresSomeRows : Bool → List LayerRow → List Node → List ShelfState → List ℕ → List ShelfState → List ℕ
    → Type 0
StoresSomeRows readable rows trees old places new standing =
    ((new ≡ old) × (standing ≡ places)) ⊎ StoresPart readable rows trees old places new standing

-- ---- from folders

-- a path of a folder that can be walked
abbrev pub IsShort : List ℕ → Type 0
IsShort path = (length path ≤ 8192) × (is_root path ≡ false)

-- what stands in one of these folders, or is it
abbrev pub AtOne : List (List ℕ) → List ℕ → Type 0
AtOne [] path = ⊥
AtOne (folder ∷ folders) path = AtOrBelow folder path ⊎ AtOne folders path

-- the trees of folders, each of which has its digest
abbrev pub trees_under : List (List ℕ) → List (List ℕ) → Tree → Result (List Node) StoreFault
trees_under (digest ∷ digests) (folder ∷ folders) files = and_then (tree_under digest folder files)
    (λ tree. and_then (trees_under digests folders files) (λ trees. Ok (tree ∷ trees)))
trees_under _ _ files = Ok []

-- they are read
unfoldable pub reads_trees : List LayerRow → List (List ℕ) → Seen → Result (List Node) StoreFault → Seen → Type 0
reads_trees rows folders old result new = reads cause_of (AtOne folders) (λ files. true)
    (trees_under (map digest_of_row rows) folders) old result new

-- what is stored of what was read
abbrev pub StoresRead : Bool → List LayerRow → Result (List Node) StoreFault → Result (List ℕ) StoreFault → Caches
    → Caches → Type 0
StoresRead readable rows (Ok trees) (Ok gone) old new =
    StoresRows readable rows trees old.shelves old.standing new.shelves new.standing gone
StoresRead readable rows (Err refusal) (Err fault) old new = (refusal ≡ fault)
    × ((trees : List Node) × StoresSomeRows readable rows trees old.shelves old.standing new.shelves new.standing)
StoresRead readable rows _ _ old new = ⊥

-- The layers that a cache keeps are stored, whose contents are read from folders.
pub record StoresFolders (readable : Bool) (rows : List LayerRow) (folders : List (List ℕ)) (old : WorldAndCaches)
    (result : Result (List ℕ) StoreFault) (new : WorldAndCaches) : Type 0 where
  pub read : Result (List Node) StoreFault
  pub reads : reads_trees rows folders old.world read new.world
  pub stores : StoresRead readable rows read result old.caches new.caches

unfoldable pub stores_folders : Bool → List LayerRow → List (List ℕ) → WorldAndCaches → Result (List ℕ) StoreFault
    → WorldAndCaches → Type 0
stores_folders readable rows folders old result new = StoresFolders readable rows folders old result new
