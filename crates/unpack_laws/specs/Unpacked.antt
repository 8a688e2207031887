-- What unpacking an image leaves: the trees of its rows, laid one over another in their order, and over them the
-- document of the launch.
use Rattle.std.specs.Prelude.{ℕ, ◌≡◌, List, [], ◌∷◌, Option, Some, Ok, IsTrue}
use Rattle.cnb_launch.specs.Unpacking.{ReadsAs, file_of, launch_doc_place, unpacks}
use Rattle.cnb_world.specs.Path.{is_path}
use Rattle.cnb_world.specs.Tree.{Tree, item_at}
use Rattle.image_docs.specs.declared.image.ImageDoc.{ImageDoc}
use Rattle.image_docs.specs.declared.launch_doc.LaunchDoc.{LaunchDoc}
use Rattle.image_docs.specs.declared.row.Row.{Row}
use Rattle.image_files.specs.Images.{image_at}
use Rattle.steps.specs.Outside.{Seen}
use Rattle.tree_canon.specs.declared.node.Node.{Node}
use Rattle.tree_store.specs.Overlay.{tree_laid}
use Rattle.tree_store.specs.Store.{Gets, tree_path}
use Rattle.tree_store.specs.Writing.{AreApart, trees_of}

-- the store has this tree under the digest of a row
abbrev pub HasTree : List ℕ → Tree → Row → Node → Type 0
HasTree store files row tree = Gets row.digest (item_at files (tree_path store row.digest)) (Ok tree)

-- the trees of rows, laid one over another
abbrev pub AreLaid : List ℕ → List ℕ → Tree → List Row → Tree → Tree → Type 0
AreLaid store root files [] before after = after ≡ before
AreLaid store root files (row ∷ rows) before after = (tree : Node) × HasTree store files row tree
    × AreLaid store root files rows (tree_laid root row.place tree before) after

-- These files, and over them the document of the launch, with bytes that read as it.
pub record HasLaunch (root : List ℕ) (launch : LaunchDoc) (laid : Tree) (files : Option Tree) : Type 0 where
  pub bytes : List ℕ
  pub reads : ReadsAs launch bytes
  pub left : files ≡ Some (tree_laid root launch_doc_place (file_of bytes) laid)

-- An image of these files is unpacked under a root.
pub record IsUnpacked (store name root : List ℕ) (files : Tree) (new : Option Tree) : Type 0 where
  pub image : ImageDoc
  pub read : image_at store name files ≡ Ok image
  pub laid : Tree
  pub rows : AreLaid store root files image.rows files laid
  pub launch : HasLaunch root image.launch laid new

-- Where the files are told, and the root lies apart from the folder of the trees, this is what `unpack` leaves when it
-- is done, and nothing else is changed.
abbrev pub UnpacksRows : Type 0
UnpacksRows = (store name root : List ℕ) (files : Tree) → IsTrue (is_path root) → AreApart root (trees_of store)
    → (old new : Seen) → old.files ≡ Some files → unpacks store name root old (Ok tt) new
    → IsUnpacked store name root files new.files
