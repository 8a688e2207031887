-- What unpacking comes to of an image whose application is cut into slices, beside an image that has the application
-- whole.
use Rattle.std.specs.Prelude.{ℕ, ◌≡◌, List, [], ◌∷◌, ◌++◌, Some, Ok, IsTrue}
use Rattle.std.specs.List.{AllByRecursion}
use Rattle.app_slices.specs.Slices.{slices_of}
use Rattle.app_slices.specs.Slots.{Slices}
use Rattle.cnb_launch.specs.Unpacking.{unpacks}
use Rattle.cnb_world.specs.Path.{is_path}
use Rattle.cnb_world.specs.Tree.{Tree}
use Rattle.image_docs.specs.declared.image.ImageDoc.{ImageDoc}
use Rattle.image_docs.specs.declared.row.Row.{Row}
use Rattle.image_files.specs.Images.{image_at}
use Rattle.steps.specs.Outside.{Seen}
use Rattle.tree_canon.specs.Fits.{is_tree}
use Rattle.tree_canon.specs.declared.node.Node.{Node}
use Rattle.tree_store.specs.Writing.{AreApart, trees_of}
use Rattle.unpack_laws.specs.Unpacked.{HasLaunch, HasTree}

-- the store has so many trees under the digests of rows, in order
abbrev pub HaveTrees : List ℕ → Tree → List Row → List Node → Type 0
HaveTrees store files [] [] = Unit {0}
HaveTrees store files [] (tree ∷ trees) = ⊥
HaveTrees store files (row ∷ rows) [] = ⊥
HaveTrees store files (row ∷ rows) (tree ∷ trees) = HasTree store files row tree × HaveTrees store files rows trees

-- Two images of a store differ in the rows of an application alone: in the one these have the trees that it is cut into
-- by slices, in order and at one place, and in the other one row has the whole tree.
pub record DifferInSlices (store : List ℕ) (files : Tree) (sliced whole : ImageDoc) : Type 0 where
  pub front : List Row
  pub parts : List Row
  pub app : Row
  pub back : List Row
  pub sliced_rows : sliced.rows ≡ front ++ (parts ++ back)
  pub whole_rows : whole.rows ≡ front ++ app ∷ back
  pub place : AllByRecursion (λ part. part.place ≡ app.place) parts
  pub launch : whole.launch ≡ sliced.launch
  pub tree : Node
  pub is_tree : IsTrue (is_tree tree)
  pub slices : Slices
  pub part_trees : HaveTrees store files parts (slices_of slices tree)
  pub app_tree : HasTree store files app tree

-- Where the files are told, two such images of one store are unpacked under one root, apart from the folder of the
-- trees: both leave the same files, and over them the same document of the launch.
abbrev pub UnpacksSliced : Type 0
UnpacksSliced = (store root one other : List ℕ) (files : Tree) (sliced whole : ImageDoc)
    → image_at store one files ≡ Ok sliced → image_at store other files ≡ Ok whole
    → DifferInSlices store files sliced whole
    → IsTrue (is_path root) → AreApart root (trees_of store)
    → (old new before after : Seen) → old.files ≡ Some files → before.files ≡ Some files
    → unpacks store one root old (Ok tt) new → unpacks store other root before (Ok tt) after
    → (laid : Tree) × HasLaunch root sliced.launch laid new.files × HasLaunch root sliced.launch laid after.files
