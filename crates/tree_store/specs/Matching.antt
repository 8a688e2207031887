-- The tree of a folder and the files, path by path.
use Rattle.std.specs.Prelude.{ℕ, true, ◌≡◌, List, if◌then◌else◌, Option, Some, Ok}
use Rattle.cnb_world.specs.Tree.{Tree, IsTree, is_root, is_within, item_at}
use Rattle.cnb_world.specs.declared.world.Item.{Item}
use Rattle.cnb_world.specs.declared.world.Item.TheVariants as item
use Rattle.tree_canon.specs.declared.node.Node.{Node}
use Rattle.tree_store.specs.Overlay.{given_at, items_of}
use Rattle.tree_store.specs.Reading.{tree_in}

-- what a tree has at a path, where its root is at another; `/` is always a folder
abbrev pub item_in : Node → List ℕ → List ℕ → Option Item
item_in tree root path = if is_root path then Some item.Folder else given_at (items_of tree root) path

-- At each path that is a tree's root or below it the files have what the tree has there, and nothing where it has
-- nothing.
abbrev pub Matches : List ℕ → Node → Tree → Type 0
Matches root tree files = (path : List ℕ) → is_within root path ≡ true → item_at files path ≡ item_in tree root path

-- whatever tree is read of a folder
abbrev pub ReadTreesMatch : Type 0
ReadTreesMatch = (root : List ℕ) (tree : Node) (files : Tree) → IsTree files → tree_in root files ≡ Ok tree
    → Matches root tree files
