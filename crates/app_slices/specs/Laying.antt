-- What the trees of an application give where they are laid, one after another.
use Rattle.std.specs.Prelude.{◌≡◌, ℕ, false, List, [], ◌∷◌, Some}
use Rattle.std.specs.List.{filter_map, fold}
use Rattle.cnb_world.specs.Tree.{Tree, is_folder}
use Rattle.cnb_world.specs.declared.world.Item.{Item}
use Rattle.tree_canon.specs.declared.node.Node.{Node}
use Rattle.tree_store.specs.Overlay.{given_at, items_of, tree_laid}

-- Laid in order at one place over any files they leave what the whole application leaves there.
abbrev pub LaysAs : List Node → Node → Type 0
LaysAs trees app = (root place : List ℕ) (files : Tree)
    → fold (λ left tree. tree_laid root place tree left) files trees ≡ tree_laid root place app files

-- Each file and each link of the application is given once by all of them, wherever they stand.
abbrev pub InOne : List Node → Node → Type 0
InOne trees app = (root path : List ℕ) (item : Item)
    → given_at (items_of app root) path ≡ Some item → is_folder (Some item) ≡ false
    → filter_map (λ tree. given_at (items_of tree root) path) trees ≡ item ∷ []
