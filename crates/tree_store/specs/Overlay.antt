-- A tree laid over files, path by path: what the tree gives, and what stays of the files.
use Rattle.std.specs.Prelude.{◌≡◌, ℕ, Bool, true, false, not, ◌&&◌, ◌||◌, ◌==◌, ◌++◌, List, [], ◌∷◌, if◌then◌else◌}
use Rattle.std.specs.Prelude.{nat_eq, Option, Some, None}
use Rattle.std.specs.List.{list_any, slice_split, starts_with}
use Rattle.std.specs.Str.{bytes_eq}
use Rattle.std.specs.FinMap.{get, insert, retain_keys}
use Rattle.cnb_world.specs.Path.{joined}
use Rattle.cnb_world.specs.Tree.{Tree, folder_made, is_folder, is_root}
use Rattle.cnb_world.specs.declared.world.Item.{Item}
use Rattle.cnb_world.specs.declared.world.Item.TheVariants as item
use Rattle.tree_canon.specs.declared.node.Node.{Node}
use Rattle.tree_canon.specs.declared.node.Named.{Named}
use Rattle.tree_canon.specs.declared.node.Node.TheOpen.{Node-F, Named-F, Folder, File, Link}
use Rattle.tree_canon.specs.declared.node.Node.TheFolds.{fold-Node, fold-Named}

-- an item and the path where it comes to stand
abbrev pub Given : Type 0
Given = List ℕ × Item

abbrev pub Giving : Type 0
Giving = List ℕ → List Given

-- a folder; at `/` one stands anyway
abbrev pub folder_at : Giving
folder_at path = if is_root path then [] else (path, item.Folder) ∷ []

abbrev pub all_given : List Giving → Giving
all_given [] path = []
all_given (e ∷ es) path = e path ++ all_given es path

abbrev pub give_step : Node-F Giving Giving → Giving
give_step (Folder all) path = folder_at path ++ all_given all path
give_step (File exec bytes) path = (path, item.File exec bytes) ∷ []
give_step (Link target) path = (path, item.Link target) ∷ []

abbrev pub give_entry_step : Named-F Giving Giving → Giving
give_entry_step e folder = e.node (joined folder e.name)

-- the items of a node that stands at a path, a folder before its entries
abbrev pub items_of : Node → Giving
items_of = fold-Node Giving Giving give_step give_entry_step

abbrev pub items_of_entry : Named → Giving
items_of_entry = fold-Named Giving Giving give_step give_entry_step

-- the same at the end of a way of folders
abbrev pub items_under : Node → List (List ℕ) → Giving
items_under node [] path = items_of node path
items_under node (part ∷ parts) path = folder_at path ++ items_under node parts (joined path part)

-- what is given at a path
abbrev pub given_at : List Given → List ℕ → Option Item
given_at [] q = None
given_at (g ∷ gs) q = if bytes_eq q g.0 then Some g.1 else given_at gs q

-- a path above it is given a file or a link
abbrev pub is_replaced : List Given → List ℕ → Bool
is_replaced given q = list_any (λ g. not (is_folder (Some g.1)) && starts_with nat_eq q (g.0 ++ 47 ∷ [])) given

-- what stands at a path afterwards: what is given there; else what stood there, unless a path above is given a file or
-- a link
abbrev pub stands : Option Item → Bool → Option Item → Option Item
stands (Some given) replaced old = Some given
stands None true old = None
stands None false old = old

-- the files with items set at their paths
abbrev pub with_items : List Given → Tree → Tree
with_items [] files = files
with_items (g ∷ gs) files = insert (with_items gs files) g.0 g.1

-- the files with these items laid over them
abbrev pub lay : List Given → Tree → Tree
lay given files = with_items given (retain_keys files (λ q. not (is_replaced given q)))

-- the parts of a way, each but the first after a slash
abbrev pub way_parts : List ℕ → List (List ℕ)
way_parts way = slice_split (λ b. b == 47) way

-- the parts of a path
abbrev pub parts_of : List ℕ → List (List ℕ)
parts_of [] = []
parts_of (c ∷ []) = []
parts_of (c ∷ d ∷ rest) = way_parts (d ∷ rest)

-- The files with a tree laid at a place under a folder, which is made with those above it. The place is a path as seen
-- from the folder.
unfoldable pub tree_laid : List ℕ → List ℕ → Node → Tree → Tree
tree_laid root place node files = lay (items_under node (parts_of place) root) (folder_made root files)

abbrev pub folder_step : Node-F Bool Bool → Bool
folder_step (Folder all) = true
folder_step (File exec bytes) = false
folder_step (Link target) = false

abbrev pub is_folder_node : Node → Bool
is_folder_node = fold-Node Bool Bool folder_step (λ e. e.node)

-- nothing but a folder stands at `/`
abbrev pub can_stand : Node → List ℕ → Bool
can_stand node path = not (is_root path) || is_folder_node node

-- nor at the place of these parts under it
abbrev pub IsPlaced : Node → List (List ℕ) → List ℕ → Type 0
IsPlaced node [] root = can_stand node root ≡ true
IsPlaced node (part ∷ parts) root = Unit {0}

-- What laying items leaves, path by path: the item that is given there; else what stood there, unless a file or a link
-- now stands on its way.
abbrev pub IsOverlay : List Given → Tree → Tree → Type 0
IsOverlay given old new = (path : List ℕ) → get new path
    ≡ stands (given_at given path) (is_replaced given path) (get old path)
