-- Laying a tree over files: a folder merges into a folder and takes the place of anything else, a file or a link takes
-- the place of whatever stands. A link is never followed.
use Rattle.std.specs.Prelude.{ℕ, Bool, List, [], ◌∷◌, map, Option, Some, None}
use Rattle.std.specs.FinMap.{insert}
use Rattle.cnb_world.specs.Path.{joined}
use Rattle.cnb_world.specs.Tree.{Tree, item_at, folder_made, without}
use Rattle.cnb_world.specs.declared.world.Item.{Item}
use Rattle.cnb_world.specs.declared.world.Item.TheVariants as item
use Rattle.cnb_world.specs.declared.world.Kind.{Kind}
use Rattle.cnb_world.specs.declared.world.Kind.TheVariants as kind
use Rattle.tree_store.specs.Overlay.{parts_of}
use Rattle.tree_canon.specs.declared.node.Node.{Node}
use Rattle.tree_canon.specs.declared.node.Named.{Named}
use Rattle.tree_canon.specs.declared.node.Node.TheOpen.{Node-F, Named-F, Folder, File, Link}
use Rattle.tree_canon.specs.declared.node.Node.TheFolds.{fold-Node, fold-Named}

-- a file at a path
abbrev pub file_set : List ℕ → Bool → List ℕ → Tree → Tree
file_set path exec bytes files = insert files path (item.File exec bytes)

abbrev pub file_laid : Bool → List ℕ → List ℕ → Tree → Tree
file_laid exec bytes path files = insert (without path files) path (item.File exec bytes)

abbrev pub link_laid : List ℕ → List ℕ → Tree → Tree
link_laid target path files = insert (without path files) path (item.Link target)

-- a folder over what stands there
abbrev pub folder_over : Option Item → List ℕ → Tree → Tree
folder_over (Some item.Folder) path files = files
folder_over None path files = folder_made path files
folder_over (Some (item.File exec bytes)) path files = folder_made path (without path files)
folder_over (Some (item.Link target)) path files = folder_made path (without path files)
folder_over (Some item.Odd) path files = folder_made path (without path files)

unfoldable pub folder_laid : List ℕ → Tree → Tree
folder_laid path files = folder_over (item_at files path) path files

-- the same by its kind
abbrev pub folder_by : Kind → List ℕ → Tree → Tree
folder_by kind.Folder path files = files
folder_by kind.Absent path files = folder_made path files
folder_by (kind.File exec len) path files = folder_made path (without path files)
folder_by kind.Link path files = folder_made path (without path files)
folder_by kind.Odd path files = folder_made path (without path files)

abbrev pub Laying : Type 0
Laying = List ℕ → Tree → Tree

-- entries, one after another
abbrev pub all_laid : List Laying → List ℕ → Tree → Tree
all_laid [] path files = files
all_laid (e ∷ es) path files = all_laid es path (e path files)

abbrev pub lay_step : Node-F Laying Laying → Laying
lay_step (Folder all) path files = all_laid all path (folder_laid path files)
lay_step (File exec bytes) path files = file_laid exec bytes path files
lay_step (Link target) path files = link_laid target path files

abbrev pub lay_entry_step : Named-F Laying Laying → Laying
lay_entry_step e path files = e.node (joined path e.name) files

-- the files with a node laid at a path
abbrev pub node_laid : Node → List ℕ → Tree → Tree
node_laid = fold-Node Laying Laying lay_step lay_entry_step

abbrev pub entry_laid : Named → List ℕ → Tree → Tree
entry_laid = fold-Named Laying Laying lay_step lay_entry_step

abbrev pub entries_laid : List Named → List ℕ → Tree → Tree
entries_laid es path files = all_laid (map entry_laid es) path files

-- The way to a place: folders are laid at the paths of its parts, and the node at the last one.
abbrev pub laid_under : Node → List (List ℕ) → List ℕ → Tree → Tree
laid_under root [] path files = node_laid root path files
laid_under root (part ∷ parts) path files = laid_under root parts (joined path part) (folder_laid path files)

-- a tree laid at a place under a folder, which is made
unfoldable pub tree_steps : List ℕ → List ℕ → Node → Tree → Tree
tree_steps root place node files = laid_under node (parts_of place) root (folder_made root files)
