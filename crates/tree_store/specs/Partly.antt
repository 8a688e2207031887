-- What stands where laying items was cut off.
use Rattle.std.specs.Prelude.{ℕ, Bool, not, true, ◌&&◌, ◌≡◌, ◌⊎◌, if◌then◌else◌, List, Contains, take, ◌++◌, Option}
use Rattle.std.specs.Prelude.{Some, None, IsTrue}
use Rattle.std.specs.Str.{bytes_eq}
use Rattle.cnb_world.specs.Tree.{Tree, is_folder, is_within, item_at}
use Rattle.cnb_world.specs.declared.world.Item.{Item}
use Rattle.cnb_world.specs.declared.world.Item.TheVariants as item
use Rattle.tree_canon.specs.declared.node.Node.{Node}
use Rattle.tree_store.specs.Overlay.{Given, folder_at, items_under, parts_of}

-- what is begun of an item: a folder or a link is whole, and of a file the first bytes stand
abbrev pub IsBegun : Item → Option Item → Type 0
IsBegun item.Folder found = found ≡ Some item.Folder
IsBegun (item.File exec bytes) found = (count : ℕ) × (found ≡ Some (item.File exec (take count bytes)))
IsBegun (item.Link target) found = found ≡ Some (item.Link target)
IsBegun item.Odd found = ⊥

-- An item takes the place of what stood at a path: a file or a link of all at its own path and below it, a folder of
-- anything but a folder at its own path.
abbrev pub takes_place : Given → Option Item → List ℕ → Bool
takes_place given old path = if is_folder (Some given.1) then bytes_eq path given.0
    && not (is_folder old) else is_within given.0 path

-- one item that is given is begun at its path, or nothing stands there yet or any more
abbrev pub IsPartOf : Given → List ℕ → Option Item → Option Item → Type 0
IsPartOf given path old new = ((path ≡ given.0) × IsBegun given.1 new)
    ⊎ (IsTrue (takes_place given old path) × (new ≡ None))

-- at a path is what stood there, or a part of one of these items
abbrev pub IsOldOrPart : List Given → List ℕ → Option Item → Option Item → Type 0
IsOldOrPart given path old new = (new ≡ old) ⊎ ((one : Given) × Contains given one × IsPartOf one path old new)

-- the same of each path at one or below it
abbrev pub StandsPartly : List ℕ → List Given → Tree → Tree → Type 0
StandsPartly folder given old new = (path : List ℕ) → is_within folder path ≡ true
    → IsOldOrPart given path (item_at old path) (item_at new path)

-- the same of files that may not be told
unfoldable pub LaidPartly : List ℕ → List Given → Option Tree → Option Tree → Type 0
LaidPartly folder given None None = Unit {0}
LaidPartly folder given None (Some new) = ⊥
LaidPartly folder given (Some old) None = ⊥
LaidPartly folder given (Some old) (Some new) = StandsPartly folder given old new

-- what laying a tree at a place under a folder gives, the folder first
abbrev pub items_placed : List ℕ → List ℕ → Node → List Given
items_placed root place tree = folder_at root ++ items_under tree (parts_of place) root
