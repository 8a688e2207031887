-- The tree at a path, or the first refusal: a folder before its entries, and these by ascending names.
use Rattle.std.specs.Prelude.{◌≡◌, ℕ, zero, suc, true, ◌+◌, List, [], ◌∷◌, length, if◌then◌else◌, nat_le, Option, Some}
use Rattle.std.specs.Prelude.{None, Result, Ok, Err}
use Rattle.cnb_world.specs.Path.{joined}
use Rattle.cnb_world.specs.Tree.{Tree, item_at}
use Rattle.cnb_world.specs.Listing.{names_in}
pub use Rattle.cnb_world.specs.Steps.{◌>>=◌}
use Rattle.cnb_world.specs.declared.world.Item.{Item}
use Rattle.cnb_world.specs.declared.world.Item.TheVariants as item
use Rattle.cnb_world.specs.declared.limits.LimitKind.TheVariants.{Depth, Tree as TreeLimit}
use Rattle.tree_canon.specs.Names.{is_target}
use Rattle.tree_canon.specs.Fits.{fits}
use Rattle.tree_canon.specs.Spelling.{limit, node_bytes}
use Rattle.tree_canon.specs.declared.node.Node.{Node}
use Rattle.tree_canon.specs.declared.node.Node.TheVariants as node
use Rattle.tree_canon.specs.declared.node.Named.{Named}
use Rattle.tree_store.specs.declared.fault.StoreFault.{StoreFault}
use Rattle.tree_store.specs.declared.fault.StoreFault.TheVariants.{OddFile, Limit}

-- a node, and how many bytes the spelling has with it
abbrev pub Sized : Type 0
Sized = Node × ℕ

-- the bytes of a spelling that isn't too long
abbrev pub room : ℕ → Result ℕ StoreFault
room size = if nat_le size limit then Ok size else Err (Limit TreeLimit)

abbrev pub sized : Node → ℕ → Result Sized StoreFault
sized root size = Ok (root, size)

abbrev pub folder_of : List Named × ℕ → Result Sized StoreFault
folder_of all = Ok (node.Folder all.0, all.1)

abbrev pub entry_in_front : List ℕ → Node → List Named × ℕ → Result (List Named × ℕ) StoreFault
entry_in_front name root rest = Ok (record { name = name; node = root } ∷ rest.0, rest.1)

-- the entries of these names, where the spelling has so many bytes before them
abbrev pub in_order : (List ℕ → ℕ → Result Sized StoreFault) → List (List ℕ) → ℕ → Result (List Named × ℕ) StoreFault
in_order below [] size = Ok ([], size)
in_order below (name ∷ names) size = below name (size + (2 + length name))
    >>= (λ one. in_order below names one.1 >>= entry_in_front name one.0)

-- a link, where so many levels may stand
abbrev pub link_of : List ℕ → ℕ → ℕ → List ℕ → Result Sized StoreFault
link_of path zero size target = if is_target target then Err (Limit Depth) else Err (OddFile path)
link_of path (suc levels) size target = if is_target target then room (size + (3 + length target))
    >>= sized (node.Link target) else Err (OddFile path)

-- what lies too deep, but an odd path is refused as odd
abbrev pub too_deep : List ℕ → Option Item → Result Sized StoreFault
too_deep path None = Err (OddFile path)
too_deep path (Some item.Odd) = Err (OddFile path)
too_deep path (Some item.Folder) = Err (Limit Depth)
too_deep path (Some (item.File exec bytes)) = Err (Limit Depth)
too_deep path (Some (item.Link target)) = if is_target target then Err (Limit Depth) else Err (OddFile path)

-- what stands at a path as a node, where `below` gives the nodes of the names in a folder
abbrev pub node_of : Tree → List ℕ → (List ℕ → ℕ → Result Sized StoreFault) → ℕ → Option Item → Result Sized StoreFault
node_of files path below size None = Err (OddFile path)
node_of files path below size (Some item.Odd) = Err (OddFile path)
node_of files path below size (Some item.Folder) = room (size + 5)
    >>= (λ s. in_order below (names_in files path) s >>= folder_of)
node_of files path below size (Some (item.File exec bytes)) = room (size + (10 + length bytes))
    >>= sized (node.File exec bytes)
node_of files path below size (Some (item.Link target)) = if is_target target then room
    (size + (3 + length target)) >>= sized (node.Link target) else Err (OddFile path)

-- the node at a path of which so many levels may stand
abbrev pub node_at : ℕ → Tree → List ℕ → ℕ → Result Sized StoreFault
node_at zero files path size = too_deep path (item_at files path)
node_at (suc levels) files path size = node_of files path (λ name. node_at levels files (joined path name)) size
    (item_at files path)

abbrev pub root_of : List ℕ → Sized → Result Node StoreFault
root_of path read = Ok read.0

-- the tree of a folder: the root at depth 0, and no node deeper than 64
abbrev pub folder_root : List ℕ → Option Item → Result Sized StoreFault → Result Node StoreFault
folder_root path (Some item.Folder) read = read >>= root_of path
folder_root path (Some (item.File exec bytes)) read = Err (OddFile path)
folder_root path (Some (item.Link target)) read = Err (OddFile path)
folder_root path (Some item.Odd) read = Err (OddFile path)
folder_root path None read = Err (OddFile path)

unfoldable pub tree_in : List ℕ → Tree → Result Node StoreFault
tree_in path files = folder_root path (item_at files path) (node_at 65 files path 5)

-- what was read fits at a depth, and its bytes were counted
abbrev pub FitsFrom : ℕ → ℕ → Sized → Type 0
FitsFrom depth size read = (fits read.0 depth ≡ true) × (read.1 ≡ size + length (node_bytes read.0))
