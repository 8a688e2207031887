-- The bytes of a tree.
use Rattle.std.specs.Prelude.{ℕ, Bool, ◌++◌, List, [], ◌∷◌, map, length, if◌then◌else◌}
use Rattle.std.specs.List.{concat}
use Rattle.std.specs.Int.{to_be_bytes, w16, w32, w64}
use Rattle.tree_canon.specs.declared.node.Node.{Node}
use Rattle.tree_canon.specs.declared.node.Named.{Named}
use Rattle.tree_canon.specs.declared.node.Node.TheOpen.{Node-F, Named-F, Folder, File, Link}
use Rattle.tree_canon.specs.declared.node.Node.TheFolds.{fold-Node, fold-Named}

-- the most bytes that a spelling has
abbrev pub limit : ℕ
limit = 1073741824

-- `CNBT` and the version
abbrev pub magic : List ℕ
magic = 67 ∷ 78 ∷ 66 ∷ 84 ∷ 1 ∷ []

abbrev pub folder_head : ℕ → List ℕ
folder_head count = 68 ∷ to_be_bytes w32 count

abbrev pub file_head : Bool → ℕ → List ℕ
file_head exec size = 70 ∷ (if exec then 1 else 0) ∷ to_be_bytes w64 size

abbrev pub link_head : ℕ → List ℕ
link_head size = 76 ∷ to_be_bytes w16 size

abbrev pub name_bytes : List ℕ → List ℕ
name_bytes name = to_be_bytes w16 (length name) ++ name

-- a node, where each entry of a folder stands as its bytes
abbrev pub node_step : Node-F (List ℕ) (List ℕ) → List ℕ
node_step (Folder all) = folder_head (length all) ++ concat all
node_step (File exec bytes) = file_head exec (length bytes) ++ bytes
node_step (Link target) = link_head (length target) ++ target

abbrev pub entry_step : Named-F (List ℕ) (List ℕ) → List ℕ
entry_step e = name_bytes e.name ++ e.node

-- the bytes of a node
abbrev pub node_bytes : Node → List ℕ
node_bytes = fold-Node (List ℕ) (List ℕ) node_step entry_step

-- the bytes of an entry: its name, then its node
abbrev pub entry_bytes : Named → List ℕ
entry_bytes = fold-Named (List ℕ) (List ℕ) node_step entry_step

abbrev pub entries_bytes : List Named → List ℕ
entries_bytes all = concat (map entry_bytes all)

-- the spelling of a tree whose root is this node
abbrev pub spelling_of : Node → List ℕ
spelling_of root = magic ++ node_bytes root
