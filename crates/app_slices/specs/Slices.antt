-- The trees that an application is cut into by slices.
use Rattle.std.specs.Prelude.{ℕ, Bool, List, [], ◌∷◌, if◌then◌else◌, Option, Some, None}
use Rattle.std.specs.List.{filter_map}
use Rattle.std.specs.Option.{option_map}
use Rattle.tree_canon.specs.declared.node.Node.{Node}
use Rattle.tree_canon.specs.declared.node.Node.TheVariants as node
use Rattle.tree_canon.specs.declared.node.Named.{Named}
use Rattle.tree_canon.specs.declared.node.Node.TheOpen.{Node-F, Named-F, Folder, File, Link}
use Rattle.tree_canon.specs.declared.node.Node.TheFolds.{fold-Node, fold-Named}
use Rattle.app_slices.specs.Slots.{Slices, Slot, slots, below, slot_in, same_slot}

-- what the tree of a slot has of a node, by the node's own slot and its path
abbrev pub Part : Type 0
Part = Slot → List ℕ → Option Node

-- what it has of an entry, by the slot and the path of the folder
abbrev pub EntryPart : Type 0
EntryPart = Slot → List ℕ → Option Named

-- a folder, with what is kept of its entries: it is in the tree of its own slot, and above all that is in a tree
abbrev pub folder_part : Bool → List Named → Option Node
folder_part own [] = if own then Some (node.Folder []) else None
folder_part own (e ∷ es) = Some (node.Folder (e ∷ es))

abbrev pub part_step : Slot → Node-F Part EntryPart → Part
part_step wanted (Folder all) own path =
    folder_part (same_slot own wanted) (filter_map (λ (e : EntryPart). e own path) all)
part_step wanted (File exec bytes) own path = if same_slot own wanted then Some (node.File exec bytes) else None
part_step wanted (Link target) own path = if same_slot own wanted then Some (node.Link target) else None

abbrev pub named : List ℕ → Node → Named
named name n = record { name = name; node = n }

abbrev pub entry_part_step : Slices → Named-F Part EntryPart → EntryPart
entry_part_step slices e above folder =
    option_map (named e.name) (e.node (slot_in slices above (below folder e.name)) (below folder e.name))

abbrev pub part : Slices → Slot → Node → Part
part slices wanted = fold-Node Part EntryPart (part_step wanted) (entry_part_step slices)

abbrev pub entry_part : Slices → Slot → Named → EntryPart
entry_part slices wanted = fold-Named Part EntryPart (part_step wanted) (entry_part_step slices)

-- the entries of a folder that are in the tree
abbrev pub entries_part : Slices → Slot → List Named → Slot → List ℕ → List Named
entries_part slices wanted all own path = filter_map (λ e. entry_part slices wanted e own path) all

-- the tree of a slot: the application's own folder is the rest's
abbrev pub tree_of : Slices → Node → Slot → Option Node
tree_of slices app wanted = part slices wanted app None []

-- the trees of those slots that have something, in order
unfoldable pub slices_of : Slices → Node → List Node
slices_of slices app = filter_map (tree_of slices app) (slots slices)
