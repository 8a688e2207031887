-- What is in an application, and what of it is in the tree of a slot: the items of the slot and the folders above them.
use Rattle.std.specs.Prelude.{◌≡◌, ℕ, Bool, true, ◌&&◌, ◌++◌, List, [], ◌∷◌, Option, Some, None, is_some}
use Rattle.std.specs.List.{filter, flat_map, list_any, starts_with}
use Rattle.std.specs.Str.{bytes_eq}
use Rattle.cnb_world.specs.declared.world.Item.{Item}
use Rattle.cnb_world.specs.declared.world.Item.TheVariants as item
use Rattle.tree_canon.specs.declared.node.Node.{Node}
use Rattle.tree_canon.specs.declared.node.Named.{Named}
use Rattle.tree_canon.specs.declared.node.Node.TheOpen.{Node-F, Named-F, Folder, File, Link}
use Rattle.tree_canon.specs.declared.node.Node.TheFolds.{fold-Node, fold-Named}
use Rattle.app_slices.specs.Slots.{Slices, Slot, below, same_slot, slot_along}
use Rattle.app_slices.specs.Slices.{tree_of}

-- an item, with its path and those above it, the outermost first
abbrev pub Listed : Type 0
Listed = List (List ℕ) × Item

-- what is listed in a folder, by its path and those above it, and by its path alone
abbrev pub Listing : Type 0
Listing = List (List ℕ) → List ℕ → List Listed

-- a node's own item, and what is in it
abbrev pub list_step : Node-F (Item × Listing) Listing → Item × Listing
list_step (Folder all) = (item.Folder, λ paths path. flat_map (λ (e : Listing). e paths path) all)
list_step (File exec bytes) = (item.File exec bytes, λ paths path. [])
list_step (Link target) = (item.Link target, λ paths path. [])

abbrev pub list_entry_step : Named-F (Item × Listing) Listing → Listing
list_entry_step e paths folder =
    (paths ++ below folder e.name ∷ [], e.node.0) ∷ e.node.1 (paths ++ below folder e.name ∷ []) (below folder e.name)

abbrev pub listed : Node → Item × Listing
listed = fold-Node (Item × Listing) Listing list_step list_entry_step

abbrev pub listed_entry : Named → Listing
listed_entry = fold-Named (Item × Listing) Listing list_step list_entry_step

-- all that is in an application, a folder before what is in it
abbrev pub listing : Node → List Listed
listing app = (listed app).1 [] []

-- an item of the slot
abbrev pub is_of : Slices → Slot → Listed → Bool
is_of slices wanted x = same_slot (slot_along slices None x.0) wanted

-- what of a listing is an item of the slot, or a folder above one
abbrev pub of_slot : Slices → Slot → List Listed → List Listed
of_slot slices wanted all = filter (λ x. list_any (λ y. is_of slices wanted y && starts_with bytes_eq y.0 x.0) all) all

-- what is in a tree, if there is one
abbrev pub listing_of : Option Node → List Listed
listing_of None = []
listing_of (Some tree) = listing tree

-- The tree of a slot has the items of the slot and the folders above them. A slice without an item has no tree; the
-- rest always has one.
pub record AreOfSlots (slices : Slices) (app : Node) : Type 0 where
  pub items : (wanted : Slot) → listing_of (tree_of slices app wanted) ≡ of_slot slices wanted (listing app)
  pub trees : (k : ℕ) → is_some (tree_of slices app (Some k)) ≡ list_any (is_of slices (Some k)) (listing app)
  pub rest : is_some (tree_of slices app None) ≡ true
