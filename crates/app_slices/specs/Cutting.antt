-- How an application is cut: the entries of each slot so far. Private calls alone speak of it.
use Rattle.std.specs.Prelude.{◌≡◌, ◌≤◌, ◌+◌, ◌==◌, ℕ, true, ◌++◌, List, [], ◌∷◌, length, if◌then◌else◌, nat_lt}
use Rattle.std.specs.Prelude.{Option, Some, None, IfSome}
use Rattle.std.specs.BTreeMap.{BTreeMap, get}
use Rattle.std.specs.List.{filter_map, range_with_len}
use Rattle.std.specs.Option.{option_map, option_to_list}
use Rattle.std.specs.Ordering.{nat_cmp}
use Rattle.tree_canon.specs.Fits.{is_tree}
use Rattle.tree_canon.specs.declared.node.Node.{Node}
use Rattle.tree_canon.specs.declared.node.Node.TheVariants as node
use Rattle.tree_canon.specs.declared.node.Named.{Named}
use Rattle.app_slices.specs.Slots.{Slices, Slot}
use Rattle.app_slices.specs.Slices.{named, part, entry_part, entries_part}

-- the slot of a number: of a slice its own, and of the rest the number of slices
abbrev pub slot_at : Slices → ℕ → Slot
slot_at slices k = if nat_lt k (length slices) then Some k else None

-- the entries of each slot, by its number
abbrev pub Parts : Type 0
Parts = BTreeMap ℕ (List Named)

abbrev pub entries_at : Parts → ℕ → Option (List Named)
entries_at parts k = get nat_cmp parts k

-- entries behind those that a slot has; it is there from its first entry on
abbrev pub with_more : Option (List Named) → List Named → Option (List Named)
with_more (Some es) more = Some (es ++ more)
with_more None [] = None
with_more None (e ∷ es) = Some (e ∷ es)

-- each slot has these entries more
abbrev pub Adds : (ℕ → List Named) → Parts → Parts → Type 0
Adds more old new = (k : ℕ) → entries_at new k ≡ with_more (entries_at old k) (more k)

-- the same of the slots of slices and of the rest
abbrev pub AddsSlots : Slices → (ℕ → List Named) → Parts → Parts → Type 0
AddsSlots slices more old new = (k : ℕ) → k ≤ length slices → entries_at new k ≡ with_more (entries_at old k) (more k)

-- an entry, at one slot
abbrev pub one_at : ℕ → Named → ℕ → List Named
one_at slot entry k = if k == slot then entry ∷ [] else []

-- a folder of this name, at each slot that has entries of it
abbrev pub folders_at : List ℕ → Parts → ℕ → List Named
folders_at name parts k = option_to_list (option_map (λ es. named name (node.Folder es)) (entries_at parts k))

-- what each slot has of a node of this name, by the node's slot and path
abbrev pub node_at : Slices → ℕ → List ℕ → List ℕ → Node → ℕ → List Named
node_at slices own path name n k =
    option_to_list (option_map (named name) (part slices (slot_at slices k) n (slot_at slices own) path))

-- of an entry, by the slot and path of its folder
abbrev pub entry_at : Slices → ℕ → List ℕ → Named → ℕ → List Named
entry_at slices above folder e k = option_to_list (entry_part slices (slot_at slices k) e (slot_at slices above) folder)

-- of the entries of a folder
abbrev pub all_at : Slices → ℕ → List ℕ → List Named → ℕ → List Named
all_at slices own path es k = entries_part slices (slot_at slices k) es (slot_at slices own) path

-- nothing but a folder's own slot, which is there without an entry too
abbrev pub only_own : ℕ → ℕ → Option (List Named)
only_own own k = if k == own then Some [] else None

-- the folders of the slots, in order, up to that of the rest
abbrev pub folders_of : ℕ → Parts → List Node
folders_of rest parts = filter_map (λ k. option_map node.Folder (entries_at parts k)) (range_with_len 0 (rest + 1))

-- these entries make a tree
abbrev pub AreTree : Option (List Named) → Type 0
AreTree entries = IfSome entries (λ es. is_tree (node.Folder es) ≡ true)

-- The slots have this of a folder, by its slot and path.
abbrev pub HasSlots : Slices → ℕ → List ℕ → List Named → Parts → Type 0
HasSlots slices own path es parts =
    (k : ℕ) → k ≤ length slices → entries_at parts k ≡ with_more (only_own own k) (all_at slices own path es k)
