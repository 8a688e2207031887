-- What the events of a tree tell: its folders, names, files and links in the order of the spelling.
use Rattle.std.specs.Prelude.{ℕ, zero, suc, Bool, ◌-◌, ◌++◌, List, [], ◌∷◌, length, map, drop}
use Rattle.tree_canon.specs.declared.node.Node.{Node}
use Rattle.tree_canon.specs.declared.node.Named.{Named}
use Rattle.tree_canon.specs.declared.node.Node.TheOpen as layer
use Rattle.tree_canon.specs.declared.node.Node.TheOpen.{Node-F, Named-F}
use Rattle.tree_canon.specs.declared.node.Node.TheFolds.{fold-Node, fold-Named}
use Rattle.tree_canon.specs.declared.event.Event.{Event}
use Rattle.tree_canon.specs.declared.event.Event.TheVariants as event
use Rattle.tree_canon.specs.CutTree.{OpenFolder, Hole, NameLength, Name, Contents, End, CutTree}

-- One fact that an event tells. A file's contents are told byte by byte, so that it is the same however they were cut.
pub data Told : Type 0 where
  Opened : ℕ → Told
  NamedAs : List ℕ → Told
  FileOf : Bool → ℕ → Told
  Content : ℕ → Told
  LinkTo : List ℕ → Told
  Closed : Told

-- what an event tells, with the bytes that were taken for it
abbrev pub told : Event → List ℕ → List Told
told (event.Open count) taken = Opened count ∷ []
told (event.Name name) taken = NamedAs name ∷ []
told (event.File exec len) taken = FileOf exec len ∷ []
told (event.Part n) taken = map Content (drop (length taken - n) taken)
told (event.Link target) taken = LinkTo target ∷ []
told event.Close taken = Closed ∷ []
told event.More taken = []

-- lists one behind another
abbrev pub joined : List (List Told) → List Told
joined [] = []
joined (x ∷ xs) = x ++ joined xs

-- a node, where each entry of a folder stands as what is told of it
abbrev pub told_step : Node-F (List Told) (List Told) → List Told
told_step (layer.Folder all) = Opened (length all) ∷ (joined all ++ Closed ∷ [])
told_step (layer.File exec bytes) = FileOf exec (length bytes) ∷ map Content bytes
told_step (layer.Link target) = LinkTo target ∷ []

abbrev pub told_entry_step : Named-F (List Told) (List Told) → List Told
told_entry_step e = NamedAs e.name ∷ e.node

-- all that the events of a tree tell
abbrev pub events_of : Node → List Told
events_of = fold-Node (List Told) (List Told) told_step told_entry_step

abbrev pub entry_events : Named → List Told
entry_events = fold-Named (List Told) (List Told) told_step told_entry_step

abbrev pub entries_events : List Named → List Told
entries_events all = joined (map entry_events all)

-- the same of open folders, the innermost first, up to the nodes of their entries under way
abbrev pub open_folders_events : List OpenFolder → List Told
open_folders_events [] = []
open_folders_events (f ∷ fs) =
    open_folders_events fs ++ (Opened f.count ∷ (entries_events f.before ++ NamedAs f.name ∷ []))

-- of the node at a hole, up to a part of the hole's field
abbrev pub hole_events : Hole → List ℕ → List Told
hole_events (NameLength count before) part = Opened count ∷ entries_events before
hole_events (Name count before size) part = Opened count ∷ entries_events before
hole_events (Contents exec size) part = FileOf exec size ∷ map Content part
hole_events (End node) part = events_of node
hole_events hole part = []

-- and of a cut tree, with a part of the field at its hole
abbrev pub events_before : CutTree → List ℕ → List Told
events_before c part = open_folders_events c.folders ++ hole_events c.hole part

-- so many folders are whole
abbrev pub closed : ℕ → List Told
closed zero = []
closed (suc n) = Closed ∷ closed n
