-- A tree that is made fact by fact, of what a scan tells, which private calls alone speak of.
use Rattle.std.specs.Prelude.{◌≡◌, ℕ, Bool, ◌<◌, ◌++◌, List, [], ◌∷◌, length, if◌then◌else◌, nat_lt}
use Rattle.tree_canon.specs.declared.node.Node.{Node}
use Rattle.tree_canon.specs.declared.node.Node.TheVariants as node
use Rattle.tree_canon.specs.declared.building.Current.{Current}
use Rattle.tree_canon.specs.declared.building.Current.TheVariants as current
use Rattle.tree_canon.specs.CutTree.{OpenFolder, Hole, NameLength, Name, Contents, End, CutTree}
use Rattle.tree_canon.specs.Reading.{entry}
use Rattle.tree_canon.specs.Events.{Told, Opened, NamedAs, FileOf, Content, LinkTo, Closed}

-- the open folders, the innermost first, and the node under way
pub record Made : Type 0 where
  pub folders : List OpenFolder
  pub current : Current

abbrev pub made_at : List OpenFolder → Current → Made
made_at fs u = record { folders = fs; current = u }

-- before the first fact
abbrev pub made_none : Made
made_none = made_at [] current.Nothing

-- a node is whole: it is the root, or one more entry of the innermost open folder
abbrev pub with_node : List OpenFolder → Node → Made
with_node [] x = made_at [] (current.Whole x)
with_node (f ∷ fs) x = made_at fs (current.Folder f.count (f.before ++ entry f.name x ∷ []))

-- the folder under way is open at an entry of this name
abbrev pub with_name : List OpenFolder → Current → List ℕ → Made
with_name fs (current.Folder count before) name = made_at
    (record { count = count; before = before; name = name } ∷ fs) current.Nothing
with_name fs u name = made_at fs current.Nothing

abbrev pub with_end : List OpenFolder → Current → Made
with_end fs (current.Folder count before) = with_node fs (node.Folder before)
with_end fs u = made_at fs current.Nothing

-- a file with these bytes, which is whole once it has so many
abbrev pub with_contents : List OpenFolder → Bool → ℕ → List ℕ → Made
with_contents fs exec size bytes =
    if nat_lt (length bytes) size then made_at fs (current.File exec size bytes) else with_node fs
    (node.File exec bytes)

abbrev pub with_byte : List OpenFolder → Current → ℕ → Made
with_byte fs (current.File exec size bytes) b = with_contents fs exec size (bytes ++ b ∷ [])
with_byte fs u b = made_at fs u

abbrev pub with_told : Made → Told → Made
with_told m (Opened count) = made_at m.folders (current.Folder count [])
with_told m (NamedAs name) = with_name m.folders m.current name
with_told m (FileOf exec size) = with_contents m.folders exec size []
with_told m (Content b) = with_byte m.folders m.current b
with_told m (LinkTo target) = with_node m.folders (node.Link target)
with_told m Closed = with_end m.folders m.current

abbrev pub made_from : Made → List Told → Made
made_from m [] = m
made_from m (t ∷ ts) = made_from (with_told m t) ts

-- what there is of the node at a hole, with a part of the hole's field
abbrev pub current_of : Hole → List ℕ → Current
current_of (NameLength count before) part = current.Folder count before
current_of (Name count before size) part = current.Folder count before
current_of (Contents exec size) part = current.File exec size part
current_of (End root) part = current.Whole root
current_of hole part = current.Nothing

-- what is made of a tree that is cut
abbrev pub made_of : CutTree → List ℕ → Made
made_of c part = made_at c.folders (current_of c.hole part)

-- a file under way isn't whole
abbrev pub IsPartial : Current → Type 0
IsPartial u = (exec : Bool) (size : ℕ) (bytes : List ℕ) → u ≡ current.File exec size bytes → length bytes < size
