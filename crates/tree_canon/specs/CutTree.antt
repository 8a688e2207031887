-- Cut trees: what stands before one field of a spelling.
use Rattle.std.specs.Prelude.{ℕ, Bool, ◌++◌, List, [], ◌∷◌, take, if◌then◌else◌, Option, None, Some}
use Rattle.std.specs.Int.{to_be_bytes, w16}
use Rattle.tree_canon.specs.declared.node.Node.{Node}
use Rattle.tree_canon.specs.declared.node.Named.{Named}
use Rattle.tree_canon.specs.Spelling.{magic, folder_head, file_head, link_head, name_bytes, node_bytes, entries_bytes}
pub use Rattle.tree_canon.specs.declared.building.OpenFolder.{OpenFolder}

-- where a tree is cut: the field that comes next, with what its node has so far
pub data Hole : Type 0 where
  Magic : ℕ → Hole
  Tag : Hole
  Count : Hole
  NameLength : ℕ → List Named → Hole
  Name : ℕ → List Named → ℕ → Hole
  Executable : Hole
  FileLength : Bool → Hole
  Contents : Bool → ℕ → Hole
  TargetLength : Hole
  Target : ℕ → Hole
  End : Node → Hole

-- a tree cut at a hole, with the folders round it, the innermost first
pub record CutTree : Type 0 where
  pub folders : List OpenFolder
  pub hole : Hole

-- an open folder up to the node of its entry under way
abbrev pub open_folder_bytes : OpenFolder → List ℕ
open_folder_bytes f = folder_head f.count ++ (entries_bytes f.before ++ name_bytes f.name)

abbrev pub open_folders_bytes : List OpenFolder → List ℕ
open_folders_bytes [] = magic
open_folders_bytes (f ∷ fs) = open_folders_bytes fs ++ open_folder_bytes f

-- the bytes of the node at the hole, up to the hole
abbrev pub hole_bytes : Hole → List ℕ
hole_bytes (Magic k) = []
hole_bytes Tag = []
hole_bytes Count = 68 ∷ []
hole_bytes (NameLength count before) = folder_head count ++ entries_bytes before
hole_bytes (Name count before size) = folder_head count ++ (entries_bytes before ++ to_be_bytes w16 size)
hole_bytes Executable = 70 ∷ []
hole_bytes (FileLength exec) = 70 ∷ (if exec then 1 else 0) ∷ []
hole_bytes (Contents exec size) = file_head exec size
hole_bytes TargetLength = 76 ∷ []
hole_bytes (Target size) = link_head size
hole_bytes (End node) = node_bytes node

-- the bytes before a hole: of the five first bytes as many as were read, else these, the open folders and the node
abbrev pub bytes_before : List OpenFolder → Hole → List ℕ
bytes_before fs (Magic k) = take k magic
bytes_before fs Tag = open_folders_bytes fs
bytes_before fs Count = open_folders_bytes fs ++ hole_bytes Count
bytes_before fs (NameLength count before) = open_folders_bytes fs ++ hole_bytes (NameLength count before)
bytes_before fs (Name count before size) = open_folders_bytes fs ++ hole_bytes (Name count before size)
bytes_before fs Executable = open_folders_bytes fs ++ hole_bytes Executable
bytes_before fs (FileLength exec) = open_folders_bytes fs ++ hole_bytes (FileLength exec)
bytes_before fs (Contents exec size) = open_folders_bytes fs ++ hole_bytes (Contents exec size)
bytes_before fs TargetLength = open_folders_bytes fs ++ hole_bytes TargetLength
bytes_before fs (Target size) = open_folders_bytes fs ++ hole_bytes (Target size)
bytes_before fs (End node) = open_folders_bytes fs ++ hole_bytes (End node)

abbrev pub cut_bytes : CutTree → List ℕ
cut_bytes c = bytes_before c.folders c.hole

-- how many bytes the field at the hole has
abbrev pub width : Hole → ℕ
width (Magic k) = 1
width Tag = 1
width Count = 4
width (NameLength count before) = 2
width (Name count before size) = size
width Executable = 1
width (FileLength exec) = 8
width (Contents exec size) = size
width TargetLength = 2
width (Target size) = size
width (End node) = 1

-- the name of the last of these entries, and else this one
abbrev pub last_from : Option (List ℕ) → List Named → Option (List ℕ)
last_from last [] = last
last_from last (e ∷ es) = last_from (Some e.name) es

abbrev pub last_name : List Named → Option (List ℕ)
last_name es = last_from None es
