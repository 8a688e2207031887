-- Reading a spelling byte by byte, which private calls alone speak of.
use Rattle.std.specs.Prelude.{◌≡◌, ℕ, ◌==◌, ◌+◌, ◌<◌, ◌++◌, List, [], ◌∷◌, length, slice_index, if◌then◌else◌, nat_lt}
use Rattle.std.specs.Prelude.{Option, None, Some}
use Rattle.std.specs.Int.{from_be_bytes, w16, w32, w64}
use Rattle.tree_canon.specs.declared.node.Node.{Node}
use Rattle.tree_canon.specs.declared.node.Named.{Named}
use Rattle.tree_canon.specs.declared.node.Node.TheVariants.{Folder, File, Link}
use Rattle.tree_canon.specs.declared.fault.Reason.{Reason}
use Rattle.tree_canon.specs.CutTree.{OpenFolder, Hole, Magic, Tag, Count, NameLength, Name, Executable, FileLength}
use Rattle.tree_canon.specs.CutTree.{Contents, TargetLength, Target, End, CutTree, width, cut_bytes}
use Rattle.tree_canon.specs.Rules.{reason_of, first_byte}
use Rattle.tree_canon.specs.Division.{IsSound}

abbrev pub entry : List ℕ → Node → Named
entry name node = record { name = name; node = node }

abbrev pub cut_at : List OpenFolder → Hole → CutTree
cut_at fs hole = record { folders = fs; hole = hole }

-- a node is whole: its folder goes on, or is whole too
abbrev pub filled : List OpenFolder → Node → CutTree
filled [] node = cut_at [] (End node)
filled (f ∷ fs) node =
    if nat_lt (length (f.before ++ entry f.name node ∷ [])) f.count then cut_at fs
    (NameLength f.count (f.before ++ entry f.name node ∷ []))
    else filled fs (Folder (f.before ++ entry f.name node ∷ []))

-- in a folder of this count, behind these entries
abbrev pub opened : List OpenFolder → ℕ → List Named → CutTree
opened fs count before = if nat_lt (length before) count then cut_at fs (NameLength count before) else filled fs
    (Folder before)

abbrev pub after_tag : List OpenFolder → ℕ → CutTree
after_tag fs tag = if tag == 68 then cut_at fs Count else if tag == 70 then cut_at fs Executable else cut_at fs
    TargetLength

-- the cut tree behind a field that meets its rules
abbrev pub after : List OpenFolder → Hole → List ℕ → CutTree
after fs (Magic k) field = if nat_lt k 4 then cut_at fs (Magic (k + 1)) else cut_at fs Tag
after fs Tag field = after_tag fs (first_byte field)
after fs Count field = opened fs (from_be_bytes w32 field) []
after fs (NameLength count before) field = cut_at fs (Name count before (from_be_bytes w16 field))
after fs (Name count before size) field = cut_at (record { count = count; before = before; name = field } ∷ fs) Tag
after fs Executable field = cut_at fs (FileLength (first_byte field == 1))
after fs (FileLength exec) field = if from_be_bytes w64 field == 0 then filled fs (File exec []) else cut_at fs
    (Contents exec (from_be_bytes w64 field))
after fs (Contents exec size) field = filled fs (File exec field)
after fs TargetLength field = cut_at fs (Target (from_be_bytes w16 field))
after fs (Target size) field = filled fs (Link field)
after fs (End node) field = cut_at fs (End node)

-- stuck at the first field that breaks a rule, or going on at a cut tree, with the first bytes of its next field
pub data State : Type 0 where
  Stuck : ℕ → Reason → State
  Going : ℕ → CutTree → List ℕ → State

abbrev pub moved : ℕ → CutTree → List ℕ → Option Reason → State
moved at c field (Some reason) = Stuck at reason
moved at c field None = Going (at + length field) (after c.folders c.hole field) []

abbrev pub with_field : ℕ → CutTree → List ℕ → State
with_field at c field =
    if nat_lt (length field) (width c.hole) then Going at c field
    else moved at c field (reason_of (length c.folders) at c.hole field)

abbrev pub step : State → ℕ → State
step (Stuck at reason) b = Stuck at reason
step (Going at c part) b = with_field at c (part ++ b ∷ [])

abbrev pub run : State → List ℕ → State
run s [] = s
run s (b ∷ bs) = run (step s b) bs

abbrev pub start : State
start = Going 0 (cut_at [] (Magic 0)) []

abbrev pub IsBytes : List ℕ → Type 0
IsBytes bytes = (i : ℕ) → slice_index bytes i < 256

-- what a state that goes on says of the bytes that were read
pub record SpellsUpTo (at : ℕ) (c : CutTree) (part bytes : List ℕ) : Type 0 where
  pub sound : IsSound c
  pub place : at ≡ length (cut_bytes c)
  pub is : bytes ≡ cut_bytes c ++ part
  pub partial : length part < width c.hole
  pub fits : IsBytes part
