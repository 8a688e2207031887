-- What a list of bytes is: the spelling of a tree, broken at a place for a reason, or short.
use Rattle.std.specs.Prelude.{◌≡◌, ℕ, suc, Bool, true, false, ◌+◌, ◌<◌, ◌≤◌, ◌^◌, ◌++◌, List, [], ◌∷◌, length, None}
use Rattle.std.specs.Prelude.{Some}
use Rattle.tree_canon.specs.declared.node.Node.{Node}
use Rattle.tree_canon.specs.declared.node.Named.{Named}
use Rattle.tree_canon.specs.declared.fault.Reason.{Reason}
use Rattle.tree_canon.specs.Spelling.{limit, spelling_of}
use Rattle.tree_canon.specs.Fits.{fits, entries_fit, name_fits}
use Rattle.tree_canon.specs.CutTree.{OpenFolder, Hole, Magic, Tag, Count, NameLength, Name, Executable, FileLength}
use Rattle.tree_canon.specs.CutTree.{Contents, TargetLength, Target, End, CutTree, width, last_name, cut_bytes}
use Rattle.tree_canon.specs.Rules.{reason_of}

-- the bytes are the spelling of the tree with this root
pub record Spells (root : Node) (bytes : List ℕ) : Type 0 where
  pub fit : fits root 0 ≡ true
  pub size : length bytes ≤ limit
  pub is : bytes ≡ spelling_of root

-- a folder at this depth has this count, and fits with these entries, of which it has more
pub record FolderFits (depth count : ℕ) (before : List Named) : Type 0 where
  pub deep : depth ≤ 64
  pub more : length before < count
  pub few : count < 2 ^ 32
  pub entries : entries_fit None before (suc depth) ≡ true

pub record OpenFolderFits (depth : ℕ) (f : OpenFolder) : Type 0 where
  pub folder : FolderFits depth f.count f.before
  pub name : name_fits (last_name f.before) f.name ≡ true

abbrev pub OpenFoldersFit : List OpenFolder → Type 0
OpenFoldersFit [] = Unit {0}
OpenFoldersFit (f ∷ fs) = OpenFolderFits (length fs) f × OpenFoldersFit fs

-- what stands before the hole in its node fits
abbrev pub HoleFits : List OpenFolder → Hole → Type 0
HoleFits fs (Magic k) = (k < 5) × (fs ≡ [])
HoleFits fs Tag = Unit {0}
HoleFits fs Count = length fs ≤ 64
HoleFits fs (NameLength count before) = FolderFits (length fs) count before
HoleFits fs (Name count before size) = FolderFits (length fs) count before × (0 < size) × (size ≤ 255)
HoleFits fs Executable = length fs ≤ 64
HoleFits fs (FileLength exec) = length fs ≤ 64
HoleFits fs (Contents exec size) = (length fs ≤ 64) × (0 < size)
HoleFits fs TargetLength = length fs ≤ 64
HoleFits fs (Target size) = (length fs ≤ 64) × (0 < size) × (size ≤ 4096)
HoleFits fs (End node) = (fits node 0 ≡ true) × (fs ≡ [])

-- how many bytes of the hole's field a length before it announced
abbrev pub announced : Hole → ℕ
announced (Magic k) = 0
announced Tag = 0
announced Count = 0
announced (NameLength count before) = 0
announced (Name count before size) = size
announced Executable = 0
announced (FileLength exec) = 0
announced (Contents exec size) = size
announced TargetLength = 0
announced (Target size) = size
announced (End node) = 0

-- every field before the hole meets its rules
pub record IsSound (c : CutTree) : Type 0 where
  pub folders : OpenFoldersFit c.folders
  pub hole : HoleFits c.folders c.hole
  pub size : length (cut_bytes c) + announced c.hole ≤ limit

-- The bytes before `at` are those of a cut tree, in which every field meets its rules, and the
-- whole field there gives this reason first.
pub record IsBroken (bytes : List ℕ) (at : ℕ) (reason : Reason) : Type 0 where
  pub cut : CutTree
  pub field : List ℕ
  pub rest : List ℕ
  pub sound : IsSound cut
  pub place : at ≡ length (cut_bytes cut)
  pub is : bytes ≡ cut_bytes cut ++ (field ++ rest)
  pub whole : length field ≡ width cut.hole
  pub breaks : reason_of (length cut.folders) at cut.hole field ≡ Some reason

-- whether the root node has ended
abbrev pub has_ended : Hole → Bool
has_ended (Magic k) = false
has_ended Tag = false
has_ended Count = false
has_ended (NameLength count before) = false
has_ended (Name count before size) = false
has_ended Executable = false
has_ended (FileLength exec) = false
has_ended (Contents exec size) = false
has_ended TargetLength = false
has_ended (Target size) = false
has_ended (End node) = true

-- The bytes are those of a cut tree, in which every field meets its rules, and a part of the next
-- field, before the root node has ended.
pub record IsShort (bytes : List ℕ) : Type 0 where
  pub cut : CutTree
  pub part : List ℕ
  pub sound : IsSound cut
  pub is : bytes ≡ cut_bytes cut ++ part
  pub partial : length part < width cut.hole
  pub goes_on : has_ended cut.hole ≡ false

-- one of the three
pub data Kind (bytes : List ℕ) : Type 0 where
  Spelled : (root : Node) → Spells root bytes → Kind bytes
  Broken : (at : ℕ) (reason : Reason) → IsBroken bytes at reason → Kind bytes
  Short : IsShort bytes → Kind bytes

-- Exactly one of the three holds, of one tree, or at one place and for one reason.
pub record IsDivided (bytes : List ℕ) : Type 0 where
  pub kind : Kind bytes
  pub one_tree : (root other : Node) → Spells root bytes → Spells other bytes → root ≡ other
  pub one_break : (at place : ℕ) (reason other : Reason) → IsBroken bytes at reason → IsBroken bytes place other
      → (at ≡ place) × (reason ≡ other)
  pub not_spelled_and_broken : (root : Node) (at : ℕ) (reason : Reason) → Spells root bytes
      → IsBroken bytes at reason → ⊥
  pub not_spelled_and_short : (root : Node) → Spells root bytes → IsShort bytes → ⊥
  pub not_broken_and_short : (at : ℕ) (reason : Reason) → IsBroken bytes at reason → IsShort bytes → ⊥
