-- What a scan keeps of a cut tree, which private calls alone speak of: no file's contents, and of the entries of an
-- open folder the number of those to come and one name.
use Rattle.std.specs.Prelude.{◌≡◌, ℕ, suc, true, ◌==◌, ◌||◌, ◌+◌, ◌-◌, ◌<◌, ◌≤◌, ◌++◌, List, [], ◌∷◌, length, map}
use Rattle.std.specs.Prelude.{reverse, sum, All, slice_index, unwrap_or, if◌then◌else◌, nat_lt, nat_le, Option, None}
use Rattle.std.specs.Prelude.{Some}
use Rattle.std.specs.Int.{from_be_bytes, w16, w32, w64}
use Rattle.std.specs.Str.{is_utf8}
use Rattle.tree_canon.specs.declared.fault.Reason.{Reason}
use Rattle.tree_canon.specs.declared.fault.Reason.TheVariants as reasons
use Rattle.tree_canon.specs.declared.next_field.ScannedFolder.{ScannedFolder}
use Rattle.tree_canon.specs.declared.next_field.NextField.{NextField}
use Rattle.tree_canon.specs.declared.next_field.NextField.TheVariants as field
use Rattle.tree_canon.specs.declared.scanner.Scanner.{Scanner}
use Rattle.tree_canon.specs.Names.{is_name, is_target, follows}
use Rattle.tree_canon.specs.Spelling.{magic}
use Rattle.tree_canon.specs.CutTree.{OpenFolder, Hole, Magic, Tag, Count, NameLength, Name, Executable, FileLength}
use Rattle.tree_canon.specs.CutTree.{Contents, TargetLength, Target, End, CutTree, width, last_name}
use Rattle.tree_canon.specs.Rules.{unless, either_reason, large_past, first_byte, is_tag, length_reason}
use Rattle.tree_canon.specs.Reading.{State, Stuck, Going}

-- what is kept of an open folder
abbrev pub scanned_folder : OpenFolder → ScannedFolder
scanned_folder f = record { left = f.count - (length f.before + 1); name = f.name }

-- the field at a hole, of which so many bytes were read
abbrev pub next_field : Hole → ℕ → NextField
next_field (Magic k) n = field.Magic k
next_field Tag n = field.Tag
next_field Count n = field.Count
next_field (NameLength count before) n = field.NameLength (count - (length before + 1)) (last_name before)
next_field (Name count before size) n = field.Name (count - (length before + 1)) (last_name before) size
next_field Executable n = field.Executable
next_field (FileLength exec) n = field.FileLength exec
next_field (Contents exec size) n = field.Contents size n
next_field TargetLength n = field.TargetLength
next_field (Target size) n = field.Target size
next_field (End node) n = field.End

-- what is kept of the bytes of a field: all, but nothing of a file's contents
abbrev pub kept_part : Hole → List ℕ → List ℕ
kept_part (Contents exec size) part = []
kept_part hole part = part

-- how many bytes the next field has
abbrev pub field_width : NextField → ℕ
field_width (field.Magic k) = 1
field_width field.Tag = 1
field_width field.Count = 4
field_width (field.NameLength left last) = 2
field_width (field.Name left last size) = size
field_width field.Executable = 1
field_width (field.FileLength exec) = 8
field_width (field.Contents size taken) = size
field_width field.TargetLength = 2
field_width (field.Target size) = size
field_width field.End = 1

-- how many of them were read, where these are kept
abbrev pub bytes_taken : NextField → List ℕ → ℕ
bytes_taken (field.Contents size taken) part = taken
bytes_taken f part = length part

-- the field with more bytes read, and what is kept of them
abbrev pub Taken : Type 0
Taken = NextField × List ℕ

abbrev pub with_bytes : NextField → List ℕ → List ℕ → Taken
with_bytes (field.Contents size taken) part bytes = (field.Contents size (taken + length bytes), part)
with_bytes f part bytes = (f, part ++ bytes)

abbrev pub IsContents : NextField → Type 0
IsContents (field.Contents size taken) = Unit {0}
IsContents f = ⊥

-- the bytes of a whole field, of which a file's contents are not asked for
abbrev pub IsWholeField : NextField → List ℕ → Type 0
IsWholeField (field.Contents size taken) bytes = Unit {0}
IsWholeField f bytes = length bytes ≡ field_width f

-- a name and a target are text
abbrev pub IsReadableField : NextField → List ℕ → Type 0
IsReadableField (field.Name left last size) bytes = is_utf8 bytes ≡ true
IsReadableField (field.Target size) bytes = is_utf8 bytes ≡ true
IsReadableField f bytes = Unit {0}

-- what a whole field breaks beside its own length, in so many open folders and behind so many bytes
abbrev pub own_reason_at : ℕ → ℕ → NextField → List ℕ → Option Reason
own_reason_at depth at (field.Magic k) part = unless (first_byte part == slice_index magic k) reasons.Magic
own_reason_at depth at field.Tag part = either_reason (unless (nat_le depth 64) reasons.Deep)
    (unless (is_tag (first_byte part)) reasons.Tag)
own_reason_at depth at field.Count part = None
own_reason_at depth at (field.NameLength left last) part = length_reason (at + 2) 255 part
own_reason_at depth at (field.Name left last size) part = either_reason (unless (is_name part) reasons.Name)
    (unless (follows last part) reasons.Order)
own_reason_at depth at field.Executable part = unless (first_byte part == 0 || first_byte part == 1) reasons.Exec
own_reason_at depth at (field.FileLength exec) part = large_past (at + 8 + from_be_bytes w64 part)
own_reason_at depth at (field.Contents size taken) part = None
own_reason_at depth at field.TargetLength part = length_reason (at + 2) 4096 part
own_reason_at depth at (field.Target size) part = unless (is_target part) reasons.Name
own_reason_at depth at field.End part = Some reasons.Rest

-- the first reason that a whole field gives
abbrev pub reason_at : ℕ → ℕ → NextField → List ℕ → Option Reason
reason_at depth at f part = either_reason (large_past (at + field_width f)) (own_reason_at depth at f part)

-- the open folders, the innermost first, and the field that comes next
pub record Place : Type 0 where
  pub folders : List ScannedFolder
  pub next : NextField

abbrev pub place : List ScannedFolder → NextField → Place
place fs f = record { folders = fs; next = f }

-- a node is whole: its folder goes on, or is whole too
abbrev pub behind_node : List ScannedFolder → Place
behind_node [] = place [] field.End
behind_node (f ∷ fs) = if nat_lt 0 f.left then place fs
    (field.NameLength (f.left - 1) (Some f.name)) else behind_node fs

abbrev pub behind_tag : List ScannedFolder → ℕ → Place
behind_tag fs tag = if tag == 68 then place fs field.Count else if tag == 70 then place fs field.Executable else
    place fs field.TargetLength

abbrev pub behind_count : List ScannedFolder → ℕ → Place
behind_count fs count = if nat_lt 0 count then place fs (field.NameLength (count - 1) None) else behind_node fs

abbrev pub behind_file_length : List ScannedFolder → ℕ → Place
behind_file_length fs size = if size == 0 then behind_node fs else place fs (field.Contents size 0)

-- behind a field that meets its rules
abbrev pub behind : List ScannedFolder → NextField → List ℕ → Place
behind fs (field.Magic k) part = if nat_lt k 4 then place fs (field.Magic (k + 1)) else place fs field.Tag
behind fs field.Tag part = behind_tag fs (first_byte part)
behind fs field.Count part = behind_count fs (from_be_bytes w32 part)
behind fs (field.NameLength left last) part = place fs (field.Name left last (from_be_bytes w16 part))
behind fs (field.Name left last size) part = place (record { left = left; name = part } ∷ fs) field.Tag
behind fs field.Executable part = place fs (field.FileLength (first_byte part == 1))
behind fs (field.FileLength exec) part = behind_file_length fs (from_be_bytes w64 part)
behind fs (field.Contents size taken) part = behind_node fs
behind fs field.TargetLength part = place fs (field.Target (from_be_bytes w16 part))
behind fs (field.Target size) part = behind_node fs
behind fs field.End part = place fs field.End

-- how many folders become whole with a node
abbrev pub closes : List ScannedFolder → ℕ
closes [] = 0
closes (f ∷ fs) = if nat_lt 0 f.left then 0 else suc (closes fs)

-- how many folders become whole with a field
abbrev pub closes_behind : List ScannedFolder → NextField → List ℕ → ℕ
closes_behind fs field.Count part = if nat_lt 0 (from_be_bytes w32 part) then 0 else suc (closes fs)
closes_behind fs (field.FileLength exec) part = if from_be_bytes w64 part == 0 then closes fs else 0
closes_behind fs (field.Contents size taken) part = closes fs
closes_behind fs (field.Target size) part = closes fs
closes_behind fs f part = 0

-- how long the name before the next one is, where it is kept
abbrev pub length_before : NextField → ℕ
length_before (field.NameLength left last) = length (unwrap_or last [])
length_before (field.Name left last size) = length (unwrap_or last [])
length_before f = 0

-- how many bytes a scanner keeps: those of the names of the open folders, of the name before the next one, and of the
-- field that has begun
abbrev pub bytes_held : Scanner → ℕ
bytes_held s = sum (map (λ f. length f.name) s.folders.items) + length_before s.next + length s.part.items

-- how many bytes of a field are kept before it is whole, at most: none of a file's contents
abbrev pub kept_width : NextField → ℕ
kept_width (field.Contents size taken) = 0
kept_width f = field_width f

-- the most that this may be
abbrev pub most_kept : NextField → ℕ
most_kept (field.Name left last size) = 255
most_kept (field.Target size) = 4096
most_kept f = kept_width f

-- how many folders may be open there: one more before a tag, which may break the rule of depth
abbrev pub most_open : NextField → ℕ
most_open field.Tag = 65
most_open f = 64

-- what is kept at a place is within the rules of depth, names and targets
pub record IsSmallPlace (p : Place) : Type 0 where
  pub depth : length p.folders ≤ most_open p.next
  pub names : All (λ f. length f.name ≤ 255) p.folders
  pub before : length_before p.next ≤ 255
  pub width : kept_width p.next ≤ most_kept p.next

-- and so is what a scanner keeps
pub record IsSmall (s : Scanner) : Type 0 where
  pub place : IsSmallPlace (place (reverse s.folders.items) s.next)
  pub part : length s.part.items ≤ kept_width s.next

-- the place of a cut tree, at the first byte of its next field
abbrev pub place_of : CutTree → Place
place_of c = place (map scanned_folder c.folders) (next_field c.hole 0)

-- a scanner has come to a cut tree, behind so many bytes, and to a part of its next field
pub record HasReached (s : Scanner) (count : ℕ) (c : CutTree) (read : List ℕ) : Type 0 where
  pub at : s.at ≡ count
  pub folders : reverse s.folders.items ≡ map scanned_folder c.folders
  pub next : s.next ≡ next_field c.hole (length read)
  pub part : s.part.items ≡ kept_part c.hole read
  pub partial : length read < width c.hole

-- the same of a state that goes on
abbrev pub IsAt : Scanner → State → Type 0
IsAt s (Stuck at reason) = ⊥
IsAt s (Going at c part) = HasReached s at c part
