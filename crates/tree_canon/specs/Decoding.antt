-- What a decoder holds, which private calls and the decoder's model alone speak of.
use Rattle.std.specs.Prelude.{◌≡◌, ◌<◌, ℕ, ◌++◌, List, reverse, Option, None, Some, Ok, Err}
use Rattle.tree_canon.specs.declared.fault.DecodeFault.{DecodeFault}
use Rattle.tree_canon.specs.declared.next_field.NextField.{NextField}
use Rattle.tree_canon.specs.declared.next_field.NextField.TheVariants as field
use Rattle.tree_canon.specs.declared.scanner.Scanner.{Scanner}
use Rattle.tree_canon.specs.declared.building.Building.{Building}
use Rattle.tree_canon.specs.declared.building.Current.{Current}
use Rattle.tree_canon.specs.declared.building.Current.TheVariants as current
use Rattle.tree_canon.specs.CutTree.{Hole, Magic, Tag, Count, NameLength, Name, Executable, FileLength, Contents}
use Rattle.tree_canon.specs.CutTree.{TargetLength, Target, End, CutTree, cut_bytes}
use Rattle.tree_canon.specs.Reading.{cut_at}
use Rattle.tree_canon.specs.Feeding.{Fed}
use Rattle.tree_canon.specs.Scanning.{bytes_taken, field_width, IsSmall}
use Rattle.tree_canon.specs.Events.{Told}
use Rattle.tree_canon.specs.Telling.{HasTold}
use Rattle.tree_canon.specs.Making.{Made, made_at, made_none, made_from}

-- what a building holds
abbrev pub made : Building → Made
made b = made_at (reverse b.folders.items) b.current

-- the hole at the field that comes next, with what there is of its node
abbrev pub hole_of : NextField → Current → Hole
hole_of (field.Magic k) u = Magic k
hole_of field.Tag u = Tag
hole_of field.Count u = Count
hole_of (field.NameLength left last) (current.Folder count before) = NameLength count before
hole_of (field.Name left last size) (current.Folder count before) = Name count before size
hole_of field.Executable u = Executable
hole_of (field.FileLength exec) u = FileLength exec
hole_of (field.Contents size taken) (current.File exec all bytes) = Contents exec size
hole_of field.TargetLength u = TargetLength
hole_of (field.Target size) u = Target size
hole_of field.End (current.Whole root) = End root
hole_of f u = Tag

-- the bytes of that field that were read
abbrev pub part_of : Current → List ℕ → List ℕ
part_of (current.File exec size bytes) part = bytes
part_of u part = part

-- the cut tree that a decoder has come to
abbrev pub cut_of : Scanner → Building → CutTree
cut_of s b = cut_at (reverse b.folders.items) (hole_of s.next b.current)

-- the bytes that it has read
abbrev pub bytes_read : Scanner → Building → List ℕ
bytes_read s b = cut_bytes (cut_of s b) ++ part_of b.current s.part.items

-- the tree is made of what the scanner has told of these bytes
pub record HasMade (s : Scanner) (b : Building) (bytes : List ℕ) : Type 0 where
  pub given : List Told
  pub told : HasTold s bytes given
  pub is : made b ≡ made_from made_none given

-- scanners that differ at most by the ends of folders that they owe
pub record HasSamePlace (s t : Scanner) : Type 0 where
  pub at : t.at ≡ s.at
  pub folders : t.folders ≡ s.folders
  pub next : t.next ≡ s.next
  pub part : t.part ≡ s.part

-- between two pieces nothing that the bytes tell is left
pub record IsBetween (s : Scanner) (b : Building) : Type 0 where
  pub partial : bytes_taken s.next s.part.items < field_width s.next
  pub small : IsSmall s
  pub owed : s.owed ≡ 0
  pub made : HasMade s b (bytes_read s b)

-- what contracts see of a decoder
abbrev pub fed_by : Scanner → Building → Option DecodeFault → Fed
fed_by s b None = Ok (bytes_read s b)
fed_by s b (Some fault) = Err fault

abbrev pub IsDecoding : Scanner → Building → Option DecodeFault → Type 0
IsDecoding s b None = IsBetween s b
IsDecoding s b (Some fault) = Unit {0}
