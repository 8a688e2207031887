-- The rules of fields: the reason that a whole field gives for its bytes to be no spelling.
use Rattle.std.specs.Prelude.{ℕ, Bool, true, false, ◌&&◌, ◌||◌, ◌==◌, ◌+◌, List, [], ◌∷◌, slice_index, nat_lt, nat_le}
use Rattle.std.specs.Prelude.{Option, None, Some}
use Rattle.std.specs.Int.{from_be_bytes, w16, w64}
use Rattle.tree_canon.specs.declared.fault.Reason.{Reason}
use Rattle.tree_canon.specs.declared.fault.Reason.TheVariants as reasons
use Rattle.tree_canon.specs.Spelling.{limit, magic}
use Rattle.tree_canon.specs.Names.{is_name, is_target, follows}
use Rattle.tree_canon.specs.CutTree.{Hole, Magic, Tag, Count, NameLength, Name, Executable, FileLength, Contents}
use Rattle.tree_canon.specs.CutTree.{TargetLength, Target, End, width, last_name}

-- this reason, unless the test passed
abbrev pub unless : Bool → Reason → Option Reason
unless true r = None
unless false r = Some r

-- the first reason, or else the second
abbrev pub either_reason : Option Reason → Option Reason → Option Reason
either_reason None o = o
either_reason (Some r) o = Some r

-- Large, where bytes would stand past the most that a spelling has
abbrev pub large_past : ℕ → Option Reason
large_past end = unless (nat_le end limit) reasons.Large

-- the first byte of a field
abbrev pub first_byte : List ℕ → ℕ
first_byte [] = 0
first_byte (x ∷ xs) = x

abbrev pub is_tag : ℕ → Bool
is_tag b = b == 68 || b == 70 || b == 76

-- the rules of a length of two bytes, before this place, of a text that has at most so many bytes
abbrev pub length_reason : ℕ → ℕ → List ℕ → Option Reason
length_reason end most field = either_reason (large_past (end + from_be_bytes w16 field))
    (unless (nat_lt 0 (from_be_bytes w16 field) && nat_le (from_be_bytes w16 field) most) reasons.Name)

-- what a field breaks beside its own length, in so many open folders and behind so many bytes
abbrev pub own_reason : ℕ → ℕ → Hole → List ℕ → Option Reason
own_reason depth at (Magic k) field = unless (first_byte field == slice_index magic k) reasons.Magic
own_reason depth at Tag field = either_reason (unless (nat_le depth 64) reasons.Deep)
    (unless (is_tag (first_byte field)) reasons.Tag)
own_reason depth at Count field = None
own_reason depth at (NameLength count before) field = length_reason (at + 2) 255 field
own_reason depth at (Name count before size) field = either_reason (unless (is_name field) reasons.Name)
    (unless (follows (last_name before) field) reasons.Order)
own_reason depth at Executable field = unless (first_byte field == 0 || first_byte field == 1) reasons.Exec
own_reason depth at (FileLength exec) field = large_past (at + 8 + from_be_bytes w64 field)
own_reason depth at (Contents exec size) field = None
own_reason depth at TargetLength field = length_reason (at + 2) 4096 field
own_reason depth at (Target size) field = unless (is_target field) reasons.Name
own_reason depth at (End node) field = Some reasons.Rest

-- the first reason that a whole field gives, in so many open folders and behind so many bytes
abbrev pub reason_of : ℕ → ℕ → Hole → List ℕ → Option Reason
reason_of depth at hole field = either_reason (large_past (at + width hole)) (own_reason depth at hole field)
