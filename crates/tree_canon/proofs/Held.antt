-- What a scanner keeps stays within the rules of depth, names and targets, and so do its bytes.
use Rattle.std.proofs.Common.{◌≡◌, ℕ, ◌+◌, ◌*◌, ◌-◌, ◌<◌, ◌≤◌, ◌∙◌, List, [], ◌∷◌, length, map, reverse, arith, refl}
use Rattle.std.proofs.Common.{sym, ap, subst, Some, None, Bool, true, false, if◌then◌else◌, ◌&&◌}
use Rattle.std.specs.Prelude.{nat_lt, nat_le, ◌==◌, sum, All}
use Rattle.std.specs.List.{sum_by}
use Rattle.std.specs.Int.{from_be_bytes, w16, w32, w64}
use Rattle.std.proofs.lemmas.Bool.{leb-true, and_parts}
use Rattle.std.proofs.lemmas.List.{length-reverse}
use Rattle.std.proofs.lemmas.List.Elements.{All-cons, All-head, All-tail}
use Rattle.std.proofs.lemmas.List.Sorted.{sum_by-IsPermutation, IsPermutation-reverse}
use Rattle.std.proofs.lemmas.List.Sums.{sum-map, sum_by-le}
use Rattle.tree_canon.specs.declared.fault.Reason.TheVariants as reasons
use Rattle.tree_canon.specs.declared.next_field.ScannedFolder.{ScannedFolder}
use Rattle.tree_canon.specs.declared.next_field.NextField.{NextField}
use Rattle.tree_canon.specs.declared.next_field.NextField.TheVariants as field
use Rattle.tree_canon.specs.declared.scanner.Scanner.{Scanner}
use Rattle.tree_canon.specs.Rules.{unless, either_reason, large_past, first_byte}
use Rattle.tree_canon.specs.Scanning.{field_width, bytes_taken, IsWholeField, with_bytes, reason_at, Place, place}
use Rattle.tree_canon.specs.Scanning.{behind_node, behind, length_before, bytes_held, kept_width, most_kept, most_open}
use Rattle.tree_canon.specs.Scanning.{IsSmallPlace, IsSmall}
use Rattle.tree_canon.proofs.Keeps.{first_parts, ok_true}
use Rattle.tree_canon.proofs.Scans.{HasTaken}

-- ---- the place behind a field

-- a length that meets its rule
length_most : (end most size : ℕ) → either_reason (large_past end)
    (unless (nat_lt 0 size && nat_le size most) reasons.Name) ≡ None → size ≤ most
length_most end most size h = leb-true size most
    (and_parts (nat_lt 0 size) (nat_le size most) (ok_true _ reasons.Name (first_parts (large_past end) _ h).1)).1

small_either : (b : Bool) (x y : Place) → (b ≡ true → IsSmallPlace x) → (b ≡ false → IsSmallPlace y)
    → IsSmallPlace (if b then x else y)
small_either true x y f g = f refl
small_either false x y f g = g refl

small_node : (fs : List ScannedFolder) → length fs ≤ 65 → All (λ f. length f.name ≤ 255) fs
    → IsSmallPlace (behind_node fs)
small_node [] few names = record { depth = omega arith; names = names; before = omega arith; width = omega arith }
small_node (f ∷ fs) few names =
    let rest : All (λ f. length f.name ≤ 255) fs = All-tail (λ f. length f.name ≤ 255) f fs names in
    small_either (nat_lt 0 f.left) (place fs (field.NameLength (f.left - 1) (Some f.name))) (behind_node fs)
    (λ e. record {
      depth = omega (arith, few);
      names = rest;
      before = All-head
          (λ f. length f.name ≤ 255) f fs names;
      width = omega arith;
    })
    (λ e. small_node fs (omega (arith, few)) rest)

small_behind : (depth at : ℕ) (fs : List ScannedFolder) (f : NextField) (part : List ℕ) → depth ≡ length fs
    → IsSmallPlace (place fs f) → IsWholeField f part → reason_at depth at f part ≡ None
    → IsSmallPlace (behind fs f part)
small_behind depth at fs (field.Magic k) part deep h whole meets =
    small_either (nat_lt k 4) (place fs (field.Magic (k + 1))) (place fs field.Tag)
    (λ e. record { depth = h.depth; names = h.names; before = h.before; width = h.width })
    (λ e. record { depth = omega (arith, h.depth); names = h.names; before = h.before; width = h.width })
small_behind depth at fs field.Tag part deep h whole meets =
    let own = (first_parts (large_past (at + 1)) _ meets).1 in
    let few : depth ≤ 64 = leb-true depth 64 (ok_true (nat_le depth 64) reasons.Deep (first_parts _ _ own).0) in
    small_either (first_byte part == 68) (place fs field.Count)
    (if first_byte part == 70 then place fs field.Executable else place fs field.TargetLength)
    (λ e. record { depth = omega (arith, few, deep); names = h.names; before = omega arith; width = omega arith })
    (λ e. small_either (first_byte part == 70) (place fs field.Executable) (place fs field.TargetLength)
    (λ d. record { depth = omega (arith, few, deep); names = h.names; before = omega arith; width = omega arith })
    (λ d. record { depth = omega (arith, few, deep); names = h.names; before = omega arith; width = omega arith }))
small_behind depth at fs field.Count part deep h whole meets =
    small_either (nat_lt 0 (from_be_bytes w32 part))
    (place fs (field.NameLength (from_be_bytes w32 part - 1) None)) (behind_node fs)
    (λ e. record { depth = h.depth; names = h.names; before = omega arith; width = omega arith })
    (λ e. small_node fs (omega (arith, h.depth)) h.names)
small_behind depth at fs (field.NameLength left last) part deep h whole meets =
    record {
      depth = h.depth;
      names = h.names;
      before = h.before;
      width = length_most
          (at + 2 + from_be_bytes w16 part) 255 (from_be_bytes w16 part)
          (first_parts (large_past (at + 2)) _ meets).1;
    }
small_behind depth at fs (field.Name left last size) part deep h whole meets =
    record {
      depth = omega (arith, h.depth);
      names = All-cons (λ f. length f.name ≤ 255)
          (record { left = left; name = part }) fs (omega (arith, whole, h.width)) h.names;
      before = omega arith;
      width = omega arith;
    }
small_behind depth at fs field.Executable part deep h whole meets = record
    { depth = h.depth; names = h.names; before = omega arith; width = omega arith }
small_behind depth at fs (field.FileLength exec) part deep h whole meets =
    small_either (from_be_bytes w64 part == 0) (behind_node fs) (place fs (field.Contents (from_be_bytes w64 part) 0))
    (λ e. small_node fs (omega (arith, h.depth)) h.names)
    (λ e. record { depth = h.depth; names = h.names; before = omega arith; width = omega arith })
small_behind depth at fs (field.Contents size taken) part deep h whole meets = small_node fs
    (omega (arith, h.depth)) h.names
small_behind depth at fs field.TargetLength part deep h whole meets =
    record {
      depth = h.depth;
      names = h.names;
      before = omega arith;
      width = length_most
          (at + 2 + from_be_bytes w16 part) 4096 (from_be_bytes w16 part)
          (first_parts (large_past (at + 2)) _ meets).1;
    }
small_behind depth at fs (field.Target size) part deep h whole meets = small_node fs (omega (arith, h.depth)) h.names
small_behind depth at fs field.End part deep h whole meets = h

-- behind a field that meets its rules
pub small_moved : (depth at : ℕ) (fs us : List ScannedFolder) (f next : NextField) (part : List ℕ)
    → depth ≡ length fs → IsSmallPlace (place (reverse fs) f) → IsWholeField f part
    → reason_at depth at f part ≡ None
    → place us next ≡ behind (reverse fs) f part → IsSmallPlace (place us next)
small_moved depth at fs us f next part deep h whole meets is = subst IsSmallPlace (sym is)
    (small_behind depth at (reverse fs) f part (deep ∙ sym (length-reverse fs)) h whole meets)

-- ---- bytes of the next field

small_with : (fs : List ScannedFolder) (f : NextField) (part bytes : List ℕ) → IsSmallPlace (place fs f)
    → IsSmallPlace (place fs (with_bytes f part bytes).0)
small_with fs (field.Contents size taken) part bytes h = record
    { depth = h.depth; names = h.names; before = h.before; width = h.width }
small_with fs f part bytes h = h

kept_with : (f : NextField) (part bytes : List ℕ) → length part ≤ kept_width f
    → bytes_taken (with_bytes f part bytes).0 (with_bytes f part bytes).1
    ≤ field_width (with_bytes f part bytes).0
    → length (with_bytes f part bytes).1 ≤ kept_width (with_bytes f part bytes).0
kept_with (field.Contents size taken) part bytes h le = h
kept_with f part bytes h le = le

pub small_taken : (old new : Scanner) (bytes : List ℕ) → IsSmall old → HasTaken old new bytes
    → bytes_taken new.next new.part.items ≤ field_width new.next → IsSmall new
small_taken old new bytes h t le =
    let le_with : bytes_taken (with_bytes old.next old.part.items bytes).0
    (with_bytes old.next old.part.items bytes).1 ≤ field_width (with_bytes old.next old.part.items bytes).0
    = subst (λ (l : List ℕ). bytes_taken (with_bytes old.next old.part.items bytes).0 l
    ≤ field_width (with_bytes old.next old.part.items bytes).0) t.part
    (subst (λ (f : NextField). bytes_taken f new.part.items ≤ field_width f) t.next le) in
    let kept = kept_with old.next old.part.items bytes h.part le_with in
    record {
      place = subst (λ (f : NextField). IsSmallPlace (place (reverse new.folders.items) f)) (sym t.next)
          (subst (λ (fs : List ScannedFolder). IsSmallPlace
          (place fs (with_bytes old.next old.part.items bytes).0)) (sym (ap (λ v. reverse v.items) t.folders))
          (small_with (reverse old.folders.items) old.next old.part.items bytes h.place));
      part = omega (arith, kept, ap length t.part, ap kept_width t.next);
    }

-- ---- the number of bytes

few_at : (f : NextField) (part : List ℕ) (count total : ℕ) → total ≤ count * 255 → count ≤ most_open f
    → length_before f ≤ 255 → kept_width f ≤ most_kept f → length part ≤ kept_width f
    → bytes_taken f part < field_width f
    → total + length_before f + length part ≤ 20415
few_at (field.Magic k) part count total names depth before width kept partial = omega arith
few_at field.Tag part count total names depth before width kept partial = omega arith
few_at field.Count part count total names depth before width kept partial = omega arith
few_at (field.NameLength left last) part count total names depth before width kept partial = omega arith
few_at (field.Name left last size) part count total names depth before width kept partial = omega arith
few_at field.Executable part count total names depth before width kept partial = omega arith
few_at (field.FileLength exec) part count total names depth before width kept partial = omega arith
few_at (field.Contents size taken) part count total names depth before width kept partial = omega arith
few_at field.TargetLength part count total names depth before width kept partial = omega arith
few_at (field.Target size) part count total names depth before width kept partial = omega arith
few_at field.End part count total names depth before width kept partial = omega arith

pub few_held : (s : Scanner) → IsSmall s → bytes_taken s.next s.part.items < field_width s.next → bytes_held s ≤ 20415
few_held s h partial =
    let items = s.folders.items in
    let size : ScannedFolder → ℕ = λ f. length f.name in
    let same : sum (map size items) ≡ sum_by size (reverse items) = sum-map size items
    ∙ sym (sum_by-IsPermutation size items (reverse items) (IsPermutation-reverse items)) in
    let names : sum (map size items) ≤ length (reverse items) * 255 = omega
    (arith, same, sum_by-le size 255 (reverse items) h.place.names) in
    few_at s.next s.part.items (length (reverse items)) (sum (map size items)) names h.place.depth h.place.before
    h.place.width h.part partial
