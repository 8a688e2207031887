-- A scanner beside the machine that keeps the whole tree: what it keeps is what the machine's state determines.
use Rattle.std.proofs.Common.{◌≡◌, ℕ, ◌+◌, ◌-◌, ◌<◌, ◌∙◌, List, [], ◌∷◌, ◌++◌, length, map, reverse, length-append}
use Rattle.std.proofs.Common.{arith, refl, sym, ap, subst, Some, None, Bool, true, false, if◌then◌else◌}
use Rattle.std.specs.Prelude.{nat_lt, ◌==◌}
use Rattle.std.specs.Int.{from_be_bytes, w16, w32, w64}
use Rattle.std.proofs.lemmas.Bool.{eqb-false}
use Rattle.std.proofs.lemmas.List.{append-nil, length-map, length-reverse}
use Rattle.std.proofs.lemmas.Bool.Decides.{nat_tests}
use Rattle.tree_canon.specs.declared.node.Node.{Node}
use Rattle.tree_canon.specs.declared.node.Node.TheVariants.{Folder, File, Link}
use Rattle.tree_canon.specs.declared.fault.Reason.{Reason}
use Rattle.tree_canon.specs.declared.fault.Reason.TheVariants as reasons
use Rattle.tree_canon.specs.declared.next_field.ScannedFolder.{ScannedFolder}
use Rattle.tree_canon.specs.declared.next_field.NextField.{NextField}
use Rattle.tree_canon.specs.declared.next_field.NextField.TheVariants as field
use Rattle.tree_canon.specs.declared.scanner.Scanner.{Scanner}
use Rattle.tree_canon.specs.CutTree.{OpenFolder, Hole, Magic, Tag, Count, NameLength, Name, Executable, FileLength}
use Rattle.tree_canon.specs.CutTree.{Contents, TargetLength, Target, End, CutTree, width, last_name}
use Rattle.tree_canon.specs.Rules.{reason_of, large_past, first_byte}
use Rattle.tree_canon.specs.Reading.{entry, cut_at, filled, opened, after_tag, after, State, Stuck, Going, moved, run}
use Rattle.tree_canon.specs.Scanning.{scanned_folder, next_field, kept_part, field_width, bytes_taken, with_bytes}
use Rattle.tree_canon.specs.Scanning.{Taken, reason_at, Place, place, behind_node, behind_tag, behind_count}
use Rattle.tree_canon.specs.Scanning.{behind_file_length, behind, place_of, HasReached, IsAt}
use Rattle.tree_canon.proofs.LastNames.{last_from-push}
use Rattle.tree_canon.proofs.Reach.{is_whole, run-append}
use Rattle.tree_canon.proofs.CutMoves.{part_kept, stuck_stays}
use Rattle.tree_canon.proofs.CutEvents.{IsFieldOf}
use Rattle.tree_canon.proofs.Chunks.{len_some, none_parts, positive, some_after, over_field}

-- ---- what is kept, hole by hole

pub taken_same : (hole : Hole) (part : List ℕ) → bytes_taken (next_field hole (length part)) (kept_part hole part)
    ≡ length part
taken_same (Contents exec size) part = refl
taken_same hole part = refl

pub width_same : (hole : Hole) (n : ℕ) → field_width (next_field hole n) ≡ width hole
width_same (Contents exec size) n = refl
width_same hole n = refl

pub reason_same : (depth at : ℕ) (hole : Hole) (n : ℕ) (part : List ℕ)
    → reason_at depth at (next_field hole n) (kept_part hole part) ≡ reason_of depth at hole part
reason_same depth at (Contents exec size) n part = refl
reason_same depth at hole n part = refl

pub more_same : (hole : Hole) (part bytes : List ℕ) → with_bytes (next_field hole (length part))
    (kept_part hole part) bytes ≡ (next_field hole (length (part ++ bytes)), kept_part hole (part ++ bytes))
more_same (Contents exec size) part bytes = ap (λ n. (field.Contents size n, [])) (sym (length-append part bytes))
more_same hole part bytes = refl

pub none_kept : (hole : Hole) → kept_part hole [] ≡ []
none_kept (Contents exec size) = refl
none_kept hole = refl

-- ---- the place behind a field

choose : (b : Bool) (x y : CutTree) → place_of (if b then x else y) ≡ (if b then place_of x else place_of y)
choose true x y = refl
choose false x y = refl

more_left : (n count : ℕ) → nat_lt (n + 1) count ≡ nat_lt 0 (count - (n + 1))
more_left n count = grind (arith, nat_tests)

one_name : (fs : List OpenFolder) (f : OpenFolder) (node : Node)
    → place_of (cut_at fs (NameLength f.count (f.before ++ entry f.name node ∷ [])))
    ≡ place (map scanned_folder fs) (field.NameLength ((scanned_folder f).left - 1) (Some f.name))
one_name fs f node =
    let n : f.count - (length (f.before ++ entry f.name node ∷ []) + 1)
    ≡ f.count - (length f.before + 1) - 1 = omega (arith, length-append f.before (entry f.name node ∷ [])) in
    ap (λ k. place (map scanned_folder fs) (field.NameLength k (last_name (f.before ++ entry f.name node ∷ [])))) n
    ∙ ap (λ last. place (map scanned_folder fs) (field.NameLength (f.count - (length f.before + 1) - 1) last))
    (last_from-push None f.before (entry f.name node))

pub place_filled : (fs : List OpenFolder) (node : Node)
    → place_of (filled fs node) ≡ behind_node (map scanned_folder fs)
place_filled [] node = refl
place_filled (f ∷ fs) node =
    let goes_on : CutTree = cut_at fs (NameLength f.count (f.before ++ entry f.name node ∷ [])) in
    let ends : CutTree = filled fs (Folder (f.before ++ entry f.name node ∷ [])) in
    let test : nat_lt (length (f.before ++ entry f.name node ∷ [])) f.count
    ≡ nat_lt 0 (f.count - (length f.before + 1)) =
    ap (λ n. nat_lt n f.count) (length-append f.before (entry f.name node ∷ []))
    ∙ more_left (length f.before) f.count in
    choose (nat_lt (length (f.before ++ entry f.name node ∷ [])) f.count) goes_on ends
    ∙ ap (λ b. if b then place_of goes_on else place_of ends) test
    ∙ ap (λ x. if nat_lt 0 (f.count - (length f.before + 1)) then x else place_of ends) (one_name fs f node)
    ∙ ap (λ x. if nat_lt 0 (f.count - (length f.before + 1)) then place (map scanned_folder fs)
    (field.NameLength (f.count - (length f.before + 1) - 1) (Some f.name)) else x)
    (place_filled fs (Folder (f.before ++ entry f.name node ∷ [])))

place_opened : (fs : List OpenFolder) (count : ℕ) → place_of (opened fs count [])
    ≡ behind_count (map scanned_folder fs) count
place_opened fs count =
    choose (nat_lt 0 count) (cut_at fs (NameLength count [])) (filled fs (Folder []))
    ∙ ap (λ x. if nat_lt 0 count then place_of (cut_at fs (NameLength count [])) else x) (place_filled fs (Folder []))

place_tag : (fs : List OpenFolder) (tag : ℕ) → place_of (after_tag fs tag) ≡ behind_tag (map scanned_folder fs) tag
place_tag fs tag =
    choose (tag == 68) (cut_at fs Count) (if tag == 70 then cut_at fs Executable else cut_at fs TargetLength)
    ∙ ap (λ x. if tag == 68 then place_of (cut_at fs Count) else x)
    (choose (tag == 70) (cut_at fs Executable) (cut_at fs TargetLength))

place_length : (fs : List OpenFolder) (exec : Bool) (size : ℕ)
    → place_of (if size == 0 then filled fs (File exec []) else cut_at fs (Contents exec size))
    ≡ behind_file_length (map scanned_folder fs) size
place_length fs exec size =
    choose (size == 0) (filled fs (File exec [])) (cut_at fs (Contents exec size))
    ∙ ap (λ x. if size == 0 then x else place_of (cut_at fs (Contents exec size))) (place_filled fs (File exec []))

pub place_after : (fs : List OpenFolder) (hole : Hole) (n : ℕ) (part : List ℕ)
    → place_of (after fs hole part) ≡ behind (map scanned_folder fs) (next_field hole n) (kept_part hole part)
place_after fs (Magic k) n part = choose (nat_lt k 4) (cut_at fs (Magic (k + 1))) (cut_at fs Tag)
place_after fs Tag n part = place_tag fs (first_byte part)
place_after fs Count n part = place_opened fs (from_be_bytes w32 part)
place_after fs (NameLength count before) n part = refl
place_after fs (Name count before size) n part = refl
place_after fs Executable n part = refl
place_after fs (FileLength exec) n part = place_length fs exec (from_be_bytes w64 part)
place_after fs (Contents exec size) n part = place_filled fs (File exec part)
place_after fs TargetLength n part = refl
place_after fs (Target size) n part = place_filled fs (Link part)
place_after fs (End node) n part = refl

-- ---- the next field has a byte that was not read

abbrev IsFresh : Place → Type 0
IsFresh p = bytes_taken p.next [] < field_width p.next

fresh_either : (b : Bool) (x y : Place) → (b ≡ true → IsFresh x) → (b ≡ false → IsFresh y)
    → IsFresh (if b then x else y)
fresh_either true x y f g = f refl
fresh_either false x y f g = g refl

fresh_node : (fs : List ScannedFolder) → IsFresh (behind_node fs)
fresh_node [] = omega arith
fresh_node (f ∷ fs) = fresh_either (nat_lt 0 f.left) (place fs (field.NameLength (f.left - 1) (Some f.name)))
    (behind_node fs) (λ e. omega arith) (λ e. fresh_node fs)

fresh_behind : (depth at : ℕ) (fs : List ScannedFolder) (f : NextField) (part : List ℕ)
    → reason_at depth at f part ≡ None → IsFresh (behind fs f part)
fresh_behind depth at fs (field.Magic k) part h = fresh_either (nat_lt k 4) (place fs (field.Magic (k + 1)))
    (place fs field.Tag) (λ e. omega arith) (λ e. omega arith)
fresh_behind depth at fs field.Tag part h =
    fresh_either (first_byte part == 68) (place fs field.Count)
    (if first_byte part == 70 then place fs field.Executable else place fs field.TargetLength)
    (λ e. omega arith)
    (λ e. fresh_either (first_byte part == 70) (place fs field.Executable) (place fs field.TargetLength)
    (λ d. omega arith) (λ d. omega arith))
fresh_behind depth at fs field.Count part h =
    fresh_either (nat_lt 0 (from_be_bytes w32 part))
    (place fs (field.NameLength (from_be_bytes w32 part - 1) None)) (behind_node fs) (λ e. omega arith)
    (λ e. fresh_node fs)
fresh_behind depth at fs (field.NameLength left last) part h = len_some
    (at + 2 + from_be_bytes w16 part) 255 part reasons.Name (none_parts (large_past (at + 2)) _ h)
fresh_behind depth at fs (field.Name left last size) part h = omega arith
fresh_behind depth at fs field.Executable part h = omega arith
fresh_behind depth at fs (field.FileLength exec) part h =
    fresh_either (from_be_bytes w64 part == 0) (behind_node fs)
    (place fs (field.Contents (from_be_bytes w64 part) 0)) (λ e. fresh_node fs)
    (λ e. let no : from_be_bytes w64 part ≡ 0 → ⊥ = eqb-false (from_be_bytes w64 part) 0 e
    in positive (from_be_bytes w64 part) no)
fresh_behind depth at fs (field.Contents size taken) part h = fresh_node fs
fresh_behind depth at fs field.TargetLength part h = len_some
    (at + 2 + from_be_bytes w16 part) 4096 part reasons.Name (none_parts (large_past (at + 2)) _ h)
fresh_behind depth at fs (field.Target size) part h = fresh_node fs
fresh_behind depth at fs field.End part h = omega arith

-- behind a field that meets its rules
pub fresh_part : (depth at : ℕ) (fs us : List ScannedFolder) (f next : NextField) (part now : List ℕ)
    → reason_at depth at f part ≡ None → place us next ≡ behind fs f part → now ≡ []
    → bytes_taken next now < field_width next
fresh_part depth at fs us f next part now h is empty =
    subst (λ (l : List ℕ). bytes_taken next l < field_width next) (sym empty)
    (subst (λ (p : Place). IsFresh p) (sym is) (fresh_behind depth at fs f part h))

-- ---- a scanner and a state

-- a scanner that took bytes of its next field
pub record HasTaken (old new : Scanner) (bytes : List ℕ) : Type 0 where
  pub at : new.at ≡ old.at
  pub folders : new.folders ≡ old.folders
  pub next : new.next ≡ (with_bytes old.next old.part.items bytes).0
  pub part : new.part.items ≡ (with_bytes old.next old.part.items bytes).1

more_bytes : (f : NextField) (part bytes : List ℕ) → bytes_taken (with_bytes f part bytes).0
    (with_bytes f part bytes).1 ≡ bytes_taken f part + length bytes
more_bytes (field.Contents size taken) part bytes = refl
more_bytes f part bytes = length-append part bytes

same_width : (f : NextField) (part bytes : List ℕ) → field_width (with_bytes f part bytes).0 ≡ field_width f
same_width (field.Contents size taken) part bytes = refl
same_width f part bytes = refl

pub more_taken : (old new : Scanner) (bytes : List ℕ) → HasTaken old new bytes
    → bytes_taken new.next new.part.items ≡ bytes_taken old.next old.part.items + length bytes
more_taken old new bytes t = ap (λ f. bytes_taken f new.part.items) t.next
    ∙ ap (bytes_taken (with_bytes old.next old.part.items bytes).0) t.part
    ∙ more_bytes old.next old.part.items bytes

pub more_width : (old new : Scanner) (bytes : List ℕ) → HasTaken old new bytes
    → field_width new.next ≡ field_width old.next
more_width old new bytes t = ap field_width t.next ∙ same_width old.next old.part.items bytes

took : (old new : Scanner) (at : ℕ) (c : CutTree) (part bytes : List ℕ) → HasReached old at c part
    → HasTaken old new bytes
    → (new.next ≡ next_field c.hole (length (part ++ bytes))) × (new.part.items ≡ kept_part c.hole (part ++ bytes))
took old new at c part bytes h t =
    let both : with_bytes old.next old.part.items bytes
    ≡ (next_field c.hole (length (part ++ bytes)), kept_part c.hole (part ++ bytes))
    = ap (λ f. with_bytes f old.part.items bytes) h.next ∙ ap
    (λ p. with_bytes (next_field c.hole (length part)) p bytes) h.part ∙ more_same c.hole part bytes in
    (t.next ∙ ap (λ (x : Taken). x.0) both, t.part ∙ ap (λ (x : Taken). x.1) both)

pub taken_of : (s : Scanner) (hole : Hole) (read : List ℕ) → s.next ≡ next_field hole (length read)
    → s.part.items ≡ kept_part hole read → bytes_taken s.next s.part.items ≡ length read
taken_of s hole read next part = ap (λ f. bytes_taken f s.part.items) next
    ∙ ap (bytes_taken (next_field hole (length read))) part ∙ taken_same hole read

-- a part of the next field was taken, with which it is not whole
pub part_reached : (old new : Scanner) (at : ℕ) (c : CutTree) (part bytes : List ℕ) → HasReached old at c part
    → HasTaken old new bytes → bytes_taken new.next new.part.items < field_width new.next
    → HasReached new at c (part ++ bytes)
part_reached old new at c part bytes h t lt =
    let both = took old new at c part bytes h t in
    let taken = taken_of new c.hole (part ++ bytes) both.0 both.1 in
    let wide : field_width new.next ≡ width c.hole = ap field_width both.0
    ∙ width_same c.hole (length (part ++ bytes)) in
    record {
      at = t.at ∙ h.at;
      folders = ap (λ v. reverse v.items) t.folders ∙ h.folders;
      next = both.0;
      part = both.1;
      partial = omega arith;
    }

pub part_taken : (old new : Scanner) (bytes : List ℕ) (state : State) → IsAt old state → HasTaken old new bytes
    → bytes_taken new.next new.part.items < field_width new.next → IsAt new (run state bytes)
part_taken old new bytes (Stuck at r) h t lt = absurd h
part_taken old new bytes (Going at c part) h t lt =
    let reached = part_reached old new at c part bytes h t lt in
    subst (IsAt new) (sym (part_kept at c part bytes reached.partial)) reached

-- ---- a whole field

-- a scanner before a field, which is whole with these bytes
pub record IsAtField (s : Scanner) (at : ℕ) (c : CutTree) (part bytes field : List ℕ) : Type 0 where
  pub count : ℕ
  pub place : s.at ≡ at
  pub folders : reverse s.folders.items ≡ map scanned_folder c.folders
  pub next : s.next ≡ next_field c.hole count
  pub by : IsFieldOf c.hole part bytes field
  pub whole : length (part ++ bytes) ≡ width c.hole
  pub partial : length part < width c.hole

-- a scanner that moved behind it
pub record HasMoved (old new : Scanner) (field : List ℕ) : Type 0 where
  pub meets : reason_at (length old.folders.items) old.at old.next field ≡ None
  pub at : new.at ≡ old.at + field_width old.next
  pub place : place (reverse new.folders.items) new.next ≡ behind (reverse old.folders.items) old.next field
  pub empty : new.part.items ≡ []

reason_whole : (depth at : ℕ) (hole : Hole) (n : ℕ) (part bytes field : List ℕ) → IsFieldOf hole part bytes field
    → reason_at depth at (next_field hole n) field ≡ reason_of depth at hole (part ++ bytes)
reason_whole depth at (Contents exec size) n part bytes field is = refl
reason_whole depth at hole n part bytes field is = ap (λ x. reason_of depth at hole x) is

place_whole : (fs : List OpenFolder) (hole : Hole) (n : ℕ) (part bytes field : List ℕ)
    → IsFieldOf hole part bytes field → behind (map scanned_folder fs) (next_field hole n) field
    ≡ place_of (after fs hole (part ++ bytes))
place_whole fs (Contents exec size) n part bytes field is = sym (place_after fs (Contents exec size) n (part ++ bytes))
place_whole fs hole n part bytes field is = ap (λ x. behind (map scanned_folder fs) (next_field hole n) x) is
    ∙ sym (place_after fs hole n (part ++ bytes))

run_whole : (at : ℕ) (c : CutTree) (part bytes : List ℕ) → length part < width c.hole
    → length (part ++ bytes) ≡ width c.hole → run (Going at c part) bytes
    ≡ moved at c (part ++ bytes) (reason_of (length c.folders) at c.hole (part ++ bytes))
run_whole at c part bytes lt whole =
    ap (run (Going at c part)) (sym (append-nil bytes)) ∙ over_field at c part bytes [] lt whole
    ∙ is_whole at c (part ++ bytes) whole

-- its reason is that of the whole field
reason_is : (s : Scanner) (at : ℕ) (c : CutTree) (part bytes field : List ℕ) → IsAtField s at c part bytes field
    → reason_at (length s.folders.items) s.at s.next field ≡ reason_of (length c.folders) at c.hole
    (part ++ bytes)
reason_is s at c part bytes field f =
    let depth : length s.folders.items ≡ length c.folders = sym (length-reverse s.folders.items)
    ∙ ap length f.folders ∙ length-map c.folders scanned_folder in
    ap (λ d. reason_at d s.at s.next field) depth
    ∙ ap (λ x. reason_at (length c.folders) x s.next field) f.place
    ∙ ap (λ x. reason_at (length c.folders) at x field) f.next
    ∙ reason_whole (length c.folders) at c.hole f.count part bytes field f.by

module _ (old new : Scanner) (at : ℕ) (c : CutTree) (part bytes field : List ℕ)
    (f : IsAtField old at c part bytes field) (m : HasMoved old new field) where
  meets : reason_of (length c.folders) at c.hole (part ++ bytes) ≡ None
  meets = sym (reason_is old at c part bytes field f) ∙ m.meets

  pub field_runs : run (Going at c part) bytes ≡ Going (at + length (part ++ bytes))
      (after c.folders c.hole (part ++ bytes)) []
  field_runs = run_whole at c part bytes f.partial f.whole ∙ ap (moved at c (part ++ bytes)) meets

  pub field_reached : HasReached new (at + length (part ++ bytes)) (after c.folders c.hole (part ++ bytes)) []
  field_reached =
      let next : CutTree = after c.folders c.hole (part ++ bytes) in
      let wide : field_width old.next ≡ width c.hole = ap field_width f.next ∙ width_same c.hole f.count in
      let here : place (reverse new.folders.items) new.next ≡ place_of (after c.folders c.hole (part ++ bytes)) =
      m.place ∙ ap (λ x. behind x old.next field) f.folders ∙ ap
      (λ x. behind (map scanned_folder c.folders) x field) f.next
      ∙ place_whole c.folders c.hole f.count part bytes field f.by in
      record {
        at = omega (arith, m.at, f.place, f.whole, wide);
        folders = ap (λ (p : Place). p.folders) here;
        next = ap (λ (p : Place). p.next) here;
        part = m.empty ∙ sym (none_kept next.hole);
        partial = some_after (length c.folders) at c.folders next.folders c.hole next.hole (part ++ bytes) meets refl;
      }

-- a whole field that breaks a rule
pub field_breaks : (s : Scanner) (at : ℕ) (c : CutTree) (part bytes field : List ℕ) (place : ℕ) (reason : Reason)
    → IsAtField s at c part bytes field
    → (place ≡ s.at) × (reason_at (length s.folders.items) s.at s.next field ≡ Some reason)
    → run (Going at c part) bytes ≡ Stuck place reason
field_breaks s at c part bytes field place reason f broken =
    run_whole at c part bytes f.partial f.whole
    ∙ ap (moved at c (part ++ bytes)) (sym (reason_is s at c part bytes field f) ∙ broken.1)
    ∙ ap (λ n. Stuck n reason) (sym (broken.0 ∙ f.place))

-- ---- the field that bytes make whole

no_part : (hole : Hole) (part bytes : List ℕ) → kept_part hole part ≡ [] → IsFieldOf hole part bytes bytes
no_part (Contents exec size) part bytes none = refl
no_part hole part bytes none = ap (λ x. x ++ bytes) (sym none)

some_part : (hole : Hole) (part bytes field : List ℕ) → field ≡ kept_part hole (part ++ bytes)
    → (kept_part hole part ≡ [] → ⊥) → IsFieldOf hole part bytes field
some_part (Contents exec size) part bytes field is some = absurd (some refl)
some_part hole part bytes field is some = is

read_length : (s : Scanner) (at : ℕ) (c : CutTree) (part : List ℕ) → HasReached s at c part
    → (bytes_taken s.next s.part.items ≡ length part) × (field_width s.next ≡ width c.hole)
read_length s at c part h = (
  taken_of s c.hole part h.next h.part,
  ap field_width h.next
      ∙ width_same c.hole (length part),
)

-- nothing of the field was kept before
pub field_direct : (s : Scanner) (at : ℕ) (c : CutTree) (part bytes : List ℕ) → HasReached s at c part
    → s.part.items ≡ [] → bytes_taken s.next s.part.items + length bytes ≡ field_width s.next
    → IsAtField s at c part bytes bytes
field_direct s at c part bytes h none whole =
    let sizes = read_length s at c part h in
    record {
      count = length part;
      place = h.at;
      folders = h.folders;
      next = h.next;
      by = no_part c.hole part bytes (sym h.part ∙ none);
      whole = omega (arith, whole, sizes.0, sizes.1, length-append part bytes);
      partial = h.partial;
    }

-- a part of it was kept
pub field_kept : (old mid : Scanner) (at : ℕ) (c : CutTree) (part bytes field : List ℕ) → HasReached old at c part
    → (old.part.items ≡ [] → ⊥) → bytes_taken old.next old.part.items + length bytes ≡ field_width old.next
    → HasTaken old mid bytes
    → field ≡ mid.part.items → IsAtField mid at c part bytes field
field_kept old mid at c part bytes field h some whole t is =
    let both = took old mid at c part bytes h t in
    let sizes = read_length old at c part h in
    record {
      count = length (part ++ bytes);
      place = t.at ∙ h.at;
      folders = ap (λ v. reverse v.items) t.folders ∙ h.folders;
      next = both.0;
      by = some_part c.hole part bytes field (is ∙ both.1) (λ none. some (h.part ∙ none));
      whole = omega (arith, whole, sizes.0, sizes.1, length-append part bytes);
      partial = h.partial;
    }

-- ---- a scanner and a state

-- a scanner is at a state, and the bytes to come lead to this one
pub record GoesOn (s : Scanner) (rest : List ℕ) (total : State) : Type 0 where
  pub now : State
  pub is : IsAt s now
  pub runs : run now rest ≡ total

pub goes_on : (old new : Scanner) (front back rest : List ℕ) (total : State) → GoesOn old rest total
    → ((state : State) → IsAt old state → IsAt new (run state front)) → rest ≡ front ++ back
    → GoesOn new back total
goes_on old new front back rest total g moves parts = record {
  now = run g.now front;
  is = moves g.now g.is;
  runs = sym (run-append g.now front back) ∙ ap (run g.now) (sym parts) ∙ g.runs;
}

pub goes_wrong : (old : Scanner) (front back rest : List ℕ) (total : State) (at : ℕ) (reason : Reason)
    → GoesOn old rest total
    → ((state : State) → IsAt old state → run state front ≡ Stuck at reason) → rest ≡ front ++ back
    → total ≡ Stuck at reason
goes_wrong old front back rest total at reason g breaks parts =
    sym g.runs ∙ ap (run g.now) parts ∙ run-append g.now front back ∙ ap (λ s. run s back) (breaks g.now g.is)
    ∙ stuck_stays at reason back
