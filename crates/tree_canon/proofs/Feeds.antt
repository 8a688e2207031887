-- What a decoder's calls say of the bytes that it was fed.
use Rattle.std.specs.Prelude.{◌↔◌, min}
use Rattle.std.proofs.Math.Nat.{min-eq_left}
use Rattle.std.proofs.Common.{◌≡◌, ℕ, ◌+◌, ◌<◌, ◌≤◌, ◌∙◌, List, [], ◌++◌, length, refl, sym, ap, subst, arith}
use Rattle.std.proofs.Common.{length-append, Option, None, Result, Ok, Err, false}
use Rattle.tree_canon.specs.declared.node.Node.{Node}
use Rattle.tree_canon.specs.declared.fault.Reason.{Reason}
use Rattle.tree_canon.specs.declared.fault.Reason.TheVariants as reasons
use Rattle.tree_canon.specs.declared.fault.DecodeFault.{DecodeFault}
use Rattle.tree_canon.specs.declared.fault.DecodeFault.TheVariants as faults
use Rattle.tree_canon.specs.declared.scanner.Scanner.{Scanner}
use Rattle.tree_canon.specs.declared.building.Building.{Building}
use Rattle.tree_canon.specs.declared.building.Current.TheVariants as current
use Rattle.tree_canon.specs.CutTree.{OpenFolder, CutTree, Hole, Magic, Tag, Count, NameLength, Name, Executable}
use Rattle.tree_canon.specs.CutTree.{FileLength, Contents, TargetLength, Target, End, cut_bytes, width}
use Rattle.tree_canon.specs.Division.{Spells, IsBroken, IsShort, IsDivided, announced, has_ended}
use Rattle.tree_canon.specs.Writing.{IsMeasured}
use Rattle.tree_canon.specs.Reading.{State, Stuck, Going, run, start, cut_at, IsBytes, SpellsUpTo}
use Rattle.tree_canon.specs.Scanning.{next_field, kept_part, bytes_taken, field_width, IsSmall, HasReached, IsAt}
use Rattle.tree_canon.specs.Events.{events_before}
use Rattle.tree_canon.specs.Telling.{HasTold}
use Rattle.tree_canon.specs.Making.{Made, made_none, made_from, current_of, made_of}
use Rattle.tree_canon.specs.Decoding.{made, hole_of, part_of, cut_of, bytes_read, HasMade, IsBetween, fed_by}
use Rattle.tree_canon.specs.Decoding.{IsDecoding}
use Rattle.tree_canon.specs.Feeding.{Fed, FeedsTo, Feeds, IsUnbroken, Ends}
use Rattle.tree_canon.proofs.Reach.{run-append}
use Rattle.tree_canon.proofs.CutMoves.{cut_moves, part_kept, broken_runs, one_tree, short_not_spelled}
use Rattle.tree_canon.proofs.Total.{Holds, run_holds, by_state, reads_end}
use Rattle.tree_canon.proofs.Divided.{divided}
use Rattle.tree_canon.proofs.Scans.{taken_of}
use Rattle.tree_canon.proofs.Tells.{given_all}
use Rattle.tree_canon.proofs.Making.{cut_made}

module _ (at : ℕ) (c : CutTree) (part bytes piece : List ℕ) (fits : IsBytes piece)
    (reads : SpellsUpTo at c part bytes) where
  holds_on : Holds (run (Going at c part) piece) (bytes ++ piece)
  holds_on = run_holds (Going at c part) bytes piece fits reads

  -- the bytes with the piece are one of the three
  pub divided_on : IsDivided (bytes ++ piece)
  divided_on = divided (bytes ++ piece) (by_state (run (Going at c part) piece) (bytes ++ piece) holds_on)

  pub broken_on : (place : ℕ) (reason : Reason) → run (Going at c part) piece ≡ Stuck place reason
      → IsBroken (bytes ++ piece) place reason
  broken_on place reason e = subst (λ (s : State). Holds s (bytes ++ piece)) e holds_on

-- what was read of bytes that go on has no broken field
pub reads_unbroken : (at : ℕ) (c : CutTree) (part bytes : List ℕ) → SpellsUpTo at c part bytes → IsUnbroken bytes
reads_unbroken at c part bytes h place reason broken =
    let n : ℕ = length (cut_bytes c) in
    let runs : run start bytes ≡ Going (length (cut_bytes c)) c part
    = ap (run start) h.is ∙ run-append start (cut_bytes c) part
    ∙ ap (λ s. run s part) ((cut_moves c h.sound).is ∙ ap (λ m. Going m c [])
    (let z : 0 + length (cut_bytes c) ≡ length (cut_bytes c) = omega arith in z))
    ∙ part_kept (length (cut_bytes c)) c [] part h.partial in
    let same : Stuck place reason ≡ Going (length (cut_bytes c)) c part = sym
    (broken_runs bytes place reason broken) ∙ runs in
    cc

-- ---- what a decoder has read

-- the hole and the part of its field, by the next field and what there is of the node
hole_back : (hole : Hole) (n : ℕ) (part : List ℕ) → hole_of (next_field hole n) (current_of hole part) ≡ hole
hole_back (Magic k) n part = refl
hole_back Tag n part = refl
hole_back Count n part = refl
hole_back (NameLength count before) n part = refl
hole_back (Name count before size) n part = refl
hole_back Executable n part = refl
hole_back (FileLength exec) n part = refl
hole_back (Contents exec size) n part = refl
hole_back TargetLength n part = refl
hole_back (Target size) n part = refl
hole_back (End root) n part = refl

part_back : (hole : Hole) (part : List ℕ) → part_of (current_of hole part) (kept_part hole part) ≡ part
part_back (Contents exec size) part = refl
part_back (Magic k) part = refl
part_back Tag part = refl
part_back Count part = refl
part_back (NameLength count before) part = refl
part_back (Name count before size) part = refl
part_back Executable part = refl
part_back (FileLength exec) part = refl
part_back TargetLength part = refl
part_back (Target size) part = refl
part_back (End root) part = refl

module _ (s : Scanner) (b : Building) (bytes : List ℕ) (h : HasMade s b bytes) (none : s.owed ≡ 0) where
  made_is : made b ≡ made_of h.told.cut h.told.part
  made_is =
      h.is ∙ ap (made_from made_none) (given_all h.given s.owed (events_before h.told.cut h.told.part) none h.told.is)
      ∙ cut_made h.told.cut h.told.part h.told.reads.sound h.told.reads.partial

  cut_is : cut_of s b ≡ h.told.cut
  cut_is =
      ap (λ (m : Made). cut_at m.folders (hole_of s.next m.current)) made_is
      ∙ ap (λ f. cut_at h.told.cut.folders (hole_of f (current_of h.told.cut.hole h.told.part))) h.told.reached.next
      ∙ ap (λ x. cut_at h.told.cut.folders x) (hole_back h.told.cut.hole (length h.told.part) h.told.part)

  part_is : part_of b.current s.part.items ≡ h.told.part
  part_is =
      ap (λ (m : Made). part_of m.current s.part.items) made_is
      ∙ ap (part_of (current_of h.told.cut.hole h.told.part)) h.told.reached.part
      ∙ part_back h.told.cut.hole h.told.part

  -- the bytes are those that a decoder's fields tell
  pub read_is : bytes ≡ bytes_read s b
  read_is = h.told.reads.is ∙ ap (λ x. cut_bytes h.told.cut ++ x) (sym part_is)
      ∙ ap (λ c. cut_bytes c ++ part_of b.current s.part.items) (sym cut_is)

-- before the first byte
pub between_none : (s : Scanner) (b : Building) → HasTold s [] []
    → bytes_taken s.next s.part.items < field_width s.next → IsSmall s → s.owed ≡ 0 → made b ≡ made_none
    → IsBetween s b
between_none s b told partial small owed is =
    let h : HasMade s b [] = record { given = []; told = told; is = is } in
    record { partial = partial; small = small; owed = owed; made = subst (HasMade s b) (read_is s b [] h owed) h }

-- ---- a decoder without fault

pub between : (s : Scanner) (b : Building) (o : Option DecodeFault) → o ≡ None → IsDecoding s b o → IsBetween s b
between s b o none h = subst (IsDecoding s b) none h

fed_is : (s : Scanner) (b : Building) (o : Option DecodeFault) (now : Fed) → fed_by s b o ≡ now → o ≡ None
    → now ≡ Ok (bytes_read s b)
fed_is s b o now is none = sym is ∙ ap (fed_by s b) none

-- what a call makes of a scanner and of a tree under way, where it has read all bytes
pub record HasReadAll (s t : Scanner) (b d : Building) (bytes : List ℕ) : Type 0 where
  pub partial : bytes_taken t.next t.part.items < field_width t.next
  pub small : IsSmall t
  pub owed : t.owed ≡ 0
  pub made : (before : List ℕ) → HasMade s b before → HasMade t d (before ++ bytes)

module _ (s : Scanner) (b : Building) (o : Option DecodeFault) (now : Fed) (piece : List ℕ) (fits : IsBytes piece)
    (is : fed_by s b o ≡ now) (none : o ≡ None) (h : IsDecoding s b o) where
  here : IsBetween s b
  here = between s b o none h

  made_next : (t : Scanner) (d : Building) → HasReadAll s t b d piece → HasMade t d (bytes_read s b ++ piece)
  made_next t d n = n.made (bytes_read s b) here.made

  pub keeps_decoding : (t : Scanner) (d : Building) → HasReadAll s t b d piece → IsDecoding t d o
  keeps_decoding t d n =
      let m = made_next t d n in
      subst (IsDecoding t d) (sym none) (record {
        partial = n.partial;
        small = n.small;
        owed = n.owed;
        made =
            subst (HasMade t d) (read_is t d (bytes_read s b ++ piece) m n.owed) m;
      })

  pub feeds_ok : (t : Scanner) (d : Building) → HasReadAll s t b d piece → Feeds now piece (Ok tt) (fed_by t d o)
  feeds_ok t d n =
      let m = made_next t d n in
      let after : FeedsTo (bytes_read s b ++ piece) (Ok tt) (fed_by t d o)
      = (
        reads_unbroken m.told.count m.told.cut m.told.part (bytes_read s b ++ piece) m.told.reads,
        ap
            (fed_by t d) none ∙ ap Ok (sym (read_is t d (bytes_read s b ++ piece) m n.owed)),
      ) in
      subst (λ f. Feeds f piece (Ok tt) (fed_by t d o)) (sym (fed_is s b o now is none)) after

  feeds_fault : (fault : DecodeFault) → ((state : State) → IsAt s state → (at : ℕ) (reason : Reason)
      → fault ≡ faults.Bad at reason → run state piece ≡ Stuck at reason)
      → FeedsTo (bytes_read s b ++ piece) (Err fault) (Err fault)
  feeds_fault (faults.Bad at reason) bad =
      let told = here.made.told in (
        broken_on told.count told.cut told.part (bytes_read s b) piece fits told.reads at reason
            (bad (Going told.count told.cut told.part) told.reached at reason refl),
        refl,
      )
  feeds_fault faults.Memory bad = refl

  pub feeds_err : (fault : DecodeFault) → ((state : State) → IsAt s state → (at : ℕ) (reason : Reason)
      → fault ≡ faults.Bad at reason → run state piece ≡ Stuck at reason)
      → Feeds now piece (Err fault) (Err fault)
  feeds_err fault bad = subst (λ f. Feeds f piece (Err fault) (Err fault)) (sym (fed_is s b o now is none))
      (feeds_fault fault bad)

  pub feeds_divided : (bytes : List ℕ) → now ≡ Ok bytes → IsDivided (bytes ++ piece)
  feeds_divided bytes e =
      let told = here.made.told in
      let same : Ok (bytes_read s b) ≡ Ok bytes = sym (fed_is s b o now is none) ∙ e in
      let eq : bytes_read s b ≡ bytes = cc in
      subst (λ x. IsDivided (x ++ piece)) eq (divided_on told.count told.cut told.part
      (bytes_read s b) piece fits told.reads)

-- ---- the end

-- a field has few bytes, but for those that a length before it announced
width_few : (hole : Hole) → width hole ≤ announced hole + 8
width_few (Magic k) = omega arith
width_few Tag = omega arith
width_few Count = omega arith
width_few (NameLength count before) = omega arith
width_few (Name count before size) = omega arith
width_few Executable = omega arith
width_few (FileLength exec) = omega arith
width_few (Contents exec size) = omega arith
width_few TargetLength = omega arith
width_few (Target size) = omega arith
width_few (End node) = omega arith

-- how many bytes a scanner was given
pub all_read : (s : Scanner) (at : ℕ) (c : CutTree) (part bytes : List ℕ) (size : ℕ) → SpellsUpTo at c part bytes
    → HasReached s at c part → size ≡ min (s.at + bytes_taken s.next s.part.items) 18446744073709551615
    → size ≡ length bytes
all_read s at c part bytes size reads reached is =
    let taken = taken_of s c.hole part reached.next reached.part in
    let all : s.at + bytes_taken s.next s.part.items ≡ length bytes = omega
    (arith, taken, reached.at, reads.place, ap length reads.is, length-append (cut_bytes c) part) in
    let small : length bytes ≤ 1073741832 = omega (
      arith,
      width_few c.hole,
      reads.partial,
      reads.sound.size,
      ap length reads.is,
      length-append
          (cut_bytes c) part,
    ) in
    let few : s.at + bytes_taken s.next s.part.items ≤ 18446744073709551615 = omega (arith, all, small) in
    is ∙ min-eq_left few ∙ all

not_ended : (hole : Hole) → ((x : Node) → hole ≡ End x → ⊥) → has_ended hole ≡ false
not_ended (Magic k) h = refl
not_ended Tag h = refl
not_ended Count h = refl
not_ended (NameLength count before) h = refl
not_ended (Name count before size) h = refl
not_ended Executable h = refl
not_ended (FileLength exec) h = refl
not_ended (Contents exec size) h = refl
not_ended TargetLength h = refl
not_ended (Target size) h = refl
not_ended (End node) h = absurd (h node refl)

-- the tree that is answered is the one that the bytes spell
pub exactly : (now : Fed) (result : Result Node DecodeFault) → Ends now result → (tree : Node) (bytes : List ℕ)
    → now ≡ Ok bytes → (result ≡ Ok tree) ↔ Spells tree bytes
exactly (Err fault) result h tree bytes e = absurd cc
exactly (Ok fed) (Ok root) h tree bytes e =
    let same : fed ≡ bytes = cc in
    let spells : Spells root bytes = subst (Spells root) same h in (
      λ is. let eq : root ≡ tree = cc in subst (λ x. Spells x bytes) eq spells,
      λ s. ap Ok
          (one_tree bytes root tree spells s),
    )
exactly (Ok fed) (Err fault) h tree bytes e =
    let same : fed ≡ bytes = cc in
    let short : IsShort bytes = subst IsShort same h.0 in
    (λ is. absurd cc, λ s. absurd (short_not_spelled bytes tree short s))

root_at : (hole : Hole) (part : List ℕ) (root : Node) → current_of hole part ≡ current.Whole root → hole ≡ End root
root_at (End x) part root is = let same : x ≡ root = cc in ap End same
root_at (Magic k) part root is = absurd cc
root_at Tag part root is = absurd cc
root_at Count part root is = absurd cc
root_at (NameLength count before) part root is = absurd cc
root_at (Name count before size) part root is = absurd cc
root_at Executable part root is = absurd cc
root_at (FileLength exec) part root is = absurd cc
root_at (Contents exec size) part root is = absurd cc
root_at TargetLength part root is = absurd cc
root_at (Target size) part root is = absurd cc

measured_at : (ls : List OpenFolder) (root : Node) (at : ℕ) (part bytes : List ℕ)
    → SpellsUpTo at (cut_at ls (End root)) part bytes → IsMeasured root at
measured_at ls root at part bytes h =
    let none = h.sound.hole.1 in
    let is = h.place ∙ ap (λ (x : List OpenFolder). length (cut_bytes (cut_at x (End root)))) none in
    record { fit = h.sound.hole.0; few = omega (arith, h.sound.size, h.place); is = is }

module _ (s : Scanner) (b : Building) (o : Option DecodeFault) (now : Fed) (is : fed_by s b o ≡ now)
    (none : o ≡ None) (h : IsDecoding s b o) where
  last : IsBetween s b
  last = between s b o none h

  current_is : b.current ≡ current_of last.made.told.cut.hole last.made.told.part
  current_is = ap (λ (m : Made). m.current) (made_is s b (bytes_read s b) last.made last.owed)

  reads_whole : (root : Node) → b.current ≡ current.Whole root
      → SpellsUpTo last.made.told.count (cut_at last.made.told.cut.folders (End root)) last.made.told.part
      (bytes_read s b)
  reads_whole root end =
      subst (λ x. SpellsUpTo last.made.told.count (cut_at last.made.told.cut.folders x) last.made.told.part
      (bytes_read s b))
      (root_at last.made.told.cut.hole last.made.told.part root (sym current_is ∙ end)) last.made.told.reads

  pub measured : (root : Node) → b.current ≡ current.Whole root → IsMeasured root s.at
  measured root end =
      subst (IsMeasured root) (sym last.made.told.reached.at)
      (measured_at last.made.told.cut.folders root last.made.told.count last.made.told.part (bytes_read s b)
      (reads_whole root end))

  pub ends_whole : (root : Node) → b.current ≡ current.Whole root → Ends now (Ok root)
  ends_whole root end =
      subst (λ f. Ends f (Ok root)) (sym (fed_is s b o now is none))
      (reads_end last.made.told.cut.folders root last.made.told.count last.made.told.part (bytes_read s b)
      (reads_whole root end))

  pub ends_short : (size : ℕ) → size ≡ min (s.at + bytes_taken s.next s.part.items) 18446744073709551615
      → ((x : Node) → b.current ≡ current.Whole x → ⊥) → Ends now (Err (faults.Bad size reasons.Short))
  ends_short size eq open' =
      let told = last.made.told in
      let all : size ≡ length (bytes_read s b) = all_read s told.count told.cut told.part
      (bytes_read s b) size told.reads told.reached eq in
      let goes_on : has_ended told.cut.hole ≡ false = not_ended told.cut.hole
      (λ x e. open' x (current_is ∙ ap (λ z. current_of z told.part) e)) in
      let short : IsShort (bytes_read s b) = record {
        cut = told.cut;
        part = told.part;
        sound = told.reads.sound;
        is = told.reads.is;
        partial =
            told.reads.partial;
        goes_on = goes_on;
      } in
      subst (λ f. Ends f (Err (faults.Bad size reasons.Short))) (sym (fed_is s b o now is none))
      (short, ap (λ x. faults.Bad x reasons.Short) all)
