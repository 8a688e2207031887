-- What a scan's calls say of the bytes that it was fed.
use Rattle.std.specs.Prelude.{min}
use Rattle.std.proofs.Common.{◌≡◌, ℕ, zero, suc, ◌+◌, ◌∙◌, List, [], ◌∷◌, ◌++◌, length, take, reverse, arith, refl, sym}
use Rattle.std.proofs.Common.{ap, subst, None, Some, Ok, Err, false}
use Rattle.tree_canon.specs.declared.node.Node.{Node}
use Rattle.tree_canon.specs.declared.fault.Reason.{Reason}
use Rattle.tree_canon.specs.declared.fault.Reason.TheVariants as reasons
use Rattle.tree_canon.specs.declared.fault.DecodeFault.{DecodeFault}
use Rattle.tree_canon.specs.declared.fault.DecodeFault.TheVariants as faults
use Rattle.tree_canon.specs.declared.next_field.NextField.TheVariants as field
use Rattle.tree_canon.specs.declared.scanner.Scanner.{Scanner}
use Rattle.tree_canon.specs.declared.event.Step.{Step}
use Rattle.tree_canon.specs.declared.scan.Scan.{Scan}
use Rattle.tree_canon.specs.CutTree.{OpenFolder, Hole, Magic, Tag, Count, NameLength, Name, Executable, FileLength}
use Rattle.tree_canon.specs.CutTree.{Contents, TargetLength, Target, End}
use Rattle.tree_canon.specs.Division.{Spells, has_ended}
use Rattle.tree_canon.specs.Reading.{State, Stuck, Going, run, cut_at, IsBytes, SpellsUpTo}
use Rattle.tree_canon.specs.Feeding.{Fed}
use Rattle.tree_canon.specs.Scanning.{IsAt, next_field, bytes_taken}
use Rattle.tree_canon.specs.Events.{Told, events_of, open_folders_events, events_before, closed}
use Rattle.tree_canon.specs.Scans.{HasRead, Scans, ScanFeeds, ScanTakes, ScanEnds, HasGiven, GivesTree, owed}
use Rattle.tree_canon.proofs.Total.{Holds, run_holds, reads_end, start_holds}
use Rattle.tree_canon.proofs.Feeds.{reads_unbroken, all_read}
use Rattle.tree_canon.proofs.Tells.{told_none}

has_read : (s : Scanner) (state : State) (bytes : List ℕ) → IsAt s state → Holds state bytes → HasRead s bytes
has_read s (Stuck at r) bytes h holds = absurd h
has_read s (Going at c part) bytes h holds = record { count = at; cut = c; part = part; reads = holds; reached = h }

-- before the first byte
pub fresh : (s : Scanner) → s.at ≡ 0 → s.folders.items ≡ [] → s.next ≡ field.Magic 0 → s.part.items ≡ [] → HasRead s []
fresh s at folders next part = record {
  count = 0;
  cut = cut_at [] (Magic 0);
  part = [];
  reads = start_holds;
  reached = record { at = at; folders = ap reverse folders; next = next; part = part; partial = omega arith };
}

-- more bytes, while nothing is broken
pub feeds_on : (old new : Scan) (fed : Fed) (piece : List ℕ) → IsBytes piece → Scans old fed → old.fault ≡ None
    → new.fault ≡ None
    → ((state : State) → IsAt old.scanner state → IsAt new.scanner (run state piece)) → ScanFeeds fed piece (Ok tt) new
feeds_on old new (Err fault) piece fits scans was none runs = absurd cc
feeds_on old new (Ok bytes) piece fits scans was none runs =
    let h = scans.1 in
    let holds = run_holds (Going h.count h.cut h.part) bytes piece fits h.reads in
    let n = has_read new.scanner (run (Going h.count h.cut h.part) piece) (bytes ++ piece)
    (runs (Going h.count h.cut h.part) h.reached) holds in
    record {
      next = Ok (bytes ++ piece);
      feeds = (
        reads_unbroken n.count n.cut n.part
            (bytes ++ piece) n.reads,
        refl,
      );
      scans = (none, n);
    }

-- a fault that comes with these bytes
pub feeds_fault : (old new : Scan) (fed : Fed) (piece : List ℕ) (fault : DecodeFault) → IsBytes piece
    → Scans old fed → old.fault ≡ None → new.fault ≡ Some fault
    → ((state : State) → IsAt old.scanner state → (at : ℕ) (reason : Reason) → fault ≡ faults.Bad at reason
    → run state piece ≡ Stuck at reason) → ScanFeeds fed piece (Err fault) new
feeds_fault old new (Err other) piece fault fits scans was some bad = absurd cc
feeds_fault old new (Ok bytes) piece (faults.Bad at reason) fits scans was some bad =
    let h = scans.1 in
    let holds = run_holds (Going h.count h.cut h.part) bytes piece fits h.reads in
    let broken = subst (λ (s : State). Holds s (bytes ++ piece))
    (bad (Going h.count h.cut h.part) h.reached at reason refl) holds in
    record { next = Err (faults.Bad at reason); feeds = (broken, refl); scans = some }
feeds_fault old new (Ok bytes) piece faults.Memory fits scans was some bad =
    record { next = Err faults.Memory; feeds = refl; scans = some }

-- a fault that stays
pub keeps_fault : (s : Scan) (fed : Fed) (piece : List ℕ) (fault : DecodeFault) → Scans s fed
    → s.fault ≡ Some fault → ScanFeeds fed piece (Err fault) s
keeps_fault s (Ok bytes) piece fault scans some = absurd (let none = scans.0 in cc)
keeps_fault s (Err other) piece fault scans some =
    let same : fault ≡ other = cc in
    record { next = Err other; feeds = (ap Err same, refl); scans = scans }

-- ---- the end

ended : (ls : List OpenFolder) (hole : Hole) (at : ℕ) (part bytes : List ℕ) (n : ℕ)
    → field.End ≡ next_field hole n → SpellsUpTo at (cut_at ls hole) part bytes → (root : Node)
    × Spells root bytes
ended ls (End node) at part bytes n e h = (node, reads_end ls node at part bytes h)
ended ls (Magic k) at part bytes n e h = absurd cc
ended ls Tag at part bytes n e h = absurd cc
ended ls Count at part bytes n e h = absurd cc
ended ls (NameLength count before) at part bytes n e h = absurd cc
ended ls (Name count before size) at part bytes n e h = absurd cc
ended ls Executable at part bytes n e h = absurd cc
ended ls (FileLength exec) at part bytes n e h = absurd cc
ended ls (Contents exec size) at part bytes n e h = absurd cc
ended ls TargetLength at part bytes n e h = absurd cc
ended ls (Target size) at part bytes n e h = absurd cc

not_ended : (hole : Hole) (n : ℕ) → (next_field hole n ≡ field.End → ⊥) → has_ended hole ≡ false
not_ended (Magic k) n h = refl
not_ended Tag n h = refl
not_ended Count n h = refl
not_ended (NameLength count before) n h = refl
not_ended (Name count before size) n h = refl
not_ended Executable n h = refl
not_ended (FileLength exec) n h = refl
not_ended (Contents exec size) n h = refl
not_ended TargetLength n h = refl
not_ended (Target size) n h = refl
not_ended (End node) n h = absurd (h refl)

pub scan_ends_whole : (s : Scan) (fed : Fed) → Scans s fed → s.fault ≡ None → s.scanner.next ≡ field.End
    → ScanEnds fed (Ok tt)
scan_ends_whole s (Err fault) scans none end = absurd cc
scan_ends_whole s (Ok bytes) scans none end =
    let h = scans.1 in
    ended h.cut.folders h.cut.hole h.count h.part bytes (length h.part) (sym end ∙ h.reached.next) h.reads

pub scan_ends_short : (s : Scan) (fed : Fed) (size : ℕ) → Scans s fed → s.fault ≡ None
    → (s.scanner.next ≡ field.End → ⊥) → size ≡ min (s.scanner.at + bytes_taken s.scanner.next
    s.scanner.part.items) 18446744073709551615
    → ScanEnds fed (Err (faults.Bad size reasons.Short))
scan_ends_short s (Err fault) size scans none open' is = absurd cc
scan_ends_short s (Ok bytes) size scans none open' is =
    let h = scans.1 in
    let all : size ≡ length bytes = all_read s.scanner h.count h.cut h.part bytes size h.reads h.reached is in
    let goes_on : has_ended h.cut.hole ≡ false = not_ended h.cut.hole (length h.part)
    (λ e. open' (h.reached.next ∙ e)) in (
      record {
        cut = h.cut;
        part = h.part;
        sound = h.reads.sound;
        is = h.reads.is;
        partial = h.reads.partial;
        goes_on = goes_on;
      },
      ap (λ n. faults.Bad n reasons.Short) all,
    )

pub scan_ends_fault : (s : Scan) (fed : Fed) (fault : DecodeFault) → Scans s fed → s.fault ≡ Some fault
    → ScanEnds fed (Err fault)
scan_ends_fault s (Ok bytes) fault scans some = absurd (let none = scans.0 in cc)
scan_ends_fault s (Err other) fault scans some = let same : fault ≡ other = cc in ap Err same

-- ---- events

-- before the first byte
pub fresh_given : (s : Scan) → s.fault ≡ None → s.scanner.at ≡ 0 → s.scanner.folders.items ≡ []
    → s.scanner.next ≡ field.Magic 0 → s.scanner.part.items ≡ [] → s.scanner.owed ≡ 0 → HasGiven s [] []
fresh_given s none at folders next part owed = record
    { unbroken = none; told = told_none s.scanner at folders next part owed }

IsBytes-take : (n : ℕ) (bytes : List ℕ) → IsBytes bytes → IsBytes (take n bytes)
IsBytes-take zero bytes fits i = omega arith
IsBytes-take (suc n) [] fits i = omega arith
IsBytes-take (suc n) (x ∷ xs) fits zero = fits 0
IsBytes-take (suc n) (x ∷ xs) fits (suc i) = IsBytes-take n xs (λ j. fits (suc j)) i

-- some of the bytes, while nothing is broken
pub takes_on : (old new : Scan) (fed : Fed) (input : List ℕ) (step : Step) → IsBytes input → Scans old fed
    → old.fault ≡ None → new.fault ≡ None
    → ((state : State) → IsAt old.scanner state → IsAt new.scanner (run state (take step.used input)))
    → ScanTakes fed input (Ok step) new
takes_on old new fed input step fits scans was none runs = feeds_on old new fed (take step.used input)
    (IsBytes-take step.used input fits) scans was none runs

ended_gives : (ls : List OpenFolder) (hole : Hole) (at : ℕ) (part bytes : List ℕ) (n : ℕ) (given : List Told)
    (owed : ℕ) → field.End ≡ next_field hole n → SpellsUpTo at (cut_at ls hole) part bytes
    → given ++ closed owed ≡ events_before (cut_at ls hole) part → GivesTree bytes given owed
ended_gives ls (End node) at part bytes n given owed e h is =
    record {
      root = node;
      spells = reads_end ls node at part bytes h;
      is = is
          ∙ ap (λ (x : List OpenFolder). open_folders_events x ++ events_of node) h.sound.hole.1;
    }
ended_gives ls hole at part bytes n given owed e h is = absurd cc

-- where the bytes spell a tree, its events were given
pub gives_tree : (s : Scan) (bytes : List ℕ) (given : List Told) → HasGiven s bytes given
    → s.scanner.next ≡ field.End → GivesTree bytes given (owed s)
gives_tree s bytes given g end =
    let h = g.told in
    ended_gives h.cut.folders h.cut.hole h.count h.part bytes (length h.part) given s.scanner.owed
    (sym end ∙ h.reached.next) h.reads h.is
