-- What a scanner has told, at each of its moves.
use Rattle.std.specs.Prelude.{IfOk, OnOk, IsTrue, nat_lt}
use Rattle.std.proofs.Common.{◌≡◌, ℕ, suc, Bool, true, false, if◌then◌else◌, Some, Result, Ok, Err, ◌+◌, ◌-◌, ◌<◌, ◌≤◌}
use Rattle.std.proofs.Common.{◌∙◌, List, [], ◌∷◌, ◌++◌, length, map, take, drop, reverse, length-append, length-drop}
use Rattle.std.proofs.Common.{length-take, append_assoc, arith, refl, sym, ap, subst}
use Rattle.std.proofs.Math.Nat.{min-eq_left}
use Rattle.std.proofs.Math.Seq.{drop-append_seam, take-add}
use Rattle.std.proofs.lemmas.List.{append-nil, take-append-drop, take_all}
use Rattle.tree_canon.specs.declared.event.Event.{Event}
use Rattle.tree_canon.specs.declared.event.Event.TheVariants as event
use Rattle.tree_canon.specs.declared.fault.Reason.{Reason}
use Rattle.tree_canon.specs.declared.fault.DecodeFault.{DecodeFault}
use Rattle.tree_canon.specs.declared.next_field.ScannedFolder.{ScannedFolder}
use Rattle.tree_canon.specs.declared.next_field.NextField.{NextField}
use Rattle.tree_canon.specs.declared.next_field.NextField.TheVariants as field
use Rattle.tree_canon.specs.declared.scanner.Scanner.{Scanner}
use Rattle.tree_canon.specs.CutTree.{Magic, width}
use Rattle.tree_canon.specs.Reading.{State, Stuck, Going, cut_at, after, IsBytes, SpellsUpTo, run}
use Rattle.tree_canon.specs.Scanning.{next_field, bytes_taken, field_width, closes_behind, kept_width, IsContents}
use Rattle.tree_canon.specs.Scanning.{scanned_folder, Place, place, behind, behind_node}
use Rattle.tree_canon.specs.Events.{Told, Content, Closed, told, events_before, closed}
use Rattle.tree_canon.specs.Fields.{event_by}
use Rattle.tree_canon.specs.Telling.{HasTold, FaultFollows}
use Rattle.tree_canon.proofs.Total.{Holds, run_holds, start_holds}
use Rattle.tree_canon.proofs.Reach.{run-append}
use Rattle.tree_canon.proofs.CutMoves.{part_kept, stuck_stays}
use Rattle.tree_canon.proofs.CutEvents.{field_tells, part_tells, part_silent}
use Rattle.tree_canon.proofs.Scans.{HasTaken, HasMoved, part_reached, field_runs, field_reached, taken_same, width_same}
use Rattle.tree_canon.proofs.Takes.{StandsBefore}

-- ---- the event of a field

-- no folder is whole with a field that brings no event
pub more_closes_none : (fs : List ScannedFolder) (f : NextField) (bytes : List ℕ) → event_by f bytes ≡ event.More
    → closes_behind fs f bytes ≡ 0
more_closes_none fs field.Count bytes is = absurd cc
more_closes_none fs (field.FileLength exec) bytes is = absurd cc
more_closes_none fs (field.Contents size taken) bytes is = absurd cc
more_closes_none fs (field.Target size) bytes is = absurd cc
more_closes_none fs f bytes is = refl

-- only a file's contents come in parts
pub contents_by : (f : NextField) (bytes : List ℕ) (n : ℕ) → event_by f bytes ≡ event.Part n → IsContents f
contents_by (field.Contents size taken) bytes n is = tt
contents_by f bytes n is = absurd cc

pub part_by : (f : NextField) (bytes : List ℕ) (n : ℕ) → event_by f bytes ≡ event.Part n → n ≡ length bytes
part_by (field.Contents size taken) bytes n is = cc
part_by f bytes n is = absurd cc

pub contents_keep_none : (f : NextField) → IsContents f → kept_width f ≡ 0
contents_keep_none (field.Contents size taken) is = refl
contents_keep_none f is = absurd is

-- bytes that were taken before those of the event change nothing
pub told_behind : (e : Event) (before bytes : List ℕ) → ((n : ℕ) → e ≡ event.Part n → n ≡ length bytes)
    → told e (before ++ bytes) ≡ told e bytes
told_behind (event.Part n) before bytes part =
    let is : n ≡ length bytes = part n refl in
    let front : length (before ++ bytes) - n ≡ length before = omega (arith, length-append before bytes) in
    let none : 0 ≡ length bytes - n = omega arith in
    ap (λ k. map Content (drop k (before ++ bytes))) front ∙ ap (map Content) (drop-append_seam before bytes)
    ∙ ap (λ k. map Content (drop k bytes)) none
told_behind (event.Open count) before bytes part = refl
told_behind (event.Name name) before bytes part = refl
told_behind (event.File exec len) before bytes part = refl
told_behind (event.Link target) before bytes part = refl
told_behind event.Close before bytes part = refl
told_behind event.More before bytes part = refl

-- ---- a scanner that moves

-- before the first byte
pub told_none : (s : Scanner) → s.at ≡ 0 → s.folders.items ≡ [] → s.next ≡ field.Magic 0 → s.part.items ≡ []
    → s.owed ≡ 0 → HasTold s [] []
told_none s at folders next part owed = record {
  count = 0;
  cut = cut_at [] (Magic 0);
  part = [];
  reads = start_holds;
  reached = record { at = at; folders = ap reverse folders; next = next; part = part; partial = omega arith };
  is = ap closed owed;
}

pub given_all : (given : List Told) (owed : ℕ) (all : List Told) → owed ≡ 0 → given ++ closed owed ≡ all → given ≡ all
given_all given owed all none is = sym (append-nil given) ∙ ap (λ n. given ++ closed n) (sym none) ∙ is

-- behind a whole field
pub field_told : (old mid new : Scanner) (seen : List ℕ) (given : List Told) (bytes field : List ℕ) (e : Event)
    → IsBytes bytes → HasTold old seen given → old.owed ≡ 0
    → StandsBefore old mid bytes field → HasMoved mid new field → e ≡ event_by mid.next field
    → new.owed ≡ closes_behind (reverse mid.folders.items) mid.next field
    → HasTold new (seen ++ bytes) (given ++ told e bytes)
field_told old mid new seen given bytes field e fits h none stands m is owed =
    let f = stands.at_field h.count h.cut h.part h.reached in
    let holds = run_holds (Going h.count h.cut h.part) seen bytes fits h.reads in
    let same : e ≡ event_by (next_field h.cut.hole f.count) field = is ∙ ap (λ x. event_by x field) f.next in
    let ends : new.owed ≡ closes_behind (map scanned_folder h.cut.folders) (next_field h.cut.hole f.count) field
    = owed ∙ ap (λ x. closes_behind x mid.next field) f.folders
    ∙ ap (λ x. closes_behind (map scanned_folder h.cut.folders) x field) f.next in
    let all : given ≡ events_before h.cut h.part = given_all given old.owed (events_before h.cut h.part) none h.is in
    record {
      count = h.count + length (h.part ++ bytes);
      cut = after h.cut.folders h.cut.hole (h.part ++ bytes);
      part = [];
      reads = subst (λ (s : State). Holds s (seen ++ bytes))
          (field_runs mid new h.count h.cut h.part bytes field f m) holds;
      reached = field_reached mid new h.count h.cut h.part bytes field f m;
      is = append_assoc given (told e bytes) (closed new.owed)
          ∙ ap (λ x. given ++ (told x bytes ++ closed new.owed)) same
          ∙ ap (λ n. given ++ (told (event_by (next_field h.cut.hole f.count) field) bytes ++ closed n)) ends
          ∙ ap (λ x. x ++ (told (event_by (next_field h.cut.hole f.count) field) bytes
          ++ closed (closes_behind (map scanned_folder h.cut.folders) (next_field h.cut.hole f.count) field)))
          all
          ∙ sym (field_tells h.cut.folders h.cut.hole f.count h.part bytes field h.reads.sound.folders f.by f.whole);
    }

pub told_ok : (result : Result Event DecodeFault) (tell : Bool) (old mid new : Scanner) (bytes field : List ℕ)
    → IsBytes bytes → StandsBefore old mid bytes field → OnOk result (HasMoved mid new field)
    → IfOk result (λ e. IsTrue tell → e ≡ event_by mid.next field)
    → OnOk result (new.owed ≡ closes_behind (reverse mid.folders.items) mid.next field)
    → IfOk result (λ e. IsTrue tell → old.owed ≡ 0 → (seen : List ℕ) (given : List Told) → HasTold old seen given
    → HasTold new (seen ++ bytes) (given ++ told e bytes))
told_ok (Ok e) tell old mid new bytes field fits stands m is owed = λ asked none seen given h. field_told old mid
    new seen given bytes field e fits h none stands m (is asked) owed
told_ok (Err fault) tell old mid new bytes field fits stands m is owed = tt

-- only a file's contents come in parts, which are their last bytes
pub part_ok : (result : Result Event DecodeFault) (tell : Bool) (f : NextField) (bytes field : List ℕ)
    → (IsContents f → field ≡ bytes) → IfOk result (λ e. IsTrue tell → e ≡ event_by f field)
    → IfOk result (λ e. IsTrue tell → (n : ℕ) → e ≡ event.Part n → n ≡ length bytes)
part_ok (Ok e) tell f bytes field same is = λ asked n part.
    let here : event_by f field ≡ event.Part n = sym (is asked) ∙ part in
    part_by f field n here ∙ ap length (same (contents_by f field n here))
part_ok (Err fault) tell f bytes field same is = tt

either_other : (b : Bool) (x y : Place) → (IsContents x.next → ⊥) → (IsContents y.next → ⊥)
    → IsContents (if b then x else y).next → ⊥
either_other true x y f g = f
either_other false x y f g = g

node_other : (fs : List ScannedFolder) → IsContents (behind_node fs).next → ⊥
node_other [] is = is
node_other (f ∷ fs) is = either_other (nat_lt 0 f.left) (place fs (field.NameLength (f.left - 1) (Some f.name)))
    (behind_node fs) (λ h. h) (λ h. node_other fs h) is

contents_end : (fs : List ScannedFolder) (f : NextField) (bytes : List ℕ) → IsContents f
    → IsContents (behind fs f bytes).next → ⊥
contents_end fs (field.Contents size taken) bytes is = node_other fs
contents_end fs f bytes is = absurd is

-- behind the last part of a file's contents there are none
pub all_ok : (result : Result Event DecodeFault) (tell : Bool) (fs us : List ScannedFolder) (f next : NextField)
    (field : List ℕ) → IfOk result (λ e. IsTrue tell → e ≡ event_by f field)
    → OnOk result (place us next ≡ behind fs f field)
    → (P : Type 0) → IfOk result (λ e. IsTrue tell → (n : ℕ) → e ≡ event.Part n → P → IsContents next → ⊥)
all_ok (Ok e) tell fs us f next field is here P = λ asked n part p contents.
    contents_end fs f field (contents_by f field n (sym (is asked) ∙ part))
    (subst (λ (x : Place). IsContents x.next) here contents)
all_ok (Err fault) tell fs us f next field is here P = tt

-- no folder is whole where nothing is told
pub more_ok : (result : Result Event DecodeFault) (tell : Bool) (new : Scanner) (fs : List ScannedFolder)
    (f : NextField) (field : List ℕ) → IfOk result (λ e. IsTrue tell → e ≡ event_by f field)
    → OnOk result (new.owed ≡ closes_behind fs f field)
    → (P : Type 0) → IfOk result (λ e. IsTrue tell → P → e ≡ event.More → new.owed ≡ 0)
more_ok (Ok e) tell new fs f field is owed P = λ asked p more. owed
    ∙ more_closes_none fs f field (sym (is asked) ∙ more)
more_ok (Err fault) tell new fs f field is owed P = tt

-- the end of a folder is told, which takes no byte
pub close_told : (old new : Scanner) (seen : List ℕ) (given : List Told) → HasTold old seen given → 0 < old.owed
    → new.at ≡ old.at → new.folders ≡ old.folders → new.next ≡ old.next → new.part ≡ old.part
    → new.owed ≡ old.owed - 1
    → HasTold new (seen ++ []) (given ++ Closed ∷ [])
close_told old new seen given h some at folders next part owed =
    let one : suc new.owed ≡ old.owed = omega arith in
    record {
      count = h.count;
      cut = h.cut;
      part = h.part;
      reads = subst (SpellsUpTo h.count h.cut h.part) (sym (append-nil seen)) h.reads;
      reached = record {
        at = at ∙ h.reached.at;
        folders = ap (λ v. reverse v.items) folders ∙ h.reached.folders;
        next = next ∙ h.reached.next;
        part = ap (λ v. v.items) part ∙ h.reached.part;
        partial = h.reached.partial;
      };
      is = append_assoc given (Closed ∷ []) (closed new.owed) ∙ ap (λ n. given ++ closed n) one ∙ h.is;
    }

-- behind a part of one
part_of : (old new : Scanner) (seen : List ℕ) (given : List Told) (bytes : List ℕ) (facts : List Told)
    → IsBytes bytes → (h : HasTold old seen given) → old.owed ≡ 0 → new.owed ≡ old.owed
    → HasTaken old new bytes → bytes_taken new.next new.part.items < field_width new.next
    → events_before h.cut (h.part ++ bytes) ≡ events_before h.cut h.part ++ facts
    → HasTold new (seen ++ bytes) (given ++ facts)
part_of old new seen given bytes facts fits h none same t lt tells =
    let holds = run_holds (Going h.count h.cut h.part) seen bytes fits h.reads in
    let reached = part_reached old new h.count h.cut h.part bytes h.reached t lt in
    let all : given ≡ events_before h.cut h.part = given_all given old.owed (events_before h.cut h.part) none h.is in
    record {
      count = h.count;
      cut = h.cut;
      part = h.part ++ bytes;
      reads = subst (λ (s : State). Holds s (seen ++ bytes))
          (part_kept h.count h.cut h.part bytes reached.partial) holds;
      reached = reached;
      is = ap (λ n. (given ++ facts) ++ closed n) (same ∙ none) ∙ append-nil (given ++ facts)
          ∙ ap (λ x. x ++ facts) all ∙ sym tells;
    }

pub contents_told : (old new : Scanner) (seen : List ℕ) (given : List Told) (bytes : List ℕ) (n : ℕ)
    → IsBytes bytes → HasTold old seen given → old.owed ≡ 0 → new.owed ≡ old.owed
    → HasTaken old new bytes → bytes_taken new.next new.part.items < field_width new.next → IsContents new.next
    → n ≡ length bytes
    → HasTold new (seen ++ bytes) (given ++ told (event.Part n) bytes)
contents_told old new seen given bytes n fits h none same t lt contents size =
    let reached = part_reached old new h.count h.cut h.part bytes h.reached t lt in
    let is : IsContents (next_field h.cut.hole (length (h.part ++ bytes))) = subst IsContents reached.next contents in
    let all : map Content (drop (length bytes - n) bytes) ≡ map Content bytes = ap
    (λ k. map Content (drop k bytes)) (let z : length bytes - n ≡ 0 = omega arith in z) in
    part_of old new seen given bytes (map Content (drop (length bytes - n) bytes)) fits h none same t lt
    (part_tells h.cut.folders h.cut.hole (length (h.part ++ bytes)) h.part bytes is
    ∙ ap (λ x. events_before h.cut h.part ++ x) (sym all))

pub nothing_told : (old new : Scanner) (seen : List ℕ) (given : List Told) (bytes : List ℕ) → IsBytes bytes
    → HasTold old seen given → old.owed ≡ 0 → new.owed ≡ old.owed
    → HasTaken old new bytes → bytes_taken new.next new.part.items < field_width new.next → (IsContents new.next → ⊥)
    → HasTold new (seen ++ bytes) (given ++ told event.More bytes)
nothing_told old new seen given bytes fits h none same t lt other =
    let reached = part_reached old new h.count h.cut h.part bytes h.reached t lt in
    part_of old new seen given bytes [] fits h none same t lt
    (part_silent h.cut.folders h.cut.hole (length (h.part ++ bytes)) h.part bytes
    (λ is. other (subst IsContents (sym reached.next) is)))

-- ---- bytes in several takes

pub front_is : (used share : ℕ) (input : List ℕ) → take share (take (length input - used) (drop used input))
    ≡ take share (drop used input)
front_is used share input = ap (take share) (take_all (length input - used) (drop used input)
    (omega (arith, length-drop used input)))

pub rest_length : (used : ℕ) (input : List ℕ) → length (take (length input - used) (drop used input))
    ≡ length input - used
rest_length used input = ap length (take_all (length input - used) (drop used input)
    (omega (arith, length-drop used input))) ∙ length-drop used input

pub front_length : (used share : ℕ) (input : List ℕ) → used + share ≤ length input
    → length (take share (take (length input - used) (drop used input))) ≡ share
front_length used share input le = length-take share (take (length input - used) (drop used input))
    ∙ min-eq_left (omega (arith, rest_length used input))

pub taken_more : (state : State) (used share : ℕ) (input front : List ℕ) → front ≡ take share (drop used input)
    → run (run state (take used input)) front ≡ run state (take (used + share) input)
taken_more state used share input front is = ap (run (run state (take used input))) is
    ∙ sym (run-append state (take used input) (take share (drop used input)))
    ∙ ap (run state) (sym (take-add used share input))

pub stuck_more : (state : State) (used share : ℕ) (input front : List ℕ) (at : ℕ) (reason : Reason)
    → front ≡ take share (drop used input) → run (run state (take used input)) front ≡ Stuck at reason
    → run state input ≡ Stuck at reason
stuck_more state used share input front at reason is stuck =
    ap (run state) (sym (take-append-drop (used + share) input))
    ∙ run-append state (take (used + share) input) (drop (used + share) input)
    ∙ ap (λ s. run s (drop (used + share) input)) (sym (taken_more state used share input front is) ∙ stuck)
    ∙ stuck_stays at reason (drop (used + share) input)

-- a field that breaks a rule behind bytes of which all is told
pub fault_follows : (s : Scanner) (seen : List ℕ) (given : List Told) (used share : ℕ) (input front : List ℕ)
    (at : ℕ) (reason : Reason) → front ≡ take share (drop used input) → s.owed ≡ 0
    → (h : HasTold s (seen ++ take used input) given) → bytes_taken s.next s.part.items + share ≤ field_width s.next
    → run (Going h.count h.cut h.part) front ≡ Stuck at reason → FaultFollows seen given input at reason
fault_follows s seen given used share input front at reason is none h fits stuck =
    let taken : bytes_taken s.next s.part.items ≡ length h.part =
    (λ i. bytes_taken (h.reached.next i) (h.reached.part i)) ∙ taken_same h.cut.hole h.part in
    let wide : field_width s.next ≡ width h.cut.hole = ap field_width h.reached.next
    ∙ width_same h.cut.hole (length h.part) in
    record {
      used = used;
      share = share;
      count = h.count;
      cut = h.cut;
      part = h.part;
      reads = h.reads;
      is = given_all given s.owed (events_before h.cut h.part) none h.is;
      field = omega (arith, taken, wide, fits);
      breaks = ap (run (Going h.count h.cut h.part)) (sym is) ∙ stuck;
    }

-- what was told of the bytes before, and of the next ones
pub told_more : (mid new : Scanner) (e : Event) (used share : ℕ) (input front seen : List ℕ) (given : List Told)
    → front ≡ take share (drop used input) → HasTold mid (seen ++ take used input) given
    → ((more : List ℕ) (now : List Told) → HasTold mid more now → HasTold new (more ++ front) (now ++ told e front))
    → ((n : ℕ) → e ≡ event.Part n → n ≡ length front) → HasTold new (seen ++ take (used + share) input)
    (given ++ told e (take (used + share) input))
told_more mid new e used share input front seen given is h tells part =
    let whole : take used input ++ front ≡ take (used + share) input = ap (λ x. take used input ++ x) is
    ∙ sym (take-add used share input) in
    let bytes : (seen ++ take used input) ++ front ≡ seen ++ take (used + share) input = append_assoc seen
    (take used input) front ∙ ap (λ x. seen ++ x) whole in
    let facts : told e front ≡ told e (take (used + share) input) = sym
    (told_behind e (take used input) front part) ∙ ap (told e) whole in
    subst (λ (x : List ℕ). HasTold new x (given ++ told e (take (used + share) input))) bytes
    (subst (λ (x : List Told). HasTold new ((seen ++ take used input) ++ front) (given ++ x)) facts
    (tells (seen ++ take used input) given h))

-- where the next ones told nothing
pub more_told : (mid new : Scanner) (e : Event) (used share : ℕ) (input front seen : List ℕ) (given : List Told)
    → front ≡ take share (drop used input) → e ≡ event.More → HasTold mid (seen ++ take used input) given
    → ((more : List ℕ) (now : List Told) → HasTold mid more now
    → HasTold new (more ++ front) (now ++ told e front)) → HasTold new
    (seen ++ take (used + share) input) given
more_told mid new e used share input front seen given front_same is h tells =
    subst (HasTold new (seen ++ take (used + share) input))
    (ap (λ x. given ++ told x (take (used + share) input)) is ∙ append-nil given)
    (told_more mid new e used share input front seen given front_same h tells
    (λ n part. absurd (let no : event.Part n ≡ event.More = sym part ∙ is in cc)))
