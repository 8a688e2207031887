-- What the answers of a search say of its choice.
use Rattle.std.proofs.Common.{◌≡◌, ◌∙◌, refl, sym, ap, subst, ℕ, ◌+◌, ◌<◌, zero, suc, arith, Bool, true, false, cond}
use Rattle.std.proofs.Common.{List, [], ◌∷◌, ◌++◌, map, take, length, get_or, append_assoc}
use Rattle.std.specs.Prelude.{◌||◌, Option, Some, None, Result, Ok, Err, IfOk}
use Rattle.std.specs.List.{list_any}
use Rattle.std.proofs.lemmas.List.{map-append, take_more}
use Rattle.cnb_world.specs.Runs.{Ran}
use Rattle.cnb_world.specs.declared.child.Probed.{Probed}
use Rattle.cnb_toml.specs.declared.names.Key.{Key}
use Rattle.cnb_toml.specs.declared.target.Target.{Target}
use Rattle.cnb_toml.specs.Keys.{same_key}
use Rattle.bp_docs.specs.declared.descriptor.Descriptor.{Descriptor}
use Rattle.bp_docs.specs.declared.descriptor.Entry.{Entry}
use Rattle.order_expand.specs.declared.member.Member.{Member}
use Rattle.order_expand.specs.Groups.{listed_groups}
use Rattle.plan_resolve.specs.declared.rows.Resolved.{Resolved}
use Rattle.steps.specs.Asking.{AskedBy, CountsSpawners}
use Rattle.steps.specs.Causes.{Cause}
use Rattle.steps.specs.Outside.{SpawnerSeen}
use Rattle.detect_core.specs.declared.chosen.AnswerRow.{AnswerRow}
use Rattle.detect_core.specs.declared.chosen.Chosen.{Chosen}
use Rattle.detect_core.specs.declared.chosen.DetectEnd.{DetectEnd}
use Rattle.detect_core.specs.declared.chosen.DetectFrame.{DetectFrame}
use Rattle.detect_core.specs.declared.chosen.Recorded.{Recorded}
use Rattle.detect_core.specs.declared.chosen.Verdict.{Verdict}
use Rattle.detect_core.specs.Answer.{answer_of, answer_row, build_plan, key_of, recorded, says}
use Rattle.detect_core.specs.Asking.{AreNew}
use Rattle.detect_core.specs.Detection.{Ending, TooManyTrials, FirstTrial, asked_keys, asked_members, first_trial}
use Rattle.detect_core.specs.Detection.{fitting, has_erred, members_of, reached}
use Rattle.detect_core.specs.Job.{detect_job}
use Rattle.detect_core.specs.Kept.{KeptRow, kept_says, row_of}
use Rattle.detect_core.specs.Recorded.{AreRecordedBy, IsRecorded, answer_rows, answered_keys, chosen_of, kept_row}
use Rattle.detect_core.specs.Recorded.{says_recorded}
use Rattle.detect_core.specs.Search.{DetectsAs, IsChoice}
use Rattle.detect_core.specs.Searching.{IsRecordedSearch, IsSearch}
use Rattle.detect_core.proofs.AnswerLemmas.{kept_says-says}
use Rattle.detect_core.proofs.AskingLemmas.{map-map, ran_keys, unmet_new}
use Rattle.detect_core.proofs.MemberLemmas.{distinct-append, flat, keys_of_members, same_key-same}
use Rattle.detect_core.proofs.OrderLemmas.{each_once, recorded_in_any_order}
use Rattle.detect_core.proofs.SpawnerLemmas.{detection_of}

-- ---- answers and children

-- the rows of some children say what the children say
pub says_rows : (target : Option Target) (ran : List Ran)
    → says_recorded target (map answer_row ran) ≡ says target build_plan ran
says_rows target ran = ap (kept_says target) (map-map kept_row answer_row ran) ∙ kept_says-says target ran

-- the members of some groups are of different buildpacks
members_new : (groups : List (List Member)) → AreNew [] (keys_of_members (members_of groups))
members_new groups = subst (λ (ms : List Member). AreNew [] (keys_of_members ms))
    (sym (distinct-append [] (flat groups))) (unmet_new [] (flat groups))

row_keys : (ran : List Ran) → answered_keys (map answer_row ran) ≡ map key_of ran
row_keys ran = map-map (λ (row : AnswerRow). row.key) answer_row ran

-- the keys of the children of some members
keys_ran : (frame : DetectFrame) (members : List Member) (ran : List Ran)
    → map (λ r. r.job) ran ≡ map (detect_job frame) members → map key_of ran ≡ keys_of_members members
keys_ran frame members ran jobs = sym (map-map (λ (row : KeptRow). row.0) row_of ran) ∙ ran_keys frame members ran jobs

-- ---- each answer is its buildpack's

neither : (a b : Bool) → (a || b) ≡ false → (a ≡ false) × (b ≡ false)
neither true b e = absurd cc
neither false b e = (refl, e)

recorded_past : (front back : List Ran) (key : Key) → list_any (same_key key) (map key_of front) ≡ false
    → recorded (front ++ back) key ≡ recorded back key
recorded_past [] back key none = refl
recorded_past (ran ∷ front) back key none =
    let parts = neither (same_key key (key_of ran)) (list_any (same_key key) (map key_of front)) none in
    ap (λ b. cond b (Some ran.probed) (recorded (front ++ back) key)) parts.0 ∙ recorded_past front back key parts.1

all_own : (front back : List Ran) → AreNew (map key_of front) (map key_of back)
    → AreRecordedBy (front ++ back) (map answer_row back)
all_own front [] new = tt
all_own front (ran ∷ back) new = (
  recorded_past front (ran ∷ back) (key_of ran) new.0
      ∙ ap (λ b. cond b (Some ran.probed) (recorded back (key_of ran))) (same_key-same (key_of ran) (key_of ran) refl),
  subst (λ (rans : List Ran). AreRecordedBy rans (map answer_row back)) (append_assoc front (ran ∷ []) back)
      (all_own (front ++ ran ∷ []) back (subst (λ (keys : List Key). AreNew keys (map key_of back))
      (sym (map-append key_of front (ran ∷ []))) new.1)),
)

same_answers : (first second : List Ran) (rows : List AnswerRow)
    → ((key : Key) → recorded second key ≡ recorded first key) → AreRecordedBy first rows
    → AreRecordedBy second rows
same_answers first second [] same own = tt
same_answers first second (row ∷ rows) same own = (same row.key ∙ own.0, same_answers first second rows same own.1)

-- ---- the choice

-- the first trial of a choice
pub record IsFirst (chosen : Chosen) (ending : Option Ending) (asked : List Key) : Type 0 where
  pub resolved : Resolved
  pub group : List Key
  pub first : ending ≡ Some (FirstTrial chosen.place resolved group)
  pub choice : IsChoice chosen chosen.place resolved group asked

first_of_choice : (chosen : Chosen) (ending : Option Ending) (asked : List Key) (erred : Bool)
    → DetectsAs (Ok chosen) ending asked erred → IsFirst chosen ending asked
first_of_choice chosen None asked erred d = absurd d
first_of_choice chosen (Some (TooManyTrials place)) asked erred d = absurd d
first_of_choice chosen (Some (FirstTrial place resolved group)) asked erred d = record {
  resolved = resolved;
  group = group;
  first = ap (λ p. Some (FirstTrial p resolved group)) (sym d.place);
  choice = record { group = d.group; plan = d.plan; place = refl; trial = d.trial; trials = d.trials; asked = d.asked };
}

module _ (frame : DetectFrame) (catalog : List Descriptor) (order : List (List Entry)) where
  -- a choice by the answers of some children, which are exactly those that have to be asked
  recorded_by : (found : Recorded) (ran : List Ran) → found.answers ≡ map answer_row ran →
      DetectsAs (Ok found.chosen) (first_trial (says frame.target build_plan ran) catalog order)
      (asked_keys frame.target (says frame.target build_plan ran) catalog order)
      (has_erred frame.target (says frame.target build_plan ran) catalog order) →
      map (λ r. r.job) ran ≡ map (detect_job frame)
      (asked_members frame.target (says frame.target build_plan ran) catalog order) →
      IsRecorded order catalog frame.target found
  unfolding asked_members
  recorded_by found ran rows detects jobs =
      let say = says frame.target build_plan ran in
      let is : says_recorded frame.target found.answers ≡ say = ap (says_recorded frame.target) rows
      ∙ says_rows frame.target ran in
      let first = first_of_choice found.chosen (first_trial say catalog order)
      (asked_keys frame.target say catalog order) (has_erred frame.target say catalog order) detects in
      let keys : answered_keys found.answers ≡ asked_keys frame.target say catalog order = ap answered_keys rows
      ∙ (row_keys ran ∙ keys_ran frame (asked_members frame.target say catalog order) ran jobs) in
      record {
        resolved = first.resolved;
        group = first.group;
        first = ap (λ (s : Member → Verdict). first_trial s catalog order) is ∙ first.first;
        choice = subst (λ (s : Member → Verdict). IsChoice found.chosen found.chosen.place first.resolved
            first.group (asked_keys frame.target s catalog order)) (sym is) first.choice;
        keys = keys ∙ ap (λ (s : Member → Verdict). asked_keys frame.target s catalog order) (sym is);
        once = subst (AreNew []) (sym keys) (members_new
            (fitting frame.target (reached say 0 (listed_groups catalog order))));
      }

  module _ (old new : List SpawnerSeen) where
    pub recorded_so : (result : Result Recorded DetectEnd) → IsRecordedSearch frame
        (listed_groups catalog order) old new result → IfOk result (IsRecorded order catalog frame.target)
    recorded_so (Err end) s = tt
    recorded_so (Ok found) s =
        let d = detection_of frame catalog order old new s.rows (Ok found.chosen) s.search in
        recorded_by found s.search.answers (s.own ∙ s.search.rows_are) d.detects d.asked

    pub answered_so : (result : Result Recorded DetectEnd) → IsRecordedSearch frame
        (listed_groups catalog order) old new result →
        (finished : List Ran) → AskedBy finished old new → IfOk result (λ found. AreRecordedBy finished found.answers)
    answered_so (Err end) s finished asked = tt
    answered_so (Ok found) s finished asked =
        let ran = s.search.answers in
        let d = detection_of frame catalog order old new s.rows (Ok found.chosen) s.search in
        let rows : found.answers ≡ map answer_row ran = s.own ∙ s.search.rows_are in
        let r = recorded_by found ran rows d.detects d.asked in
        let new_keys : AreNew [] (map key_of ran) = subst (AreNew []) (ap answered_keys rows ∙ row_keys ran) r.once in
        subst (AreRecordedBy finished) (sym rows)
        (same_answers ran finished (map answer_row ran)
        (recorded_in_any_order ran finished old new s.search.asked_by asked
        (each_once frame (fitting frame.target (listed_groups catalog order)) ran s.search.some))
        (all_own [] ran new_keys))

-- ---- what holds of a choice with its answers holds of the choice

pub chosen_ok : (P : Chosen → Type 0) (result : Result Recorded DetectEnd) → IfOk (chosen_of result) P
    → IfOk result (λ found. P found.chosen)
chosen_ok P (Ok found) h = h
chosen_ok P (Err end) h = tt

pub ok_chosen : (P : Chosen → Type 0) (result : Result Recorded DetectEnd) → IfOk result (λ found. P found.chosen)
    → IfOk (chosen_of result) P
ok_chosen P (Ok found) h = h
ok_chosen P (Err end) h = tt

pub chosen_counts : (cause_of : DetectEnd → Cause) (result : Result Recorded DetectEnd) (before now : List ℕ)
    → CountsSpawners cause_of result before now → CountsSpawners cause_of (chosen_of result) before now
chosen_counts cause_of (Ok found) before now h = h
chosen_counts cause_of (Err end) before now h = h

pub no_choice : (frame : DetectFrame) (groups : List (List Member)) (old new : List SpawnerSeen)
    (rows : List AnswerRow) (end : DetectEnd) → IsSearch frame groups old new rows (Err end)
    → IsRecordedSearch frame groups old new (Err end)
no_choice frame groups old new rows end s = record { rows = rows; search = s; own = tt }

pub choice_found : (frame : DetectFrame) (walk groups : List (List Member)) (old new : List SpawnerSeen)
    (rows : List AnswerRow) (result : Result Chosen DetectEnd) (chosen : Chosen) → walk ≡ groups →
    IsSearch frame walk old new rows result → result ≡ Ok chosen
    → IsRecordedSearch frame groups old new (Ok (record { chosen = chosen; answers = rows }))
choice_found frame walk groups old new rows result chosen all s is = record {
  rows = rows;
  search = subst (λ (r : Result Chosen DetectEnd). IsSearch frame groups old new rows r) is
      (subst (λ (gs : List (List Member)). IsSearch frame gs old new rows result) all s);
  own = refl;
}

-- ---- one answer more

pub answer_more : (keys : List Key) (answers : List Probed) (at : ℕ) (key : Key) (probed : Probed)
    → at ≡ length answers → at < length keys → key ≡ get_or keys at key →
    answer_rows (take (at + 1) keys) (answers ++ probed ∷ []) ≡ answer_rows (take at keys) answers
    ++ record { key = key; probed = probed } ∷ []
answer_more [] answers at key probed e lt is = absurd (omega arith)
answer_more (k ∷ keys) [] at key probed e lt is =
    let none : at ≡ 0 = omega arith in
    let own : key ≡ k = subst (λ (n : ℕ). key ≡ get_or (k ∷ keys) n key) none is in
    rw (e, own) refl
answer_more (k ∷ keys) (first ∷ answers) zero key probed e lt is = absurd (omega arith)
answer_more (k ∷ keys) (first ∷ answers) (suc at) key probed e lt is =
    let next : suc at + 1 ≡ suc (at + 1) = omega arith in
    rw next (ap (λ rows. record { key = k; probed = first } ∷ rows)
    (answer_more keys answers at key probed (omega arith) (omega arith) is))

pub add_more : (keys : List Key) (answers : List Probed) (at : ℕ) (key own : Key) (probed : Probed)
    (first rows more : List AnswerRow) → at ≡ length answers → at < length keys → key ≡ get_or keys at key
    → own ≡ key →
    rows ≡ first ++ answer_rows (take at keys) answers → more ≡ rows ++ record { key = own; probed = probed } ∷ [] →
    more ≡ first ++ answer_rows (take (at + 1) keys) (answers ++ probed ∷ [])
add_more keys answers at key own probed first rows more e lt is copied so_far added =
    let row : Key → AnswerRow = λ k. record { key = k; probed = probed } in
    added ∙ ((λ i. so_far i ++ row (copied i) ∷ [])
    ∙ (append_assoc first (answer_rows (take at keys) answers) (row key ∷ [])
    ∙ ap (λ rs. first ++ rs) (sym (answer_more keys answers at key probed e lt is))))

-- ---- one row more is kept

pub keep_more : (rows : List AnswerRow) (at : ℕ) (row : AnswerRow) (kept more : List KeptRow) (own : Key)
    (verdict : Verdict) → at < length rows → row ≡ get_or rows at row → own ≡ row.key →
    verdict ≡ answer_of build_plan row.probed → kept ≡ map kept_row (take at rows)
    → more ≡ kept ++ (own, verdict) ∷ [] → more ≡ map kept_row (take (at + 1) rows)
keep_more rows at row kept more own verdict lt is copied said so_far added =
    let one_more : take (at + 1) rows ≡ take at rows ++ row ∷ [] = take_more rows at row lt
    ∙ ap (λ r. take at rows ++ r ∷ []) (sym is) in
    added ∙ ((λ i. so_far i ++ (copied i, said i) ∷ []) ∙ sym
    (ap (map kept_row) one_more ∙ map-append kept_row (take at rows) (row ∷ [])))

pub key_at : (rows : List AnswerRow) (at : ℕ) (row : AnswerRow) → at < length rows → row ≡ get_or rows at row
    → row.key ≡ get_or (answered_keys rows) at row.key
key_at [] at row lt is = absurd (omega arith)
key_at (r ∷ rows) zero row lt is = ap (λ (x : AnswerRow). x.key) is
key_at (r ∷ rows) (suc at) row lt is = key_at rows at row (omega arith) is
