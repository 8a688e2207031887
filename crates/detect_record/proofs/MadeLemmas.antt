-- The record that is made proves the choice that it is made of.
use Rattle.std.proofs.Common.{◌≡◌, ◌∙◌, ℕ, Bool, true, false, cond, List, [], ◌∷◌, ◌++◌, map, length, Option, Some}
use Rattle.std.proofs.Common.{None, Result, Ok, Err, refl, sym, ap, inl, inr}
use Rattle.std.specs.Prelude.{IfOk, IsOk, IsTrue, OnOk, nat_le}
use Rattle.std.specs.List.{All, list_all, list_any}
use Rattle.std.proofs.lemmas.Bool.{and_from, and_parts, cases_Bool, le-leb, ltb-false, or_cases, or_parts}
use Rattle.std.proofs.lemmas.List.Elements.{All-nil, All-cons, All-head, All-tail, All-append}
use Rattle.steps.specs.Causes.{IsAnswer}
use Rattle.cnb_toml.specs.Names.{is_target_name}
use Rattle.cnb_toml.specs.declared.names.Key.{Key}
use Rattle.cnb_toml.specs.declared.target.Target.{Target}
use Rattle.cnb_toml.specs.Keys.{same_key}
use Rattle.cnb_env.specs.Base.{is_named_target}
use Rattle.bp_docs.specs.declared.descriptor.Descriptor.{Descriptor}
use Rattle.bp_docs.specs.declared.descriptor.Entry.{Entry}
use Rattle.order_expand.specs.declared.member.Member.{Member}
use Rattle.order_expand.specs.Check.{checked}
use Rattle.order_expand.specs.Groups.{listed_groups}
use Rattle.plan_resolve.specs.declared.rows.AliveRow.{AliveRow}
use Rattle.plan_resolve.specs.declared.rows.TrialRow.{TrialRow}
use Rattle.plan_resolve.specs.Plan.{at_places}
use Rattle.plan_resolve.specs.Resolution.{resolved_at}
use Rattle.detect_core.specs.declared.chosen.AnswerRow.{AnswerRow}
use Rattle.detect_core.specs.declared.chosen.Recorded.{Recorded}
use Rattle.detect_core.specs.declared.chosen.Verdict.{Verdict}
use Rattle.detect_core.specs.Answer.{is_fit, where_fit}
use Rattle.detect_core.specs.Detection.{FirstTrial, asked_members, first_ending, first_trial, reached}
use Rattle.detect_core.specs.Kept.{KeptRow, has_key, keys_of, options_of, verdict_for, verdict_or_error}
use Rattle.detect_core.specs.Recorded.{IsRecorded, answered_keys, kept_row, says_recorded}
use Rattle.detect_core.specs.Search.{group_rows}
use Rattle.detect_core.specs.Searching.{is_long}
use Rattle.detect_core.proofs.AskingLemmas.{any-keys, map-map}
use Rattle.detect_core.proofs.KeptLemmas.{not_kept}
use Rattle.detect_core.proofs.LimitLemmas.{listed_within}
use Rattle.detect_core.proofs.MemberLemmas.{same_key-true}
use Rattle.detect_record.specs.declared.outcome.RecordFault.{RecordFault}
use Rattle.detect_record.specs.declared.outcome.RecordFault.TheVariants.{Large}
use Rattle.detect_record.specs.declared.parts.GroupLine.{GroupLine}
use Rattle.detect_record.specs.declared.parts.Line.TheVariants.{Head, Target as TargetLine, Group}
use Rattle.detect_record.specs.Canonical.{lines_of}
use Rattle.detect_record.specs.Checking.{Untitled, check_of, checked_at, read_all}
use Rattle.detect_record.specs.Lines.{lines_text}
use Rattle.detect_record.specs.LineLaws.{IsSound, IsSoundAnswer, IsSoundGroup, IsSoundTarget}
use Rattle.detect_record.specs.Making.{answer_line, checked_of, fault_cause, record_lines, record_of}
use Rattle.detect_record.specs.Proving.{answered_by, asked_in}
use Rattle.detect_record.specs.Record.{AtEnd, AtGroup}
use Rattle.detect_record.specs.Sizes.{are_numbered, have_few_names}
use Rattle.detect_record.proofs.CanonicalLaws.{canonical_proves}
use Rattle.detect_record.proofs.LineLawLemmas.{lines_back}
use Rattle.detect_record.proofs.ReadBackLemmas.{all_answered, keys_asked, record_read}
use Rattle.detect_record.proofs.RecordLemmas.{record_proves}
use Rattle.detect_record.proofs.SoundLemmas.{FewSaid, is_short, lines_sound}

-- ---- what the answers say has few names

abbrev few_at : List KeptRow → Key → Bool
few_at kept key = have_few_names (options_of (verdict_for kept key))

-- a test of keys that each row passes
row_passes : (p : Key → Bool) (key : Key) (rows : List AnswerRow)
    → list_any (same_key key) (answered_keys rows) ≡ true → list_all (λ row. p row.key) rows ≡ true → p key ≡ true
row_passes p key [] there all = absurd cc
row_passes p key (row ∷ rows) there all =
    let parts = and_parts (p row.key) (list_all (λ r. p r.key) rows) all in
    elim (or_cases (same_key key row.key) (list_any (same_key key) (answered_keys rows)) there) [
      | inl here ↦ ap p (same_key-true key row.key here) ∙ parts.0
      | inr later ↦ row_passes p key rows later parts.1
    ]

keys_kept : (rows : List AnswerRow) → keys_of (map kept_row rows) ≡ answered_keys rows
keys_kept rows = map-map (λ (row : KeptRow). row.0) kept_row rows

key_few : (rows : List AnswerRow) (key : Key) → are_numbered (map kept_row rows) rows ≡ true
    → few_at (map kept_row rows) key ≡ true
key_few rows key all = elim (cases_Bool (has_key (map kept_row rows) key)) [
  | inl there ↦ row_passes (few_at (map kept_row rows)) key rows
      (ap (list_any (same_key key)) (sym (keys_kept rows)) ∙ (any-keys (map kept_row rows) key ∙ there)) all
  | inr none ↦ ap (λ (verdict : Option Verdict). have_few_names (options_of (verdict_or_error verdict)))
      (not_kept (map kept_row rows) key none)
]

fit_few : (fit : Bool) (verdict : Verdict) → have_few_names (options_of verdict) ≡ true
    → have_few_names (options_of (where_fit fit verdict)) ≡ true
fit_few true verdict few = few
fit_few false verdict few = refl

said_few : (target : Option Target) (rows : List AnswerRow) → are_numbered (map kept_row rows) rows ≡ true
    → FewSaid (says_recorded target rows)
said_few target rows all member = fit_few (is_fit target member) (verdict_for (map kept_row rows) member.key)
    (key_few rows member.key all)

-- ---- the groups are short

short_groups : (groups : List (List Member)) → list_any is_long groups ≡ false → list_all is_short groups ≡ true
short_groups [] e = refl
short_groups (group ∷ groups) e =
    let parts = or_parts (is_long group) (list_any is_long groups) e in
    and_from (is_short group) (list_all is_short groups)
    (le-leb (length group) 256 (ltb-false 256 (length group) parts.0)) (short_groups groups parts.1)

-- ---- the lines are sound

target_sound : (target : Option Target) → IsTrue (is_named_target target) → IsSoundTarget target
target_sound None named = tt
target_sound (Some target) named = let both = and_parts (is_target_name target.os)
    (is_target_name target.arch) named in (both.0, both.1)

answers_sound : (rows : List AnswerRow) → All (λ row. IsSoundAnswer row.key row.probed) rows
    → All IsSound (map answer_line rows)
answers_sound [] sound = All-nil IsSound
answers_sound (row ∷ rows) sound =
    let P : AnswerRow → Type 0 = λ r. IsSoundAnswer r.key r.probed in
    All-cons IsSound (answer_line row) (map answer_line rows) (All-head P row rows sound)
    (answers_sound rows (All-tail P row rows sound))

groups_sound : (lines : List GroupLine) → All IsSoundGroup lines → All IsSound (map Group lines)
groups_sound [] sound = All-nil IsSound
groups_sound (line ∷ lines) sound =
    All-cons IsSound (Group line) (map Group lines) (All-head IsSoundGroup line lines sound)
    (groups_sound lines (All-tail IsSoundGroup line lines sound))

lines_are_sound : (target : Option Target) (rows : List AnswerRow) (lines : List GroupLine)
    → IsTrue (is_named_target target) → All (λ row. IsSoundAnswer row.key row.probed) rows
    → All IsSoundGroup lines
    → All IsSound (Head ∷ TargetLine target ∷ map answer_line rows ++ map Group lines)
lines_are_sound target rows lines named answers groups =
    let behind = All-append IsSound (map answer_line rows) (map Group lines) (answers_sound rows answers)
    (groups_sound lines groups) in
    All-cons IsSound Head (TargetLine target ∷ map answer_line rows ++ map Group lines) tt
    (All-cons IsSound (TargetLine target) (map answer_line rows ++ map Group lines) (target_sound target named) behind)

-- ---- what is proved is the choice

choice_is : (catalog : List Descriptor) (order : List (List Entry)) (target : Option Target) (found : Recorded)
    → IsRecorded order catalog target found
    → (place : ℕ) (rows : List AliveRow) (number : ℕ) (trial : List TrialRow) (set : List ℕ)
    → first_ending (says_recorded target found.answers) 0 (listed_groups catalog order)
    ≡ Some (FirstTrial place (resolved_at rows number trial set) (map (λ row. row.key) (at_places rows set)))
    → checked_at place rows number trial set ≡ checked_of found
unfolding first_trial
choice_is catalog order target found recorded place rows number trial set e =
    let both : Some (FirstTrial place (resolved_at rows number trial set)
    (map (λ row. row.key) (at_places rows set))) ≡ Some (FirstTrial found.chosen.place recorded.resolved
    recorded.group) = sym e ∙ recorded.first in
    let at : place ≡ found.chosen.place = cc in
    let kept : resolved_at rows number trial set ≡ recorded.resolved = cc in
    let keys : map (λ row. row.key) (at_places rows set) ≡ recorded.group = cc in
    let group : group_rows (map (λ row. row.key) (at_places rows set)) ≡ found.chosen.group = ap group_rows keys
    ∙ sym recorded.choice.group in
    let plan : (resolved_at rows number trial set).plan ≡ found.chosen.plan = ap (λ r. r.plan) kept
    ∙ sym recorded.choice.plan in
    let first : number ≡ found.chosen.trial = ap (λ r. r.trial) kept ∙ sym recorded.choice.trial in
    λ i. record { group = group i; plan = plan i; place = at i; trial = first i }

-- ---- the record

within_is : (text bytes : List ℕ) (few : Bool) → cond few (Ok text) (Err Large) ≡ Ok bytes → bytes ≡ text
within_is text bytes true e = cc
within_is text bytes false e = absurd cc

record_checked : (catalog : List Descriptor) (order : List (List Entry)) (target : Option Target)
    (found : Recorded) → IsOk (checked catalog order) → IsTrue (is_named_target target)
    → IsRecorded order catalog target found
    → are_numbered (map kept_row found.answers) found.answers ≡ true
    → All (λ row. IsSoundAnswer row.key row.probed) found.answers
    → check_of catalog order (lines_text (record_lines target found.answers (listed_groups catalog order)))
    ≡ Ok (checked_of found)
unfolding first_trial asked_members check_of
record_checked catalog order target found right named recorded few answers =
    let says = says_recorded target found.answers in
    let groups = listed_groups catalog order in
    let kept = map kept_row found.answers in
    let answered = answered_by target kept groups in
    let keys : keys_of kept ≡ asked_in target (reached says 0 groups) = keys_kept found.answers ∙ recorded.keys in
    let asked = all_answered target kept (reached says 0 groups) keys in
    let all = keys_asked target says kept groups found.chosen.place recorded.resolved recorded.group
    recorded.first keys in
    let end = canonical_proves answered groups found.chosen.place recorded.resolved recorded.group recorded.first
    asked all in
    let first = record_proves answered groups (lines_of says groups) found.chosen.place end.0 end.1 end.2 end.3 end.4 in
    let within = listed_within catalog order right in
    let lines = lines_sound answered (AtGroup 0 groups) (lines_of says groups)
    (AtEnd found.chosen.place end.0 end.1 end.2 end.3) (said_few target found.answers few)
    (short_groups groups within.short) end.4 in
    let sound = lines_are_sound target found.answers (lines_of says groups) named answers lines in
    let read = lines_back (record_lines target found.answers groups) sound in
    ap (read_all groups 0 Untitled) read
    ∙ record_read groups target found.answers (lines_of says groups) found.chosen.place end.0 end.1 end.2 end.3
    recorded.once end.4
    ∙ ap Ok (choice_is catalog order target found recorded found.chosen.place end.0 end.1 end.2 end.3 first.0)

pub record_proves_choice : (catalog : List Descriptor) (order : List (List Entry)) (target : Option Target)
    (found : Recorded) (kept : List KeptRow) (result : Result (List ℕ) RecordFault) → IsOk (checked catalog order)
    → IsTrue (is_named_target target) → IsRecorded order catalog target found → kept ≡ map kept_row found.answers
    → OnOk result (are_numbered kept found.answers ≡ true) → All
    (λ row. IsSoundAnswer row.key row.probed) found.answers
    → IsAnswer fault_cause result (record_of catalog order target found)
    → IfOk result (λ bytes. check_of catalog order bytes ≡ Ok (checked_of found))
unfolding record_of
record_proves_choice catalog order target found kept (Ok bytes) right named recorded is_kept few answers is =
    let text = lines_text (record_lines target found.answers (listed_groups catalog order)) in
    let same : bytes ≡ text = within_is text bytes (nat_le (length text) 16777216) is in
    let numbered : are_numbered (map kept_row found.answers) found.answers
    ≡ true = ap (λ (rows : List KeptRow). are_numbered rows found.answers) (sym is_kept) ∙ few in
    ap (check_of catalog order) same ∙ record_checked catalog order target found right named recorded numbered answers
record_proves_choice catalog order target found kept (Err fault) right named recorded is_kept few answers is = tt
