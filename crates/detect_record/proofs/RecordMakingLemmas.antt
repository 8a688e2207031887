-- The record that is made is the canonical one.
use Rattle.std.proofs.Common.{◌≡◌, ◌∙◌, ℕ, ◌-◌, ◌<◌, ◌≤◌, List, [], ◌∷◌, ◌++◌, length, map, take, Option, Some, Result}
use Rattle.std.proofs.Common.{Ok, Err, true, false, ap, sym, subst, refl, arith}
use Rattle.std.specs.Prelude.{flat_map, nat_le, slice_get}
use Rattle.std.proofs.lemmas.Bool.{le-leb, lt-leb}
use Rattle.std.proofs.lemmas.List.Concat.{flat_map-append}
use Rattle.std.proofs.lemmas.List.Folds.{flat_map-map}
use Rattle.steps.specs.Causes.{IsAnswer, WhereDecided}
use Rattle.cnb_toml.specs.declared.names.Key.{Key}
use Rattle.cnb_toml.specs.declared.target.Target.{Target}
use Rattle.bp_docs.specs.declared.descriptor.Descriptor.{Descriptor}
use Rattle.bp_docs.specs.declared.descriptor.Entry.{Entry}
use Rattle.order_expand.specs.declared.member.Member.{Member}
use Rattle.order_expand.specs.Groups.{listed_groups}
use Rattle.plan_resolve.specs.declared.rows.Resolved.{Resolved}
use Rattle.detect_core.specs.declared.chosen.AnswerRow.{AnswerRow}
use Rattle.detect_core.specs.declared.chosen.Recorded.{Recorded}
use Rattle.detect_core.specs.declared.chosen.Verdict.{Verdict}
use Rattle.detect_core.specs.Detection.{FirstTrial, first_ending, first_trial}
use Rattle.detect_core.specs.Kept.{KeptRow, kept_says}
use Rattle.detect_core.specs.Recorded.{IsRecorded, kept_row, says_recorded}
use Rattle.detect_record.specs.declared.outcome.RecordFault.{RecordFault}
use Rattle.detect_record.specs.declared.outcome.RecordFault.TheVariants.{Large, Memory}
use Rattle.detect_record.specs.declared.parts.Line.TheVariants.{Head, Target as TargetLine, Group}
use Rattle.detect_record.specs.Canonical.{lines_of}
use Rattle.detect_record.specs.GroupTexts.{chosen_lines, group_whole, groups_whole, passed_lines, passed_whole}
use Rattle.detect_record.specs.Lines.{lines_text, whole_line}
use Rattle.detect_record.specs.Making.{answer_line, answer_whole, fault_cause, record_lines, record_of, within_limit}
use Rattle.detect_record.specs.RecordText.{IsPutBehind}
use Rattle.detect_record.specs.RecordTexts.{record_whole}
use Rattle.detect_record.proofs.GroupTextLemmas.{groups_lines}

-- ---- the limit

fits : (bytes : List ℕ) → length bytes ≤ 16777216 → within_limit bytes ≡ Ok bytes
fits bytes few = let e : nat_le (length bytes) 16777216 ≡ true = le-leb (length bytes) 16777216 few in rw e refl

too_large : (bytes : List ℕ) → 16777216 < length bytes → within_limit bytes ≡ Err Large
too_large bytes many = let e : nat_le (length bytes) 16777216 ≡ false = lt-leb (length bytes) 16777216 many in rw e refl

pub written_whole : (whole start new bytes : List ℕ) → start ≡ [] → new ≡ start ++ whole → bytes ≡ new
    → length new ≤ 16777216 → within_limit whole ≡ Ok bytes
written_whole whole start new bytes begin put is few =
    let same : new ≡ whole = put ∙ ap (λ text. text ++ whole) begin in
    let short : length whole ≤ 16777216 = omega (arith, ap length same) in
    fits whole short ∙ ap Ok (sym (is ∙ same))

refused_by : (whole new : List ℕ) (fault : RecordFault) → IsPutBehind [] whole new (Err fault)
    → WhereDecided (fault_cause fault) (within_limit whole ≡ Err fault)
refused_by whole new Large refused = too_large whole refused
refused_by whole new Memory refused = tt

pub refused_whole : (whole start new : List ℕ) (fault : RecordFault) → start ≡ []
    → IsPutBehind start whole new (Err fault) → WhereDecided (fault_cause fault) (within_limit whole ≡ Err fault)
refused_whole whole start new fault begin refused =
    let P : List ℕ → Type 0 = λ text. IsPutBehind text whole new (Err fault) in
    refused_by whole new fault (subst P begin refused)

-- ---- the lines in bytes

flat_flat : (says : Member → Verdict) (groups : List (List Member))
    → flat_map group_whole (flat_map (passed_lines says) groups) ≡ flat_map (passed_whole says) groups
flat_flat says [] = refl
flat_flat says (group ∷ groups) =
    flat_map-append group_whole (passed_lines says group) (flat_map (passed_lines says) groups)
    ∙ ap (λ text. passed_whole says group ++ text) (flat_flat says groups)

groups_text : (says : Member → Verdict) (groups : List (List Member)) (place trial : ℕ) (resolved : Resolved)
    (keys : List Key) → first_ending says 0 groups ≡ Some (FirstTrial place resolved keys)
    → trial ≡ resolved.trial
    → flat_map group_whole (lines_of says groups) ≡ groups_whole says place trial groups
groups_text says groups place trial resolved keys found is =
    let lines = groups_lines says 0 groups place resolved keys found in
    let same : place - 0 ≡ place = omega arith in
    ap (flat_map group_whole) lines.1
    ∙ flat_map-append group_whole (flat_map (passed_lines says) (take (place - 0) groups))
    (chosen_lines says resolved.trial (slice_get groups (place - 0)))
    ∙ ap (λ text. text ++ flat_map group_whole (chosen_lines says resolved.trial (slice_get groups (place - 0))))
    (flat_flat says (take (place - 0) groups))
    ∙ ap (λ n. flat_map (passed_whole says) (take n groups)
    ++ flat_map group_whole (chosen_lines says resolved.trial (slice_get groups n))) same
    ∙ ap (λ n. flat_map (passed_whole says) (take place groups)
    ++ flat_map group_whole (chosen_lines says n (slice_get groups place))) (sym is)

record_text : (target : Option Target) (rows : List AnswerRow) (groups : List (List Member))
    → lines_text (record_lines target rows groups) ≡ whole_line Head
    ++ (whole_line (TargetLine target) ++ (flat_map answer_whole rows
    ++ flat_map group_whole (lines_of (says_recorded target rows) groups)))
record_text target rows groups =
    let lines = lines_of (says_recorded target rows) groups in
    let behind : flat_map whole_line (map answer_line rows ++ map Group lines) ≡ flat_map answer_whole rows
    ++ flat_map group_whole lines =
    flat_map-append whole_line (map answer_line rows) (map Group lines)
    ∙ ap (λ text. text ++ flat_map whole_line (map Group lines)) (flat_map-map whole_line answer_line rows)
    ∙ ap (λ text. flat_map answer_whole rows ++ text) (flat_map-map whole_line Group lines) in
    ap (λ text. whole_line Head ++ (whole_line (TargetLine target) ++ text)) behind

record_is : (catalog : List Descriptor) (order : List (List Entry)) (target : Option Target) (found : Recorded)
    → IsRecorded order catalog target found
    → within_limit (record_whole (says_recorded target found.answers) target found (listed_groups catalog order))
    ≡ record_of catalog order target found
unfolding first_trial record_of
record_is catalog order target found recorded =
    let says = says_recorded target found.answers in
    let groups = listed_groups catalog order in
    let text = groups_text says groups found.chosen.place found.chosen.trial recorded.resolved recorded.group
    recorded.first recorded.choice.trial in
    ap within_limit (sym (record_text target found.answers groups
    ∙ ap (λ behind. whole_line Head ++ (whole_line (TargetLine target)
    ++ (flat_map answer_whole found.answers ++ behind))) text))

pub record_made : (catalog : List Descriptor) (order : List (List Entry)) (target : Option Target)
    (found : Recorded) (kept : List KeptRow) (groups : List (List Member)) (result : Result (List ℕ) RecordFault)
    → IsRecorded order catalog target found → kept ≡ map kept_row found.answers → groups ≡ listed_groups catalog order
    → IsAnswer fault_cause result (within_limit (record_whole (kept_says target kept) target found groups))
    → IsAnswer fault_cause result (record_of catalog order target found)
record_made catalog order target found kept groups result recorded is_kept is_listed made =
    let whole : within_limit (record_whole (kept_says target kept) target found groups)
    ≡ record_of catalog order target found =
    ap (λ (rows : List KeptRow). within_limit (record_whole (kept_says target rows) target found groups)) is_kept
    ∙ ap (λ (listed : List (List Member)). within_limit
    (record_whole (says_recorded target found.answers) target found listed)) is_listed
    ∙ record_is catalog order target found recorded in
    let P : Result (List ℕ) RecordFault → Type 0 = λ want. IsAnswer fault_cause result want in
    subst P whole made
