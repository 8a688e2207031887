-- The lines of a record that is made, read again, lead to the choice that it is made of.
use Rattle.std.proofs.Common.{◌≡◌, ◌∙◌, ℕ, ◌+◌, ◌-◌, ◌≤◌, Bool, true, false, cond, ◌||◌, not, List, [], ◌∷◌, ◌++◌, map}
use Rattle.std.proofs.Common.{take, zero, suc, Option, Some, None, Result, Ok, Err, refl, sym, ap, subst, arith}
use Rattle.std.proofs.Common.{append_assoc, append-nil}
use Rattle.std.specs.List.{filter, list_all, list_any}
use Rattle.std.proofs.lemmas.Bool.{and_from, or_left, or_right}
use Rattle.std.proofs.lemmas.List.{map-append}
use Rattle.std.proofs.lemmas.List.Folds.{list_any-append}
use Rattle.cnb_toml.specs.declared.names.Key.{Key}
use Rattle.cnb_toml.specs.declared.target.Target.{Target}
use Rattle.cnb_toml.specs.Keys.{same_key}
use Rattle.order_expand.specs.declared.member.Member.{Member}
use Rattle.plan_resolve.specs.declared.rows.AliveRow.{AliveRow}
use Rattle.plan_resolve.specs.declared.rows.Resolved.{Resolved}
use Rattle.plan_resolve.specs.declared.rows.TrialRow.{TrialRow}
use Rattle.plan_resolve.specs.Resolution.{Resolution, TooMany, Passes, Fails, resolution}
use Rattle.detect_core.specs.declared.chosen.AnswerRow.{AnswerRow}
use Rattle.detect_core.specs.declared.chosen.Verdict.{Verdict}
use Rattle.detect_core.specs.Answer.{alive_of, answer_of, build_plan, is_fit}
use Rattle.detect_core.specs.Asking.{AreNew}
use Rattle.detect_core.specs.Detection.{Ending, FirstTrial, ending_at, ending_by, ending_of_rows, first_ending, fitting}
use Rattle.detect_core.specs.Detection.{reached}
use Rattle.detect_core.specs.Kept.{has_key, keys_of}
use Rattle.detect_core.specs.Recorded.{answered_keys, kept_row}
use Rattle.detect_core.proofs.AskingLemmas.{any-keys}
use Rattle.detect_core.proofs.FittingLemmas.{any_put, any_put_here}
use Rattle.detect_core.proofs.MemberLemmas.{any-met, flat, same_key-same}
use Rattle.detect_record.specs.declared.outcome.Checked.{Checked}
use Rattle.detect_record.specs.declared.outcome.CheckFault.{CheckFault}
use Rattle.detect_record.specs.declared.outcome.CheckFault.TheVariants.{Bad}
use Rattle.detect_record.specs.declared.parts.GroupLine.{GroupLine}
use Rattle.detect_record.specs.declared.parts.Line.{Line}
use Rattle.detect_record.specs.declared.parts.Line.TheVariants.{Head, Target as TargetLine, Group}
use Rattle.detect_record.specs.Checking.{Answering, Following, Reading, Untitled, checked_at, following, read_all}
use Rattle.detect_record.specs.Making.{answer_line}
use Rattle.detect_record.specs.Proving.{answered_by, are_asked, asked_in, same_keys}
use Rattle.detect_record.specs.Record.{AtEnd, AtGroup, Stage, after, after_all}

-- ---- lines of groups

abbrev then_read : List (List Member) → ℕ → List (Option Line) → Option Reading → Result Checked CheckFault
then_read groups taken pieces next = elim next
    [ Some reading ↦ read_all groups (taken + 1) reading pieces | None ↦ Err (Bad (taken + 1)) ]

abbrev group_pieces : List GroupLine → List (Option Line)
group_pieces lines = map Some (map Group lines)

line_read : (groups : List (List Member)) (target : Option Target) (answers : List (Key × Verdict)) (taken : ℕ)
    (lines : List GroupLine) (next : Option Stage) (place : ℕ) (rows : List AliveRow) (number : ℕ)
    (trial : List TrialRow) (set : List ℕ)
    → after_all (answered_by target answers groups) next lines ≡ Some (AtEnd place rows number trial set)
    → ((stage : Stage) → after_all (answered_by target answers groups) (Some stage) lines
    ≡ Some (AtEnd place rows number trial set)
    → read_all groups (taken + 1) (Following target answers stage) (group_pieces lines)
    ≡ Ok (checked_at place rows number trial set))
    → then_read groups taken (group_pieces lines) (following target answers next)
    ≡ Ok (checked_at place rows number trial set)
line_read groups target answers taken lines None place rows number trial set e later = absurd cc
line_read groups target answers taken lines (Some next) place rows number trial set e later = later next e

groups_read : (groups : List (List Member)) (target : Option Target) (answers : List (Key × Verdict)) (taken : ℕ)
    (stage : Stage) (lines : List GroupLine) (place : ℕ) (rows : List AliveRow) (number : ℕ)
    (trial : List TrialRow) (set : List ℕ)
    → after_all (answered_by target answers groups) (Some stage) lines ≡ Some (AtEnd place rows number trial set)
    → read_all groups taken (Following target answers stage) (group_pieces lines)
    ≡ Ok (checked_at place rows number trial set)
groups_read groups target answers taken stage [] place rows number trial set e =
    let same : stage ≡ AtEnd place rows number trial set = cc in
    ap (λ (s : Stage). read_all groups taken (Following target answers s) []) same
groups_read groups target answers taken stage (line ∷ lines) place rows number trial set e =
    line_read groups target answers taken lines (after (answered_by target answers groups) stage line) place rows
    number trial set e
    (λ next f. groups_read groups target answers (taken + 1) next lines place rows number trial set f)

-- the first line of a group comes behind the answers
behind_answers : (groups : List (List Member)) (target : Option Target) (answers : List (Key × Verdict))
    (taken : ℕ) (lines : List GroupLine) (place : ℕ) (rows : List AliveRow) (number : ℕ) (trial : List TrialRow)
    (set : List ℕ)
    → after_all (answered_by target answers groups) (Some (AtGroup 0 groups)) lines
    ≡ Some (AtEnd place rows number trial set)
    → read_all groups taken (Answering target answers) (group_pieces lines)
    ≡ Ok (checked_at place rows number trial set)
behind_answers groups target answers taken [] place rows number trial set e = absurd cc
behind_answers groups target answers taken (line ∷ lines) place rows number trial set e =
    line_read groups target answers taken lines (after (answered_by target answers groups)
    (AtGroup 0 groups) line) place rows number trial set e
    (λ next f. groups_read groups target answers (taken + 1) next lines place rows number trial set f)

-- ---- answers

abbrev answered_pieces : List AnswerRow → List GroupLine → List (Option Line)
answered_pieces rows lines = map Some (map answer_line rows ++ map Group lines)

new_key : (known : List (Key × Verdict)) (key : Key) (verdict : Verdict) (taken : ℕ) (groups : List (List Member))
    (target : Option Target) (pieces : List (Option Line)) → has_key known key ≡ false
    → then_read groups taken pieces (cond (has_key known key) None
    (Some (Answering target (known ++ (key, verdict) ∷ []))))
    ≡ read_all groups (taken + 1) (Answering target (known ++ (key, verdict) ∷ [])) pieces
new_key known key verdict taken groups target pieces new =
    ap (λ b. then_read groups taken pieces (cond b None (Some (Answering target (known ++ (key, verdict) ∷ []))))) new

answers_read : (groups : List (List Member)) (target : Option Target) (known : List (Key × Verdict))
    (answers : List AnswerRow) (taken : ℕ) (lines : List GroupLine) (place : ℕ) (rows : List AliveRow)
    (number : ℕ) (trial : List TrialRow) (set : List ℕ)
    → AreNew (keys_of known) (answered_keys answers)
    → after_all (answered_by target (known ++ map kept_row answers) groups) (Some (AtGroup 0 groups)) lines
    ≡ Some (AtEnd place rows number trial set)
    → read_all groups taken (Answering target known) (answered_pieces answers lines)
    ≡ Ok (checked_at place rows number trial set)
answers_read groups target known [] taken lines place rows number trial set new e =
    behind_answers groups target known taken lines place rows number trial set
    (ap (λ (answers : List (Key × Verdict)). after_all (answered_by target answers groups)
    (Some (AtGroup 0 groups)) lines) (sym (append-nil known)) ∙ e)
answers_read groups target known (row ∷ answers) taken lines place rows number trial set new e =
    let more = known ++ kept_row row ∷ [] in
    let keys : keys_of more ≡ keys_of known ++ row.key ∷ [] = map-append (λ (kept : Key × Verdict). kept.0) known
    (kept_row row ∷ []) in
    let later : AreNew (keys_of more) (answered_keys answers) = subst
    (λ (ks : List Key). AreNew ks (answered_keys answers)) (sym keys) new.1 in
    let whole : more ++ map kept_row answers ≡ known ++ map kept_row (row ∷ answers) = append_assoc known
    (kept_row row ∷ []) (map kept_row answers) in
    new_key known row.key (answer_of build_plan row.probed) taken groups target (answered_pieces answers lines)
    (sym (any-keys known row.key) ∙ new.0)
    ∙ answers_read groups target more answers (taken + 1) lines place rows number trial set later
    (ap (λ (all : List (Key × Verdict)). after_all (answered_by target all groups)
    (Some (AtGroup 0 groups)) lines) whole ∙ e)

-- the lines of a record
pub record_read : (groups : List (List Member)) (target : Option Target) (answers : List AnswerRow)
    (lines : List GroupLine) (place : ℕ) (rows : List AliveRow) (number : ℕ) (trial : List TrialRow)
    (set : List ℕ)
    → AreNew [] (answered_keys answers)
    → after_all (answered_by target (map kept_row answers) groups) (Some (AtGroup 0 groups)) lines
    ≡ Some (AtEnd place rows number trial set)
    → read_all groups 0 Untitled (map Some (Head ∷ TargetLine target ∷ map answer_line answers
    ++ map Group lines)) ≡ Ok (checked_at place rows number trial set)
record_read groups target answers lines place rows number trial set new e = answers_read groups target [] answers
    (0 + 1 + 1) lines place rows number trial set new e

-- ---- the groups reached

abbrev ending_or : Option Ending → Option Ending → Option Ending
ending_or found later = elim found [ Some ending ↦ Some ending | None ↦ later ]

abbrev reached_or : Option Ending → List (List Member) → List (List Member)
reached_or found later = elim found [ Some ending ↦ [] | None ↦ later ]

abbrev ReachedTo : (Member → Verdict) → ℕ → ℕ → List (List Member) → Type 0
ReachedTo says at place groups = (at ≤ place) × (reached says at groups ≡ take (place - at + 1) groups)

ends_rows : (at : ℕ) (rows : List AliveRow) (found : Resolution) (place : ℕ) (resolved : Resolved)
    (keys : List Key) → ending_by at rows found ≡ Some (FirstTrial place resolved keys) → at ≡ place
ends_rows at rows TooMany place resolved keys e = absurd cc
ends_rows at rows (Passes passing) place resolved keys e = cc
ends_rows at rows Fails place resolved keys e = absurd cc

ends_alive : (at : ℕ) (alive : Option (List AliveRow)) (place : ℕ) (resolved : Resolved) (keys : List Key)
    → ending_of_rows at alive ≡ Some (FirstTrial place resolved keys) → at ≡ place
ends_alive at None place resolved keys e = absurd cc
ends_alive at (Some rows) place resolved keys e = ends_rows at rows (resolution rows) place resolved keys e

reached_by : (says : Member → Verdict) (at place : ℕ) (group : List Member) (groups : List (List Member))
    (resolved : Resolved) (keys : List Key) (found : Option Ending) → ending_at says at group ≡ found
    → ending_or found (first_ending says (at + 1) groups) ≡ Some (FirstTrial place resolved keys)
    → (first_ending says (at + 1) groups ≡ Some (FirstTrial place resolved keys) → ReachedTo says (at + 1) place groups)
    → (at ≤ place) × (group ∷ reached_or found (reached says (at + 1) groups) ≡ take (place - at + 1) (group ∷ groups))
reached_by says at place group groups resolved keys (Some ending) is e later =
    let here : at ≡ place = ends_alive at (alive_of says group) place resolved keys (is ∙ e) in
    let one : place - at + 1 ≡ suc zero = omega (arith, here) in
    (omega (arith, here), ap (λ n. take n (group ∷ groups)) (sym one))
reached_by says at place group groups resolved keys None is e later =
    let rest = later e in
    let more : place - at + 1 ≡ suc (place - (at + 1) + 1) = omega (arith, rest.0) in
    (omega (arith, rest.0), ap (λ gs. group ∷ gs) rest.1 ∙ ap (λ n. take n (group ∷ groups)) (sym more))

reached_to : (says : Member → Verdict) (at place : ℕ) (groups : List (List Member)) (resolved : Resolved)
    (keys : List Key) → first_ending says at groups ≡ Some (FirstTrial place resolved keys)
    → ReachedTo says at place groups
reached_to says at place [] resolved keys e = absurd cc
reached_to says at place (group ∷ groups) resolved keys e =
    reached_by says at place group groups resolved keys (ending_at says at group) refl e
    (λ f. reached_to says (at + 1) place groups resolved keys f)

same_keys-same : (keys : List Key) → same_keys keys keys ≡ true
same_keys-same [] = refl
same_keys-same (key ∷ keys) = and_from (same_key key key) (same_keys keys keys) (same_key-same key key refl)
    (same_keys-same keys)

-- the answered keys are those that are asked in the groups reached
pub keys_asked : (target : Option Target) (says : Member → Verdict) (answers : List (Key × Verdict))
    (groups : List (List Member)) (place : ℕ) (resolved : Resolved) (group : List Key)
    → first_ending says 0 groups ≡ Some (FirstTrial place resolved group)
    → keys_of answers ≡ asked_in target (reached says 0 groups) → are_asked target answers groups place ≡ true
keys_asked target says answers groups place resolved group first keys =
    let to = (reached_to says 0 place groups resolved group first).1 in
    let same : place - 0 + 1 ≡ place + 1 = omega arith in
    let all : keys_of answers ≡ asked_in target (take (place + 1) groups) = keys
    ∙ ap (asked_in target) (to ∙ ap (λ n. take n groups) same) in
    ap (λ (ks : List Key). same_keys (keys_of answers) ks) (sym all) ∙ same_keys-same (keys_of answers)

-- ---- each member that was met is answered

module _ (target : Option Target) (has : Key → Bool) where
  abbrev answered : Member → Bool
  answered member = not (is_fit target member) || has member.key

  abbrev Answers : List Member → Type 0
  Answers members = (member : Member) → list_any (λ other. same_key member.key other.key) members ≡ true
      → has member.key ≡ true

  fit_answered : (fit : Bool) (member : Member) → (fit ≡ true → has member.key ≡ true)
      → (not fit || has member.key) ≡ true
  fit_answered true member answers = answers refl
  fit_answered false member answers = refl

  group_answered : (group : List Member) → Answers (filter (is_fit target) group) → list_all answered group ≡ true
  group_answered [] answers = refl
  group_answered (member ∷ members) answers =
      let kept = filter (is_fit target) members in
      and_from (answered member) (list_all answered members)
      (fit_answered (is_fit target member) member
      (λ fit. answers member (any_put_here (λ other. same_key member.key other.key)
      (is_fit target member) member kept fit (same_key-same member.key member.key refl))))
      (group_answered members (λ other there. answers other
      (any_put (λ m. same_key other.key m.key) (is_fit target member) member kept there)))

  groups_answered : (groups : List (List Member)) → Answers (flat (fitting target groups))
      → list_all (list_all answered) groups ≡ true
  groups_answered [] answers = refl
  groups_answered (group ∷ groups) answers =
      let here = filter (is_fit target) group in
      let later = flat (fitting target groups) in
      and_from (list_all answered group) (list_all (list_all answered) groups)
      (group_answered group (λ other there. answers other
      (list_any-append (λ m. same_key other.key m.key) here later
      ∙ or_left (list_any (λ m. same_key other.key m.key) here)
      (list_any (λ m. same_key other.key m.key) later) there)))
      (groups_answered groups (λ other there. answers other
      (list_any-append (λ m. same_key other.key m.key) here later
      ∙ or_right (list_any (λ m. same_key other.key m.key) here)
      (list_any (λ m. same_key other.key m.key) later) there)))

pub all_answered : (target : Option Target) (answers : List (Key × Verdict)) (groups : List (List Member))
    → keys_of answers ≡ asked_in target groups
    → list_all (list_all (λ member. not (is_fit target member) || has_key answers member.key)) groups ≡ true
all_answered target answers groups keys =
    groups_answered target (has_key answers) groups
    (λ member there. sym (any-keys answers member.key)
    ∙ (ap (list_any (same_key member.key)) keys ∙ (any-met member.key (flat (fitting target groups))
    ∙ there)))
