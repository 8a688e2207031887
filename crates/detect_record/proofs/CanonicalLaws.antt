-- The canonical record meets its rules, and ends with the trial that passes.
use Rattle.std.proofs.Common.{◌≡◌, ℕ, ◌+◌, Bool, true, false, cond, ◌&&◌, ◌||◌, not, List, [], ◌∷◌, ◌++◌, ◌⊎◌, map}
use Rattle.std.proofs.Common.{length, refl, sym, ◌∙◌, ap, subst, inl, inr, Option, Some, None, zero, suc, arith}
use Rattle.std.proofs.Common.{length-append}
use Rattle.std.specs.Prelude.{slice_get, nat_lt, nat_le, ◌==◌}
use Rattle.std.specs.List.{list_all, list_any, filter_map, flat_map, cons_option}
use Rattle.std.proofs.lemmas.Bool.{false≢true, and_parts, and_from, or_left, or_right, cases_Bool, eq-eqb, le-leb}
use Rattle.std.proofs.lemmas.Bool.{ltb-false, lt-ltb}
use Rattle.std.proofs.lemmas.List.Folds.{list_all-append}
use Rattle.cnb_toml.specs.declared.names.Key.{Key}
use Rattle.bp_docs.specs.declared.build_plan.PlanOption.{PlanOption}
use Rattle.order_expand.specs.declared.member.Member.{Member}
use Rattle.plan_resolve.specs.declared.rows.TrialRow.{TrialRow}
use Rattle.plan_resolve.specs.declared.rows.AliveRow.{AliveRow}
use Rattle.plan_resolve.specs.declared.rows.Resolved.{Resolved}
use Rattle.plan_resolve.specs.Trials.{places, kept_of, is_closed, numbers_below}
use Rattle.plan_resolve.specs.Choices.{choices_of, choice_count, chosen_row}
use Rattle.plan_resolve.specs.Plan.{at_places}
use Rattle.plan_resolve.specs.Resolution.{Resolution, TooMany, resolution, resolved_at, first_passing, passes_or_fails}
use Rattle.detect_core.specs.declared.chosen.Verdict.{Verdict}
use Rattle.detect_core.specs.declared.chosen.Verdict.TheVariants.{Pass, Fail, Error}
use Rattle.detect_core.specs.Answer.{is_pass, alive_of, alive_row}
use Rattle.detect_core.specs.Detection.{Ending, TooManyTrials, FirstTrial, first_ending, ending_at, ending_of_rows}
use Rattle.detect_core.specs.Detection.{ending_by, reached}
use Rattle.detect_record.specs.declared.parts.GroupLine.{GroupLine}
use Rattle.detect_record.specs.declared.parts.GroupLine.TheVariants.{Fails, Idle, Trials, Chosen, Drop, Keep}
use Rattle.detect_record.specs.declared.parts.Step.{Step}
use Rattle.detect_record.specs.Record.{Answered, Stage, AtGroup, AtEnd, stage_if, trying, fails_at, begun, begun_if}
use Rattle.detect_record.specs.Record.{after_group, kept_stage, after_trial, after_all, drops, left_after, is_empty}
use Rattle.detect_record.specs.RecordLaws.{CanonicalProves}
use Rattle.detect_record.specs.Canonical.{line_of, lines_until, first_failing, dead_line, dead_line_by, lines_by}
use Rattle.detect_record.specs.Canonical.{lines_with, lines_of}
use Rattle.detect_record.proofs.DropLemmas.{drops_fail, keeps_pass}
use Rattle.detect_record.proofs.CanonicalLemmas.{IsGood, line_from_good, IsFrom, from_start, from_next, from_here}

-- ---- trials have places

length_numbers : (n : ℕ) → length (numbers_below n) ≡ n
length_numbers zero = refl
length_numbers (suc n) = let more = length-append (numbers_below n) (n ∷ []) in let same = length_numbers n
    in omega (arith, more, same)

abbrev pub some_rows : List TrialRow → Bool
some_rows trial = nat_lt 0 (length trial)

cons_some : (row : TrialRow) (trials : List (List TrialRow))
    → list_all some_rows (map (λ trial. row ∷ trial) trials) ≡ true
cons_some row [] = refl
cons_some row (trial ∷ trials) = and_from (some_rows (row ∷ trial)) (list_all some_rows (map (λ t. row ∷ t) trials))
    (lt-ltb 0 (length (row ∷ trial)) (omega arith)) (cons_some row trials)

options_some : (row : AliveRow) (trials : List (List TrialRow)) (options : List PlanOption) →
    list_all some_rows (flat_map (λ option. map (λ trial. chosen_row row option ∷ trial) trials) options) ≡ true
options_some row trials [] = refl
options_some row trials (option ∷ options) =
    let here = map (λ trial. chosen_row row option ∷ trial) trials in
    let later = flat_map (λ o. map (λ trial. chosen_row row o ∷ trial) trials) options in
    list_all-append some_rows here later
    ∙ and_from (list_all some_rows here) (list_all some_rows later) (cons_some (chosen_row row option) trials)
    (options_some row trials options)

choices_some : (rows : List AliveRow) → nat_lt 0 (length rows) ≡ true → list_all some_rows (choices_of rows) ≡ true
choices_some [] some = absurd (false≢true some)
choices_some (row ∷ rows) some = options_some row (choices_of rows) row.options

more_rows : {X : Type 0} (x : X) (xs : List X) → nat_lt 0 (length (x ∷ xs)) ≡ true
more_rows x xs = lt-ltb 0 (length (x ∷ xs)) (omega arith)

passing_first : (member : Member) (verdict : Verdict) (rows : List AliveRow) (later : Bool)
    → (is_pass verdict || later) ≡ true → (later ≡ true → nat_lt 0 (length rows) ≡ true) →
    nat_lt 0 (length (cons_option (alive_row member verdict) rows)) ≡ true
passing_first member (Pass options) rows later any more = more_rows
    (record { key = member.key; optional = member.optional; options = options }) rows
passing_first member Fail rows later any more = more any
passing_first member Error rows later any more = more any

passing_rows : (says : Member → Verdict) (group : List Member) → list_any (λ m. is_pass (says m)) group ≡ true →
    nat_lt 0 (length (filter_map (λ m. alive_row m (says m)) group)) ≡ true
passing_rows says [] any = absurd (false≢true any)
passing_rows says (member ∷ members) any =
    passing_first member (says member) (filter_map (λ m. alive_row m (says m)) members)
    (list_any (λ m. is_pass (says m)) members) any
    (λ h. passing_rows says members h)

alive_parts : (b : Bool) (all rows : List AliveRow) → cond b (Some all) None ≡ Some rows → (b ≡ true) × (all ≡ rows)
alive_parts true all rows e = (refl, cc)
alive_parts false all rows e = absurd cc

dead_part : (b : Bool) (all : List AliveRow) → cond b (Some all) None ≡ None → b ≡ false
dead_part true all e = absurd cc
dead_part false all e = refl

abbrev stands : (Member → Verdict) → Member → Bool
stands says member = member.optional || is_pass (says member)

alive_some : (says : Member → Verdict) (group : List Member) (rows : List AliveRow)
    → alive_of says group ≡ Some rows → nat_lt 0 (length rows) ≡ true
alive_some says group rows e =
    let all = filter_map (λ m. alive_row m (says m)) group in
    let parts = alive_parts (list_all (stands says) group && list_any (λ m. is_pass (says m)) group) all rows e in
    let both = and_parts (list_all (stands says) group) (list_any (λ m. is_pass (says m)) group) parts.0 in
    subst (λ (r : List AliveRow). nat_lt 0 (length r) ≡ true) parts.1 (passing_rows says group both.1)

-- ---- lines of trials

cases_kept : (kept : Option (List ℕ)) → ((set : List ℕ) × (kept ≡ Some set)) ⊎ (kept ≡ None)
cases_kept (Some set) = inl (set, refl)
cases_kept None = inr refl

abbrev after_kept : List AliveRow → ℕ → List TrialRow → Option Resolved → Option (List ℕ) → Option Resolved
after_kept rows number trial later kept = elim kept
    [ Some set ↦ Some (resolved_at rows number trial set) | None ↦ later ]

good_line : (trial : List TrialRow) → some_rows trial ≡ true → IsGood trial (places trial) (line_of trial)
good_line trial some =
    let same = length_numbers (length trial) in
    line_from_good (length trial) trial (places trial) (omega (arith, same)) (ap (λ n. nat_lt 0 n) same ∙ some)

drop_line : (trial : List TrialRow) (line : GroupLine) → IsGood trial (places trial) line → kept_of trial ≡ None →
    (steps : List Step) × (line ≡ Drop steps) × (drops trial (places trial) steps ≡ true)
drop_line trial (Drop steps) good none = (steps, refl, good)
drop_line trial (Keep steps) good none =
    let passes : None ≡ Some good.0 = sym none ∙ keeps_pass trial steps good.0 good.1 good.2 good.3 in absurd cc
drop_line trial (Fails member) good none = absurd good
drop_line trial Idle good none = absurd good
drop_line trial (Trials count) good none = absurd good
drop_line trial (Chosen count) good none = absurd good

keep_line : (trial : List TrialRow) (line : GroupLine) (set : List ℕ) → IsGood trial (places trial) line
    → kept_of trial ≡ Some set →
    (steps : List Step) × (left : List ℕ) × (line ≡ Keep steps)
    × (left_after trial (places trial) steps ≡ Some left) × (nat_lt 0 (length left) ≡ true)
    × (is_closed trial left ≡ true)
keep_line trial (Keep steps) set good kept = (steps, good.0, refl, good.1, good.2, good.3)
keep_line trial (Drop steps) set good kept = let fails : None ≡ Some set = sym (drops_fail trial steps good)
    ∙ kept in absurd cc
keep_line trial (Fails member) set good kept = absurd good
keep_line trial Idle set good kept = absurd good
keep_line trial (Trials count) set good kept = absurd good
keep_line trial (Chosen count) set good kept = absurd good

dropped : (answered : Answered) (chosen : Bool) (place : ℕ) (rows : List AliveRow) (left : List (List Member))
    (number : ℕ) (trial : List TrialRow) (trials : List (List TrialRow)) →
    some_rows trial ≡ true → kept_of trial ≡ None → not (chosen && is_empty trials) ≡ true →
    after_trial chosen place rows left number trial trials (line_of trial)
    ≡ Some (trying chosen place rows left (number + 1) trials)
dropped answered chosen place rows left number trial trials some none more =
    let found = drop_line trial (line_of trial) (good_line trial some) none in
    ap (after_trial chosen place rows left number trial trials) found.1
    ∙ ap (λ b. stage_if b (trying chosen place rows left (number + 1) trials))
    (and_from (drops trial (places trial) found.0) (not (chosen && is_empty trials)) found.2 more)

passed_parts : (rows : List AliveRow) (number : ℕ) (trial : List TrialRow) (later : Option Resolved)
    (kept : Option (List ℕ)) →
    after_kept rows number trial later kept ≡ None → (kept ≡ None) × (later ≡ None)
passed_parts rows number trial later (Some set) e = absurd cc
passed_parts rows number trial later None e = (refl, e)

-- behind the lines of trials that all fail comes the next group
tried_all : (answered : Answered) (place : ℕ) (rows : List AliveRow) (left : List (List Member)) (number : ℕ)
    (trials : List (List TrialRow)) (later : List GroupLine) →
    list_all some_rows trials ≡ true → first_passing rows number trials ≡ None →
    after_all answered (Some (trying false place rows left number trials)) (map line_of trials ++ later)
    ≡ after_all answered (Some (AtGroup (place + 1) left)) later
tried_all answered place rows left number [] later some none = refl
tried_all answered place rows left number (trial ∷ trials) later some none =
    let parts = passed_parts rows number trial (first_passing rows (number + 1) trials) (kept_of trial) none in
    let both = and_parts (some_rows trial) (list_all some_rows trials) some in
    ap (λ stage. after_all answered stage (map line_of trials ++ later))
    (dropped answered false place rows left number trial trials both.0 parts.0 refl)
    ∙ tried_all answered place rows left (number + 1) trials later both.1 parts.1

abbrev lines_behind : List GroupLine → Option (List ℕ) → List GroupLine
lines_behind later kept = elim kept [ Some set ↦ [] | None ↦ later ]

-- the lines lead to an end at a place
abbrev EndsAt : Answered → Option Stage → List GroupLine → ℕ → Type 0
EndsAt answered stage lines place =
    (rows : List AliveRow) × (number : ℕ) × (trial : List TrialRow) × (set : List ℕ)
    × (after_all answered stage lines ≡ Some (AtEnd place rows number trial set))

not_empty : (rows : List AliveRow) (number : ℕ) (trials : List (List TrialRow)) (resolved : Resolved)
    → first_passing rows number trials ≡ Some resolved → not (true && is_empty trials) ≡ true
not_empty rows number [] resolved e = absurd cc
not_empty rows number (trial ∷ trials) resolved e = refl

tried_until : (answered : Answered) (place : ℕ) (rows : List AliveRow) (left : List (List Member)) (number : ℕ)
    (trials : List (List TrialRow)) (resolved : Resolved) →
    list_all some_rows trials ≡ true → first_passing rows number trials ≡ Some resolved
    → EndsAt answered (Some (trying true place rows left number trials)) (lines_until trials) place
tried_until answered place rows left number [] resolved some e = absurd cc
tried_until answered place rows left number (trial ∷ trials) resolved some e =
    let both = and_parts (some_rows trial) (list_all some_rows trials) some in
    let later = lines_until trials in
    let next = after_trial true place rows left number trial trials (line_of trial) in
    elim (cases_kept (kept_of trial)) [
      | inl kept ↦
          let found = keep_line trial (line_of trial) kept.0 (good_line trial both.0) kept.1 in (
            rows,
            number,
            trial,
            found.1,
            ap (λ k. after_all answered next (lines_behind later k)) kept.1
                ∙ ap (λ stage. after_all answered stage [])
                (ap (after_trial true place rows left number trial trials) found.2
                ∙ (ap (kept_stage place rows number trial) found.3
                ∙ ap (λ b. stage_if b (AtEnd place rows number trial found.1))
                (and_from (nat_lt 0 (length found.1)) (is_closed trial found.1) found.4 found.5))),
          )
      | inr none ↦
          let rest : first_passing rows (number + 1) trials ≡ Some resolved = sym
          (ap (after_kept rows number trial (first_passing rows (number + 1) trials)) none) ∙ e in
          let end = tried_until answered place rows left (number + 1) trials resolved both.1 rest in (
            end.0,
            end.1,
            end.2,
            end.3,
            ap (λ k. after_all answered next (lines_behind later k)) none
                ∙ (ap (λ stage. after_all answered stage later)
                (dropped answered true place rows left number trial trials both.0 none
                (not_empty rows (number + 1) trials resolved rest))
                ∙ end.4),
          )
    ]

-- ---- lines of groups

failing_at : (says : Member → Verdict) (number k : ℕ) (all members : List Member) → IsFrom all number members →
    first_failing says number members ≡ Some k → fails_at says (slice_get all k) ≡ true
failing_at says number k all [] from e = absurd cc
failing_at says number k all (member ∷ members) from e =
    let later = first_failing says (number + 1) members in
    elim (cases_Bool (not member.optional)) [
      | inr o ↦ failing_at says (number + 1) k all members (from_next all number member members from)
          (sym (ap (λ b. cond b (cond (is_pass (says member)) later (Some number)) later) o) ∙ e)
      | inl o ↦ elim (cases_Bool (is_pass (says member))) [
        | inl p ↦ failing_at says (number + 1) k all members (from_next all number member members from)
            (sym (ap (λ b. cond b (cond (is_pass (says member)) later (Some number)) later) o
            ∙ ap (λ b. cond b later (Some number)) p) ∙ e)
        | inr p ↦
            let here : Some number ≡ Some k = sym (ap (λ b. cond b
            (cond (is_pass (says member)) later (Some number)) later) o
            ∙ ap (λ b. cond b later (Some number)) p) ∙ e in
            let same : number ≡ k = cc in
            ap (λ n. fails_at says (slice_get all n)) (sym same)
            ∙ (ap (fails_at says) (from_here all number member members from)
            ∙ and_from (not member.optional) (not (is_pass (says member))) o (ap not p))
      ]
    ]

not_is : (b : Bool) → not b ≡ false → b ≡ true
not_is true n = refl
not_is false n = absurd cc

none_failing : (says : Member → Verdict) (number : ℕ) (members : List Member)
    → first_failing says number members ≡ None → list_all (stands says) members ≡ true
none_failing says number [] e = refl
none_failing says number (member ∷ members) e =
    let later = first_failing says (number + 1) members in
    let rest = list_all (stands says) members in
    elim (cases_Bool (not member.optional)) [
      | inr o ↦ and_from (stands says member) rest (or_left member.optional (is_pass (says member))
          (not_is member.optional o))
          (none_failing says (number + 1) members (sym (ap
          (λ b. cond b (cond (is_pass (says member)) later (Some number)) later) o) ∙ e))
      | inl o ↦ elim (cases_Bool (is_pass (says member))) [
        | inl p ↦ and_from (stands says member) rest (or_right member.optional (is_pass (says member)) p)
            (none_failing says (number + 1) members (sym (ap
            (λ b. cond b (cond (is_pass (says member)) later (Some number)) later) o
            ∙ ap (λ b. cond b later (Some number)) p) ∙ e))
        | inr p ↦
            let here : Some number ≡ None = sym (ap (λ b. cond b
            (cond (is_pass (says member)) later (Some number)) later) o
            ∙ ap (λ b. cond b later (Some number)) p) ∙ e in absurd cc
      ]
    ]

idle_any : (all any : Bool) → all ≡ true → (all && any) ≡ false → not any ≡ true
idle_any true true a e = absurd cc
idle_any true false a e = refl
idle_any false any a e = absurd (false≢true a)

dead_right : (answered : Answered) (place : ℕ) (group : List Member) (left : List (List Member))
    (failing : Option ℕ) → first_failing answered.says 0 group ≡ failing →
    alive_of answered.says group ≡ None → after_group answered place group left (dead_line_by failing)
    ≡ Some (AtGroup (place + 1) left)
dead_right answered place group left (Some k) e dead =
    ap (λ b. stage_if b (AtGroup (place + 1) left)) (failing_at answered.says 0 k group group (from_start group) e)
dead_right answered place group left None e dead =
    ap (λ b. stage_if b (AtGroup (place + 1) left))
    (idle_any (list_all (stands answered.says) group) (list_any (λ m. is_pass (answered.says m)) group)
    (none_failing answered.says 0 group e)
    (dead_part (list_all (stands answered.says) group && list_any (λ m. is_pass (answered.says m)) group)
    (filter_map (λ m. alive_row m (answered.says m)) group) dead))

begun_all : (chosen : Bool) (place : ℕ) (alive : Option (List AliveRow)) (rows : List AliveRow)
    (left : List (List Member)) → alive ≡ Some rows → nat_lt 65536 (choice_count rows) ≡ false →
    begun chosen place alive left (choice_count rows) ≡ Some (trying chosen place rows left 0 (choices_of rows))
begun_all chosen place alive rows left is few =
    ap (λ a. begun chosen place a left (choice_count rows)) is
    ∙ ap (λ b. stage_if b (trying chosen place rows left 0 (choices_of rows)))
    (and_from (nat_le (choice_count rows) 65536) (choice_count rows == choice_count rows)
    (le-leb (choice_count rows) 65536 (ltb-false 65536 (choice_count rows) few))
    (eq-eqb (choice_count rows) (choice_count rows) refl))

resolution_by : (rows : List AliveRow) (b : Bool) → nat_lt 65536 (choice_count rows) ≡ b →
    resolution rows ≡ elim b as (λ _. Resolution)
    [ true ↦ TooMany | false ↦ passes_or_fails (first_passing rows 0 (choices_of rows)) ]
unfolding resolution
resolution_by rows b e = ap (λ b. elim b [
  | true ↦ TooMany
  | false
      ↦ passes_or_fails (first_passing rows 0 (choices_of rows))
]) e

-- ---- all groups

abbrev ending_or : Option Ending → Option Ending → Option Ending
ending_or found later = elim found [ Some ending ↦ Some ending | None ↦ later ]

abbrev reached_or : Option Ending → List (List Member) → List (List Member)
reached_or found later = elim found [ Some ending ↦ [] | None ↦ later ]

-- a group that ends nothing: its lines lead to the next, and the rest goes on
past : (answered : Answered) (place at : ℕ) (group : List Member) (groups : List (List Member))
    (resolved : Resolved) (keys : List Key) (front rest : List GroupLine) →
    ending_at answered.says place group ≡ None →
    first_ending answered.says place (group ∷ groups) ≡ Some (FirstTrial at resolved keys) →
    list_all (list_all answered.has_answer) (reached answered.says place (group ∷ groups)) ≡ true →
    after_all answered (Some (AtGroup place (group ∷ groups))) front
    ≡ after_all answered (Some (AtGroup (place + 1) groups)) rest →
    (first_ending answered.says (place + 1) groups ≡ Some (FirstTrial at resolved keys) →
    list_all (list_all answered.has_answer) (reached answered.says (place + 1) groups) ≡ true →
    EndsAt answered (Some (AtGroup (place + 1) groups)) rest at) →
    EndsAt answered (Some (AtGroup place (group ∷ groups))) front at
past answered place at group groups resolved keys front rest none e asked step on =
    let later = first_ending answered.says (place + 1) groups in
    let further = reached answered.says (place + 1) groups in
    let asked_further : list_all (list_all answered.has_answer) further ≡ true =
    (and_parts (list_all answered.has_answer group) (list_all (list_all answered.has_answer) further)
    (sym (ap (λ x. list_all (list_all answered.has_answer) (group ∷ reached_or x further)) none) ∙ asked)).1 in
    let end = on (sym (ap (λ x. ending_or x later) none) ∙ e) asked_further in
    (end.0, end.1, end.2, end.3, step ∙ end.4)

asked_group : (answered : Answered) (place : ℕ) (group : List Member) (groups : List (List Member)) →
    list_all (list_all answered.has_answer) (reached answered.says place (group ∷ groups)) ≡ true
    → list_all answered.has_answer group ≡ true
asked_group answered place group groups asked =
    (and_parts (list_all answered.has_answer group)
    (list_all (list_all answered.has_answer) (reached_or (ending_at answered.says place group)
    (reached answered.says (place + 1) groups))) asked).0

-- the lines of a group whose trials are no more than may be tried, and of those behind it
alive_ends : (answered : Answered) (place at : ℕ) (group : List Member) (groups : List (List Member))
    (rows : List AliveRow) (resolved : Resolved) (keys : List Key) (later : List GroupLine)
    (passing : Option Resolved) →
    alive_of answered.says group ≡ Some rows → nat_lt 65536 (choice_count rows) ≡ false
    → first_passing rows 0 (choices_of rows) ≡ passing →
    first_ending answered.says place (group ∷ groups) ≡ Some (FirstTrial at resolved keys) →
    list_all (list_all answered.has_answer) (reached answered.says place (group ∷ groups)) ≡ true
    → answered.keys_right at ≡ true →
    (first_ending answered.says (place + 1) groups ≡ Some (FirstTrial at resolved keys) →
    list_all (list_all answered.has_answer) (reached answered.says (place + 1) groups) ≡ true →
    EndsAt answered (Some (AtGroup (place + 1) groups)) later at) →
    EndsAt answered (Some (AtGroup place (group ∷ groups))) (lines_by rows later passing) at
alive_ends answered place at group groups rows resolved keys later None alive few passing e asked right on =
    let ends : ending_at answered.says place group ≡ None =
    ap (ending_of_rows place) alive ∙ (ap (ending_by place rows) (resolution_by rows false few)
    ∙ ap (λ p. ending_by place rows (passes_or_fails p)) passing) in
    past answered place at group groups resolved keys
    (Trials (choice_count rows) ∷ map line_of (choices_of rows) ++ later) later ends e asked
    (ap (λ b. after_all answered (begun_if b (begun false place (alive_of answered.says group) groups
    (choice_count rows))) (map line_of (choices_of rows) ++ later))
    (asked_group answered place group groups asked)
    ∙ (ap (λ stage. after_all answered stage (map line_of (choices_of rows) ++ later))
    (begun_all false place (alive_of answered.says group) rows groups alive few)
    ∙ tried_all answered place rows groups 0 (choices_of rows) later
    (choices_some rows (alive_some answered.says group rows alive)) passing))
    on
alive_ends answered place at group groups rows resolved keys later (Some found) alive few passing e asked right on =
    let ends : ending_at answered.says place group
    ≡ Some (FirstTrial place found (map (λ row. row.key) (at_places rows found.kept))) =
    ap (ending_of_rows place) alive ∙ (ap (ending_by place rows) (resolution_by rows false few)
    ∙ ap (λ p. ending_by place rows (passes_or_fails p)) passing) in
    let both : Some (FirstTrial place found (map (λ row. row.key) (at_places rows found.kept)))
    ≡ Some (FirstTrial at resolved keys) =
    sym (ap (λ x. ending_or x (first_ending answered.says (place + 1) groups)) ends) ∙ e in
    let same : at ≡ place = cc in
    let here : answered.keys_right place ≡ true = subst (λ (p : ℕ). answered.keys_right p ≡ true) same right in
    let end = tried_until answered place rows groups 0 (choices_of rows) found
    (choices_some rows (alive_some answered.says group rows alive)) passing in
    subst (λ (p : ℕ). EndsAt answered (Some (AtGroup place (group ∷ groups)))
    (Chosen (choice_count rows) ∷ lines_until (choices_of rows)) p) (sym same) (
      end.0,
      end.1,
      end.2,
      end.3,
      ap (λ b. after_all answered (begun_if b (begun_if (answered.keys_right place)
          (begun true place (alive_of answered.says group) groups (choice_count rows))))
          (lines_until (choices_of rows))) (asked_group answered place group groups asked)
          ∙ (ap (λ b. after_all answered (begun_if b (begun true place (alive_of answered.says group) groups
          (choice_count rows))) (lines_until (choices_of rows))) here
          ∙ (ap (λ stage. after_all answered stage (lines_until (choices_of rows)))
          (begun_all true place (alive_of answered.says group) rows groups alive few)
          ∙ end.4)),
    )

group_ends : (answered : Answered) (place at : ℕ) (group : List Member) (groups : List (List Member))
    (resolved : Resolved) (keys : List Key) (later : List GroupLine) (alive : Option (List AliveRow)) →
    alive_of answered.says group ≡ alive →
    first_ending answered.says place (group ∷ groups) ≡ Some (FirstTrial at resolved keys) →
    list_all (list_all answered.has_answer) (reached answered.says place (group ∷ groups)) ≡ true
    → answered.keys_right at ≡ true →
    (first_ending answered.says (place + 1) groups ≡ Some (FirstTrial at resolved keys) →
    list_all (list_all answered.has_answer) (reached answered.says (place + 1) groups) ≡ true →
    EndsAt answered (Some (AtGroup (place + 1) groups)) later at) →
    EndsAt answered (Some (AtGroup place (group ∷ groups))) (lines_with answered.says group later alive) at
group_ends answered place at group groups resolved keys later None alive e asked right on =
    past answered place at group groups resolved keys (dead_line answered.says group ∷ later) later
    (ap (ending_of_rows place) alive) e asked
    (ap (λ b. after_all answered (begun_if b (after_group answered place group groups
    (dead_line answered.says group))) later) (asked_group answered place group groups asked)
    ∙ ap (λ stage. after_all answered stage later)
    (dead_right answered place group groups (first_failing answered.says 0 group) refl alive))
    on
group_ends answered place at group groups resolved keys later (Some rows) alive e asked right on =
    elim (cases_Bool (nat_lt 65536 (choice_count rows))) [
      | inr few ↦ alive_ends answered place at group groups rows resolved keys later
          (first_passing rows 0 (choices_of rows)) alive few refl e asked right on
      | inl many ↦
          let ends : ending_at answered.says place group ≡ Some (TooManyTrials place) = ap
          (ending_of_rows place) alive ∙ ap (ending_by place rows) (resolution_by rows true many) in
          let both : Some (TooManyTrials place) ≡ Some (FirstTrial at resolved keys) = sym
          (ap (λ x. ending_or x (first_ending answered.says (place + 1) groups)) ends) ∙ e in
          absurd cc
    ]

all_ends : (answered : Answered) (place at : ℕ) (groups : List (List Member)) (resolved : Resolved) (keys : List Key) →
    first_ending answered.says place groups ≡ Some (FirstTrial at resolved keys) →
    list_all (list_all answered.has_answer) (reached answered.says place groups) ≡ true
    → answered.keys_right at ≡ true →
    EndsAt answered (Some (AtGroup place groups)) (lines_of answered.says groups) at
all_ends answered place at [] resolved keys e asked right = absurd cc
all_ends answered place at (group ∷ groups) resolved keys e asked right =
    group_ends answered place at group groups resolved keys (lines_of answered.says groups)
    (alive_of answered.says group) refl e asked right
    (λ more further. all_ends answered (place + 1) at groups resolved keys more further right)

pub canonical_proves : CanonicalProves
canonical_proves answered groups place resolved keys e asked right = all_ends answered 0 place groups resolved
    keys e asked right
