-- The lines of groups, one behind another.
use Rattle.std.proofs.Common.{◌≡◌, ◌∙◌, ℕ, zero, suc, ◌+◌, ◌-◌, ◌<◌, ◌≤◌, Bool, true, false, not, ◌&&◌, cond, nat_lt}
use Rattle.std.proofs.Common.{List, [], ◌∷◌, ◌++◌, length, map, take, drop, Option, Some, None, Err, Result, ap, sym}
use Rattle.std.proofs.Common.{subst, refl, inl, inr, arith, append_assoc, append-nil}
use Rattle.std.specs.Prelude.{flat_map, position, slice_get}
use Rattle.std.specs.List.{list_all, position_from}
use Rattle.std.proofs.lemmas.Bool.{cases_Bool, ltb-false}
use Rattle.std.proofs.lemmas.Iterator.Adapters.{position_from-zero}
use Rattle.std.proofs.lemmas.List.{length-append, take_all}
use Rattle.std.proofs.lemmas.List.Folds.{flat_map-map}
use Rattle.cnb_toml.specs.declared.names.Key.{Key}
use Rattle.order_expand.specs.declared.member.Member.{Member}
use Rattle.plan_resolve.specs.declared.rows.AliveRow.{AliveRow}
use Rattle.plan_resolve.specs.declared.rows.Resolved.{Resolved}
use Rattle.plan_resolve.specs.declared.rows.TrialRow.{TrialRow}
use Rattle.plan_resolve.specs.Choices.{choice_count, choices_of}
use Rattle.plan_resolve.specs.Resolution.{Resolution, TooMany, first_passing, has_options, passes_or_fails, resolution}
use Rattle.plan_resolve.specs.Resolution.{resolved_at}
use Rattle.plan_resolve.specs.Trials.{kept_of}
use Rattle.plan_resolve.proofs.ChoiceLemmas.{length-choices}
use Rattle.detect_core.specs.declared.chosen.Verdict.{Verdict}
use Rattle.detect_core.specs.Answer.{alive_of, is_pass}
use Rattle.detect_core.specs.Detection.{Ending, FirstTrial, ending_by, ending_of_rows, first_ending}
use Rattle.detect_record.specs.declared.outcome.RecordFault.{RecordFault}
use Rattle.detect_record.specs.declared.outcome.RecordFault.TheVariants.{Large, Memory}
use Rattle.detect_record.specs.declared.parts.GroupLine.{GroupLine}
use Rattle.detect_record.specs.declared.parts.GroupLine.TheVariants.{Trials, Chosen}
use Rattle.detect_record.specs.Canonical.{dead_line, first_failing, line_of, lines_by, lines_of, lines_until}
use Rattle.detect_record.specs.Canonical.{lines_with}
use Rattle.detect_record.specs.GroupTexts.{chosen_by, chosen_lines, group_whole, groups_whole, passed_by, passed_lines}
use Rattle.detect_record.specs.GroupTexts.{passed_whole}
use Rattle.detect_record.specs.Making.{trial_whole}
use Rattle.detect_record.proofs.PutLemmas.{put_both, put_refused}
use Rattle.detect_record.specs.RecordText.{IsPutBehind}

-- ---- items one behind another

flat_next : {X : Type 0} (f : X → List ℕ) (xs : List X) (at : ℕ) (x : X) → slice_get xs at ≡ Some x
    → flat_map f (take (suc at) xs) ≡ flat_map f (take at xs) ++ f x
flat_next f [] at x e = absurd cc
flat_next f (y ∷ ys) zero x e = let same : y ≡ x = cc in append-nil (f y) ∙ ap f same
flat_next f (y ∷ ys) (suc at) x e = ap (λ text. f y ++ text) (flat_next f ys at x e)
    ∙ sym (append_assoc (f y) (flat_map f (take at ys)) (f x))

flat_longer : {X : Type 0} (f : X → List ℕ) (xs : List X) (few many : ℕ) → few ≤ many
    → length (flat_map f (take few xs)) ≤ length (flat_map f (take many xs))
flat_longer f [] zero zero le = omega arith
flat_longer f [] zero (suc many) le = omega arith
flat_longer f [] (suc few) zero le = omega arith
flat_longer f [] (suc few) (suc many) le = omega arith
flat_longer f (x ∷ xs) zero many le = omega arith
flat_longer f (x ∷ xs) (suc few) zero le = absurd (omega arith)
flat_longer f (x ∷ xs) (suc few) (suc many) le =
    let rest = flat_longer f xs few many (omega arith) in
    omega (arith, rest, length-append (f x) (flat_map f (take few xs)), length-append (f x) (flat_map f (take many xs)))

-- one more item
pub item_put : {X : Type 0} (f : X → List ℕ) (xs : List X) (at : ℕ) (x : X) (old now after : List ℕ)
    → slice_get xs at ≡ Some x → now ≡ old ++ flat_map f (take at xs)
    → after ≡ now ++ f x → after ≡ old ++ flat_map f (take (at + 1) xs)
item_put f xs at x old now after here so_far put =
    let one : at + 1 ≡ suc at = omega arith in
    put ∙ ap (λ text. text ++ f x) so_far ∙ append_assoc old (flat_map f (take at xs)) (f x)
    ∙ ap (λ text. old ++ text) (sym (flat_next f xs at x here))
    ∙ ap (λ count. old ++ flat_map f (take count xs)) (sym one)

-- what is refused behind the first items is refused with more of them
pub item_refused : {X : Type 0} (f : X → List ℕ) (xs : List X) (at last : ℕ) (x : X) (old now after end : List ℕ)
    (fault : RecordFault) → slice_get xs at ≡ Some x → at < last
    → now ≡ old ++ flat_map f (take at xs) → IsPutBehind now (f x) after (Err fault)
    → IsPutBehind old (flat_map f (take last xs)) end (Err fault)
item_refused f xs at last x old now after end Large here less so_far refused =
    let next = ap length (flat_next f xs at x here) in
    let more = flat_longer f xs (suc at) last (omega arith) in
    let before : length now ≡ length old + length (flat_map f (take at xs)) = ap length so_far
    ∙ length-append old (flat_map f (take at xs)) in
    omega (
      arith,
      refused,
      next,
      more,
      before,
      length-append now (f x),
      length-append (flat_map f (take at xs))
          (f x),
      length-append old (flat_map f (take last xs)),
    )
item_refused f xs at last x old now after end Memory here less so_far refused = tt

-- ---- how many trials there are

pub none_counted : (rows : List AliveRow) → list_all has_options rows ≡ false → choice_count rows ≡ 0
none_counted [] h = absurd cc
none_counted (row ∷ rows) h = elim (cases_Bool (has_options row)) [
  | inl some ↦ let rest = none_counted rows (sym (ap (λ b. b && list_all has_options rows) some) ∙ h)
      in rw rest (omega arith)
  | inr none ↦ let no : length row.options ≡ 0 = omega (arith, ltb-false 0 (length row.options) none)
      in rw no (omega arith)
]

-- ---- the first required member that doesn't pass

abbrev is_failing : (Member → Verdict) → Member → Bool
is_failing says member = not member.optional && not (is_pass (says member))

failing_by : (optional passed : Bool) (here later : Option ℕ)
    → cond (not optional && not passed) here later ≡ cond (not optional) (cond passed later here) later
failing_by true true here later = refl
failing_by true false here later = refl
failing_by false true here later = refl
failing_by false false here later = refl

failing_from : (says : Member → Verdict) (number : ℕ) (group : List Member)
    → position_from (is_failing says) number group ≡ first_failing says number group
failing_from says number [] = refl
failing_from says number (member ∷ members) =
    failing_by member.optional (is_pass (says member)) (Some number)
    (position_from (is_failing says) (number + 1) members)
    ∙ ap (λ later. cond (not member.optional) (cond (is_pass (says member)) later (Some number)) later)
    (failing_from says (number + 1) members)

pub failing_is : (says : Member → Verdict) (group : List Member)
    → first_failing says 0 group ≡ position (λ member. not member.optional && not (is_pass (says member))) group
failing_is says group = sym (position_from-zero (is_failing says) group ∙ failing_from says 0 group)

-- ---- the lines of trials

until_by : (rows : List AliveRow) (number : ℕ) (trial : List TrialRow) (trials : List (List TrialRow))
    (resolved : Resolved) (kept : Option (List ℕ)) → kept_of trial ≡ kept
    → elim kept [
      | Some set ↦ Some (resolved_at rows number trial set)
      | None
          ↦ first_passing rows (number + 1) trials
    ] ≡ Some resolved
    → (first_passing rows (number + 1) trials ≡ Some resolved → (number + 1 ≤ resolved.trial)
    × (lines_until trials ≡ map line_of (take (resolved.trial - (number + 1) + 1) trials)))
    → (number ≤ resolved.trial) × (line_of trial ∷ elim kept [ Some set ↦ [] | None ↦ lines_until trials ]
    ≡ map line_of (take (resolved.trial - number + 1) (trial ∷ trials)))
until_by rows number trial trials resolved (Some set) is found later =
    let here : resolved_at rows number trial set ≡ resolved = cc in
    let same : number ≡ resolved.trial = ap (λ r. r.trial) here in
    let one : resolved.trial - number + 1 ≡ suc zero = omega arith in
    (omega arith, ap (λ count. map line_of (take count (trial ∷ trials))) (sym one))
until_by rows number trial trials resolved None is found later =
    let rest = later found in
    let more : resolved.trial - number + 1 ≡ suc (resolved.trial - (number + 1) + 1) = omega (arith, rest.0) in (
      omega (arith, rest.0),
      ap (λ lines. line_of trial ∷ lines) rest.1
          ∙ ap (λ count. map line_of (take count (trial ∷ trials))) (sym more),
    )

until_is : (rows : List AliveRow) (number : ℕ) (trials : List (List TrialRow)) (resolved : Resolved)
    → first_passing rows number trials ≡ Some resolved
    → (number ≤ resolved.trial) × (lines_until trials ≡ map line_of (take (resolved.trial - number + 1) trials))
until_is rows number [] resolved found = absurd cc
until_is rows number (trial ∷ trials) resolved found =
    until_by rows number trial trials resolved (kept_of trial) refl found
    (λ next. until_is rows (number + 1) trials resolved next)

-- ---- the lines of groups

abbrev OnChoice : (Member → Verdict) → ℕ → List (List Member) → ℕ → Resolved → Type 0
OnChoice says at groups place resolved = (at ≤ place)
    × (lines_of says groups ≡ flat_map (passed_lines says) (take (place - at) groups)
    ++ chosen_lines says resolved.trial (slice_get groups (place - at)))

abbrev ends_by : (Member → Verdict) → ℕ → List (List Member) → Option Ending → Option Ending
ends_by says at groups found = elim found [ Some ending ↦ Some ending | None ↦ first_ending says (at + 1) groups ]

-- a group that ends nothing
go_on : (says : Member → Verdict) (at : ℕ) (group : List Member) (groups : List (List Member)) (place : ℕ)
    (resolved : Resolved) (lines : List GroupLine)
    → passed_lines says group ≡ lines → lines_of says (group ∷ groups) ≡ lines ++ lines_of says groups
    → OnChoice says (at + 1) groups place resolved → OnChoice says at (group ∷ groups) place resolved
go_on says at group groups place resolved lines is all rest =
    let more : place - at ≡ suc (place - (at + 1)) = omega (arith, rest.0) in
    let later = flat_map (passed_lines says) (take (place - (at + 1)) groups) in
    let last = chosen_lines says resolved.trial (slice_get groups (place - (at + 1))) in
    let whole : lines_of says (group ∷ groups) ≡ passed_lines says group ++ later ++ last =
    all ∙ ap (λ text. lines ++ text) rest.1 ∙ sym (append_assoc lines later last)
    ∙ ap (λ first. first ++ later ++ last) (sym is) in (
      omega (arith, rest.0),
      whole ∙ ap (λ n. flat_map (passed_lines says) (take n (group ∷ groups))
          ++ chosen_lines says resolved.trial (slice_get (group ∷ groups) n)) (sym more),
    )

ended_at : (says : Member → Verdict) (at : ℕ) (group : List Member) (groups : List (List Member)) (place : ℕ)
    (resolved : Resolved) (rows : List AliveRow) → alive_of says group ≡ Some rows
    → at ≡ place → first_passing rows 0 (choices_of rows) ≡ Some resolved
    → OnChoice says at (group ∷ groups) place resolved
ended_at says at group groups place resolved rows alive here passing =
    let none : place - at ≡ zero = omega arith in
    let first : lines_of says (group ∷ groups) ≡ lines_by rows (lines_of says groups) (Some resolved) =
    ap (lines_with says group (lines_of says groups)) alive ∙ ap (lines_by rows (lines_of says groups)) passing in
    let until = until_is rows 0 (choices_of rows) resolved passing in
    let same : resolved.trial - 0 + 1 ≡ resolved.trial + 1 = omega arith in
    let chosen : chosen_by resolved.trial (Some rows) ≡ chosen_lines says resolved.trial (Some group) = ap
    (chosen_by resolved.trial) (sym alive) in (
      omega arith,
      first ∙ ap (λ lines. Chosen (choice_count rows) ∷ lines)
          (until.1 ∙ ap (λ n. map line_of (take n (choices_of rows))) same) ∙ chosen
          ∙ ap (λ n. flat_map (passed_lines says) (take n (group ∷ groups))
          ++ chosen_lines says resolved.trial (slice_get (group ∷ groups) n)) (sym none),
    )

ends_alive : (says : Member → Verdict) (at : ℕ) (group : List Member) (groups : List (List Member)) (place : ℕ)
    (resolved : Resolved) (keys : List Key) (rows : List AliveRow)
    (many : Bool) (passing : Option Resolved) → alive_of says group ≡ Some rows
    → first_passing rows 0 (choices_of rows) ≡ passing
    → ends_by says at groups (ending_by at rows (cond many TooMany (passes_or_fails passing)))
    ≡ Some (FirstTrial place resolved keys)
    → (first_ending says (at + 1) groups ≡ Some (FirstTrial place resolved keys)
    → OnChoice says (at + 1) groups place resolved) → OnChoice says at (group ∷ groups) place resolved
ends_alive says at group groups place resolved keys rows true passing alive is found later = absurd cc
ends_alive says at group groups place resolved keys rows false (Some first) alive is found later =
    let here : at ≡ place = cc in
    let same : first ≡ resolved = cc in
    ended_at says at group groups place resolved rows alive here (is ∙ ap Some same)
ends_alive says at group groups place resolved keys rows false None alive is found later =
    go_on says at group groups place resolved (Trials (choice_count rows) ∷ map line_of (choices_of rows))
    (ap (passed_by says group) alive)
    (ap (lines_with says group (lines_of says groups)) alive ∙ ap (lines_by rows (lines_of says groups)) is)
    (later found)

by_many : (many : Bool) (found : Resolution) → elim many [ true ↦ TooMany | false ↦ found ] ≡ cond many TooMany found
by_many true found = refl
by_many false found = refl

resolution_is : (rows : List AliveRow) → resolution rows
    ≡ cond (nat_lt 65536 (choice_count rows)) TooMany (passes_or_fails (first_passing rows 0 (choices_of rows)))
unfolding resolution
resolution_is rows = by_many (nat_lt 65536 (choice_count rows))
    (passes_or_fails (first_passing rows 0 (choices_of rows)))

ends_group : (says : Member → Verdict) (at : ℕ) (group : List Member) (groups : List (List Member)) (place : ℕ)
    (resolved : Resolved) (keys : List Key) (alive : Option (List AliveRow)) → alive_of says group ≡ alive
    → ends_by says at groups (ending_of_rows at alive) ≡ Some (FirstTrial place resolved keys)
    → (first_ending says (at + 1) groups ≡ Some (FirstTrial place resolved keys)
    → OnChoice says (at + 1) groups place resolved) → OnChoice says at (group ∷ groups) place resolved
ends_group says at group groups place resolved keys None alive found later =
    go_on says at group groups place resolved (dead_line says group ∷ []) (ap (passed_by says group) alive)
    (ap (lines_with says group (lines_of says groups)) alive) (later found)
ends_group says at group groups place resolved keys (Some rows) alive found later =
    ends_alive says at group groups place resolved keys rows (nat_lt 65536 (choice_count rows))
    (first_passing rows 0 (choices_of rows)) alive refl
    (ap (λ ends. ends_by says at groups (ending_by at rows ends)) (sym (resolution_is rows)) ∙ found) later

-- the lines of the groups are those of the groups that are passed over, and of the chosen one
pub groups_lines : (says : Member → Verdict) (at : ℕ) (groups : List (List Member)) (place : ℕ)
    (resolved : Resolved) (keys : List Key) → first_ending says at groups ≡ Some (FirstTrial place resolved keys)
    → (at ≤ place) × (lines_of says groups ≡ flat_map (passed_lines says) (take (place - at) groups)
    ++ chosen_lines says resolved.trial (slice_get groups (place - at)))
groups_lines says at [] place resolved keys found = absurd cc
groups_lines says at (group ∷ groups) place resolved keys found =
    ends_group says at group groups place resolved keys (alive_of says group) refl found
    (λ next. groups_lines says (at + 1) groups place resolved keys next)

-- ---- the lines of a group

counted_texts : (first : GroupLine) (trials : List (List TrialRow))
    → group_whole first ++ flat_map trial_whole trials ≡ flat_map group_whole (first ∷ map line_of trials)
counted_texts first trials = ap (λ text. group_whole first ++ text) (sym (flat_map-map group_whole line_of trials))

all_taken : (rows : List AliveRow) (count : ℕ) → count ≡ choice_count rows
    → take count (choices_of rows) ≡ choices_of rows
all_taken rows count is = take_all count (choices_of rows) (omega (arith, is, length-choices rows))

pub counted_put : (first : GroupLine) (trials wanted : List (List TrialRow)) (old middle new : List ℕ)
    (result : Result (Unit {0}) RecordFault) → trials ≡ wanted → middle ≡ old ++ group_whole first
    → IsPutBehind middle (flat_map trial_whole trials) new result
    → IsPutBehind old (flat_map group_whole (first ∷ map line_of wanted)) new result
counted_put first trials wanted old middle new result same put behind =
    let whole : group_whole first ++ flat_map trial_whole trials ≡ flat_map group_whole (first ∷ map line_of wanted) =
    counted_texts first trials ∙ ap (λ (ts : List (List TrialRow)). flat_map group_whole (first ∷ map line_of ts))
    same in
    let P : List ℕ → Type 0 = λ text. IsPutBehind old text new result in
    subst P whole (put_both old (group_whole first) middle (flat_map trial_whole trials) new result put behind)

pub failing_put : (rows : List AliveRow) (count : ℕ) (old middle new : List ℕ)
    (result : Result (Unit {0}) RecordFault) → count ≡ choice_count rows
    → middle ≡ old ++ group_whole (Trials count)
    → IsPutBehind middle (flat_map trial_whole (take count (choices_of rows))) new result
    → IsPutBehind old (flat_map group_whole (Trials (choice_count rows) ∷ map line_of (choices_of rows))) new
    result
failing_put rows count old middle new result is put behind =
    let P : ℕ → Type 0 = λ n. IsPutBehind old (flat_map group_whole (Trials n ∷ map line_of (choices_of rows)))
    new result in
    subst P is (counted_put (Trials count) (take count (choices_of rows)) (choices_of rows) old middle new result
    (all_taken rows count is) put behind)

pub passing_put : (rows : List AliveRow) (count last : ℕ) (old middle new : List ℕ)
    (result : Result (Unit {0}) RecordFault) → count ≡ choice_count rows
    → middle ≡ old ++ group_whole (Chosen count)
    → IsPutBehind middle (flat_map trial_whole (take last (choices_of rows))) new result
    → IsPutBehind old (flat_map group_whole (Chosen (choice_count rows)
    ∷ map line_of (take last (choices_of rows)))) new result
passing_put rows count last old middle new result is put behind =
    let P : ℕ → Type 0 = λ n. IsPutBehind old (flat_map group_whole
    (Chosen n ∷ map line_of (take last (choices_of rows)))) new result in
    subst P is (counted_put (Chosen count) (take last (choices_of rows))
    (take last (choices_of rows)) old middle new result refl put behind)

pub failing_refused : (rows : List AliveRow) (count : ℕ) (old middle new : List ℕ) (fault : RecordFault)
    → count ≡ choice_count rows → IsPutBehind old (group_whole (Trials count)) middle (Err fault)
    → IsPutBehind old (flat_map group_whole (Trials (choice_count rows) ∷ map line_of (choices_of rows))) new
    (Err fault)
failing_refused rows count old middle new fault is refused =
    let P : ℕ → Type 0 = λ n. IsPutBehind old (flat_map group_whole (Trials n ∷ map line_of (choices_of rows)))
    new (Err fault) in
    subst P is (put_refused old (group_whole (Trials count))
    (flat_map group_whole (map line_of (choices_of rows))) middle new fault refused)

pub passing_refused : (rows : List AliveRow) (count last : ℕ) (old middle new : List ℕ) (fault : RecordFault)
    → count ≡ choice_count rows → IsPutBehind old (group_whole (Chosen count)) middle (Err fault)
    → IsPutBehind old (flat_map group_whole (Chosen (choice_count rows)
    ∷ map line_of (take last (choices_of rows)))) new (Err fault)
passing_refused rows count last old middle new fault is refused =
    let P : ℕ → Type 0 = λ n. IsPutBehind old (flat_map group_whole
    (Chosen n ∷ map line_of (take last (choices_of rows)))) new (Err fault) in
    subst P is (put_refused old (group_whole (Chosen count))
    (flat_map group_whole (map line_of (take last (choices_of rows)))) middle new fault refused)

-- ---- the group that comes next

pub group_here : {X : Type 0} (xs : List X) (at : ℕ) (x : X) (rest : List X) → drop at xs ≡ x ∷ rest
    → slice_get xs at ≡ Some x
group_here [] zero x rest e = absurd cc
group_here [] (suc at) x rest e = absurd cc
group_here (y ∷ ys) zero x rest e = cc
group_here (y ∷ ys) (suc at) x rest e = group_here ys at x rest e

behind : {X : Type 0} (xs : List X) (at : ℕ) (x : X) (rest : List X) → drop at xs ≡ x ∷ rest → rest ≡ drop (suc at) xs
behind [] zero x rest e = absurd cc
behind [] (suc at) x rest e = absurd cc
behind (y ∷ ys) zero x rest e = cc
behind (y ∷ ys) (suc at) x rest e = behind ys at x rest e

pub groups_behind : {X : Type 0} (xs : List X) (at : ℕ) (x : X) (rest : List X) → drop at xs ≡ x ∷ rest
    → rest ≡ drop (at + 1) xs
groups_behind xs at x rest e =
    let one : at + 1 ≡ suc at = omega arith in
    behind xs at x rest e ∙ ap (λ n. drop n xs) (sym one)

get_dropped : {X : Type 0} (xs : List X) (at : ℕ) → slice_get (drop at xs) 0 ≡ slice_get xs at
get_dropped [] zero = refl
get_dropped [] (suc at) = refl
get_dropped (x ∷ xs) zero = refl
get_dropped (x ∷ xs) (suc at) = get_dropped xs at

pub groups_put : (says : Member → Verdict) (place trial : ℕ) (groups left : List (List Member))
    (old middle new : List ℕ) (result : Result (Unit {0}) RecordFault)
    → middle ≡ old ++ flat_map (passed_whole says) (take place groups)
    → left ≡ drop place groups → IsPutBehind middle
    (flat_map group_whole (chosen_lines says trial (slice_get left 0))) new result
    → IsPutBehind old (groups_whole says place trial groups) new result
groups_put says place trial groups left old middle new result put is behind =
    let P : Option (List Member) → Type 0 = λ group. IsPutBehind middle
    (flat_map group_whole (chosen_lines says trial group)) new result in
    let same : slice_get left 0 ≡ slice_get groups place = ap (λ (ms : List (List Member)). slice_get ms 0) is
    ∙ get_dropped groups place in
    put_both old (flat_map (passed_whole says) (take place groups)) middle
    (flat_map group_whole (chosen_lines says trial (slice_get groups place))) new result put
    (subst P same behind)
