-- Lines that meet their rules have numbers of 32 bits, where no group has more than 256 members and no alternative too
-- many names.
use Rattle.std.proofs.Common.{◌≡◌, ◌∙◌, ℕ, ◌+◌, ◌<◌, ◌≤◌, ◌^◌, Bool, true, false, cond, ◌&&◌, ◌||◌, not, List, [], ◌∷◌}
use Rattle.std.proofs.Common.{map, length, zero, suc, Option, Some, None, refl, sym, ap, subst, arith}
use Rattle.std.specs.Prelude.{slice_get, nat_le, nat_lt, ◌==◌}
use Rattle.std.specs.List.{All, cons_option, filter_map, flat_map, list_all, list_any}
use Rattle.std.proofs.lemmas.Bool.{false≢true, and_parts, and_from, le-leb, leb-true}
use Rattle.std.proofs.lemmas.List.Elements.{All-nil, All-cons}
use Rattle.std.proofs.lemmas.List.Folds.{list_all-append}
use Rattle.bp_docs.specs.declared.build_plan.PlanOption.{PlanOption}
use Rattle.cnb_toml.specs.declared.meta.Need.{Need}
use Rattle.order_expand.specs.declared.member.Member.{Member}
use Rattle.plan_resolve.specs.declared.rows.TrialRow.{TrialRow}
use Rattle.plan_resolve.specs.declared.rows.AliveRow.{AliveRow}
use Rattle.plan_resolve.specs.Choices.{choices_of, choice_count, chosen_row}
use Rattle.plan_resolve.specs.Trials.{is_in, places, is_closed, provided_by, required_by}
use Rattle.detect_core.specs.declared.chosen.Verdict.{Verdict}
use Rattle.detect_core.specs.declared.chosen.Verdict.TheVariants.{Pass, Fail, Error}
use Rattle.detect_core.specs.Answer.{alive_of, alive_row, is_pass}
use Rattle.detect_core.specs.Kept.{options_of}
use Rattle.detect_record.specs.declared.parts.GroupLine.{GroupLine}
use Rattle.detect_record.specs.declared.parts.GroupLine.TheVariants.{Fails, Idle, Trials, Chosen, Drop, Keep}
use Rattle.detect_record.specs.declared.parts.Side.{Side}
use Rattle.detect_record.specs.declared.parts.Side.TheVariants.{Required, Provided}
use Rattle.detect_record.specs.declared.parts.Step.{Step}
use Rattle.detect_record.specs.LineLaws.{IsSoundGroup, IsSoundStep}
use Rattle.detect_record.specs.Record.{Answered, Stage, AtGroup, AtTrial, AtEnd, after, after_all, after_group}
use Rattle.detect_record.specs.Record.{after_trial, begun, begun_if, drops, fails_at, is_empty, is_unmet}
use Rattle.detect_record.specs.Record.{kept_if_chosen, kept_stage, lacks_provider, lacks_requirer, left_after, left_if}
use Rattle.detect_record.specs.Record.{may_drop, stage_if, step_fits, trying, without}
use Rattle.detect_record.specs.Sizes.{has_few_names, have_few_names}

get_below : {X : Type 0} (xs : List X) (i : ℕ) (x : X) → slice_get xs i ≡ Some x → i < length xs
get_below [] i x e = absurd cc
get_below (y ∷ ys) zero x e = omega arith
get_below (y ∷ ys) (suc i) x e = let rest = get_below ys i x e in omega (arith, rest)

get_all : {X : Type 0} (p : X → Bool) (xs : List X) (i : ℕ) (x : X) → slice_get xs i ≡ Some x
    → list_all p xs ≡ true → p x ≡ true
get_all p [] i x e all = absurd cc
get_all p (y ∷ ys) zero x e all = let same : y ≡ x = cc in ap p (sym same) ∙ (and_parts (p y) (list_all p ys) all).0
get_all p (y ∷ ys) (suc i) x e all = get_all p ys i x e (and_parts (p y) (list_all p ys) all).1

-- ---- trials of few names

abbrev few_row : TrialRow → Bool
few_row row = nat_le (length row.provides) 4294967295 && nat_le (length row.needs) 4294967295

abbrev few_trial : ℕ → List TrialRow → Bool
few_trial count trial = nat_le (length trial) count && list_all few_row trial

abbrev few_options : AliveRow → Bool
few_options row = list_all has_few_names row.options

longer : (trial : List TrialRow) (row : TrialRow) (count : ℕ) → nat_le (length trial) count ≡ true
    → nat_le (length (row ∷ trial)) (suc count) ≡ true
longer trial row count le = let less = leb-true (length trial) count le
    in le-leb (length (row ∷ trial)) (suc count) (omega (arith, less))

cons_few : (count : ℕ) (row : TrialRow) (trials : List (List TrialRow)) → few_row row ≡ true
    → list_all (few_trial count) trials ≡ true → list_all (few_trial (suc count))
    (map (λ trial. row ∷ trial) trials) ≡ true
cons_few count row [] few all = refl
cons_few count row (trial ∷ trials) few all =
    let parts = and_parts (few_trial count trial) (list_all (few_trial count) trials) all in
    let both = and_parts (nat_le (length trial) count) (list_all few_row trial) parts.0 in
    and_from (few_trial (suc count) (row ∷ trial)) (list_all (few_trial (suc count)) (map (λ t. row ∷ t) trials))
    (and_from (nat_le (length (row ∷ trial)) (suc count)) (list_all few_row (row ∷ trial))
    (longer trial row count both.0) (and_from (few_row row) (list_all few_row trial) few both.1))
    (cons_few count row trials few parts.1)

options_few : (count : ℕ) (row : AliveRow) (trials : List (List TrialRow)) (options : List PlanOption)
    → list_all has_few_names options ≡ true → list_all (few_trial count) trials ≡ true →
    list_all (few_trial (suc count)) (flat_map (λ option. map (λ trial. chosen_row row option ∷ trial) trials)
    options) ≡ true
options_few count row trials [] few all = refl
options_few count row trials (option ∷ options) few all =
    let here = map (λ trial. chosen_row row option ∷ trial) trials in
    let later = flat_map (λ o. map (λ trial. chosen_row row o ∷ trial) trials) options in
    let parts = and_parts (has_few_names option) (list_all has_few_names options) few in
    list_all-append (few_trial (suc count)) here later
    ∙ and_from (list_all (few_trial (suc count)) here) (list_all (few_trial (suc count)) later)
    (cons_few count (chosen_row row option) trials parts.0 all)
    (options_few count row trials options parts.1 all)

choices_few : (rows : List AliveRow) → list_all few_options rows ≡ true
    → list_all (few_trial (length rows)) (choices_of rows) ≡ true
choices_few [] few = refl
choices_few (row ∷ rows) few =
    let parts = and_parts (few_options row) (list_all few_options rows) few in
    options_few (length rows) row (choices_of rows) row.options parts.0 (choices_few rows parts.1)

-- no more places than this
wider : (few many : ℕ) (trials : List (List TrialRow)) → few ≤ many → list_all (few_trial few) trials ≡ true
    → list_all (few_trial many) trials ≡ true
wider few many [] le all = refl
wider few many (trial ∷ trials) le all =
    let parts = and_parts (few_trial few trial) (list_all (few_trial few) trials) all in
    let both = and_parts (nat_le (length trial) few) (list_all few_row trial) parts.0 in
    let less = leb-true (length trial) few both.0 in
    and_from (few_trial many trial) (list_all (few_trial many) trials)
    (and_from (nat_le (length trial) many) (list_all few_row trial)
    (le-leb (length trial) many (omega (arith, less, le))) both.1)
    (wider few many trials le parts.1)

-- ---- the buildpacks of a group that passed

abbrev pub FewSaid : (Member → Verdict) → Type 0
FewSaid says = (member : Member) → have_few_names (options_of (says member)) ≡ true

abbrev pub is_short : List Member → Bool
is_short group = nat_le (length group) 256

row_few : (member : Member) (verdict : Verdict) (rows : List AliveRow)
    → have_few_names (options_of verdict) ≡ true → list_all few_options rows ≡ true
    → list_all few_options (cons_option (alive_row member verdict) rows) ≡ true
row_few member (Pass options) rows few all = and_from (list_all has_few_names options)
    (list_all few_options rows) few all
row_few member Fail rows few all = all
row_few member Error rows few all = all

rows_few : (says : Member → Verdict) (group : List Member) → FewSaid says
    → list_all few_options (filter_map (λ member. alive_row member (says member)) group) ≡ true
rows_few says [] said = refl
rows_few says (member ∷ members) said =
    row_few member (says member) (filter_map (λ m. alive_row m (says m)) members) (said member)
    (rows_few says members said)

row_short : (member : Member) (verdict : Verdict) (rows : List AliveRow)
    → length (cons_option (alive_row member verdict) rows) ≤ suc (length rows)
row_short member (Pass options) rows = omega arith
row_short member Fail rows = omega arith
row_short member Error rows = omega arith

rows_short : (says : Member → Verdict) (group : List Member)
    → length (filter_map (λ member. alive_row member (says member)) group) ≤ length group
rows_short says [] = omega arith
rows_short says (member ∷ members) =
    let first = row_short member (says member) (filter_map (λ m. alive_row m (says m)) members) in
    let rest = rows_short says members in
    omega (arith, first, rest)

alive_is : (b : Bool) (all rows : List AliveRow) → cond b (Some all) None ≡ Some rows → all ≡ rows
alive_is true all rows e = cc
alive_is false all rows e = absurd cc

trials_few : (says : Member → Verdict) (group : List Member) (rows : List AliveRow) → FewSaid says
    → is_short group ≡ true → alive_of says group ≡ Some rows → list_all (few_trial 256) (choices_of rows) ≡ true
trials_few says group rows said short alive =
    let all = filter_map (λ member. alive_row member (says member)) group in
    let same : all ≡ rows = alive_is (list_all (λ member. member.optional || is_pass (says member)) group
    && list_any (λ member. is_pass (says member)) group) all rows alive in
    let less = leb-true (length group) 256 short in
    let fewer = rows_short says group in
    let few : list_all (few_trial 256) (choices_of all) ≡ true = wider (length all) 256 (choices_of all)
    (omega (arith, less, fewer)) (choices_few all (rows_few says group said)) in
    subst (λ (r : List AliveRow). list_all (few_trial 256) (choices_of r) ≡ true) same few

-- ---- steps

required_below : (trial : List TrialRow) (row : Option TrialRow) (place name : ℕ) (need : Option Need)
    (set : List ℕ) → few_trial 256 trial ≡ true → slice_get trial place ≡ row
    → slice_get (required_by row) name ≡ need → lacks_provider trial set place need ≡ true → (place < 2 ^ 32)
    × (name < 2 ^ 32)
required_below trial None place name need set few at from lacks =
    let none : None ≡ need = from in absurd (false≢true (ap (lacks_provider trial set place) none ∙ lacks))
required_below trial (Some row) place name None set few at from lacks = absurd (false≢true lacks)
required_below trial (Some row) place name (Some need) set few at from lacks =
    let parts = and_parts (nat_le (length trial) 256) (list_all few_row trial) few in
    let short = leb-true (length trial) 256 parts.0 in
    let within = get_below trial place row at in
    let names = and_parts (nat_le (length row.provides) 4294967295) (nat_le (length row.needs) 4294967295)
    (get_all few_row trial place row at parts.1) in
    let count = leb-true (length row.needs) 4294967295 names.1 in
    let below = get_below row.needs name need from in
    (omega (arith, short, within), omega (arith, count, below))

provided_below : (trial : List TrialRow) (row : Option TrialRow) (place name : ℕ) (text : Option (List ℕ))
    (set : List ℕ) → few_trial 256 trial ≡ true → slice_get trial place ≡ row
    → slice_get (provided_by row) name ≡ text → lacks_requirer trial set place text ≡ true → (place < 2 ^ 32)
    × (name < 2 ^ 32)
provided_below trial None place name text set few at from lacks =
    let none : None ≡ text = from in absurd (false≢true (ap (lacks_requirer trial set place) none ∙ lacks))
provided_below trial (Some row) place name None set few at from lacks = absurd (false≢true lacks)
provided_below trial (Some row) place name (Some text) set few at from lacks =
    let parts = and_parts (nat_le (length trial) 256) (list_all few_row trial) few in
    let short = leb-true (length trial) 256 parts.0 in
    let within = get_below trial place row at in
    let names = and_parts (nat_le (length row.provides) 4294967295) (nat_le (length row.needs) 4294967295)
    (get_all few_row trial place row at parts.1) in
    let count = leb-true (length row.provides) 4294967295 names.0 in
    let below = get_below row.provides name text from in
    (omega (arith, short, within), omega (arith, count, below))

unmet_below : (trial : List TrialRow) (set : List ℕ) (place : ℕ) (side : Side) (name : ℕ)
    → few_trial 256 trial ≡ true → is_unmet trial set place side name ≡ true → (place < 2 ^ 32) × (name < 2 ^ 32)
unmet_below trial set place Required name few unmet =
    required_below trial (slice_get trial place) place name
    (slice_get (required_by (slice_get trial place)) name) set few refl refl unmet
unmet_below trial set place Provided name few unmet =
    provided_below trial (slice_get trial place) place name
    (slice_get (provided_by (slice_get trial place)) name) set few refl refl unmet

step_sound : (trial : List TrialRow) (set : List ℕ) (step : Step) → few_trial 256 trial ≡ true
    → step_fits trial set step ≡ true → IsSoundStep step
step_sound trial set step few fits =
    unmet_below trial set step.place step.side step.name few
    (and_parts (is_in step.place set) (is_unmet trial set step.place step.side step.name) fits).1

drops_sound : (trial : List TrialRow) (set : List ℕ) (steps : List Step) → few_trial 256 trial ≡ true
    → drops trial set steps ≡ true → (0 < length steps) × All IsSoundStep steps
drops_sound trial set [] few e = absurd (false≢true e)
drops_sound trial set (step ∷ []) few e =
    let parts = and_parts (step_fits trial set step)
    (not (may_drop trial step) || is_empty (without step.place set)) e in
    (omega arith, All-cons IsSoundStep step [] (step_sound trial set step few parts.0) (All-nil IsSoundStep))
drops_sound trial set (step ∷ next ∷ steps) few e =
    let parts = and_parts (step_fits trial set step && may_drop trial step)
    (drops trial (without step.place set) (next ∷ steps)) e in
    let first = and_parts (step_fits trial set step) (may_drop trial step) parts.0 in
    let rest = drops_sound trial (without step.place set) (next ∷ steps) few parts.1 in
    (omega arith, All-cons IsSoundStep step (next ∷ steps) (step_sound trial set step few first.0) rest.1)

left_parts : (b : Bool) (later : Option (List ℕ)) (left : List ℕ) → left_if b later ≡ Some left → (b ≡ true)
    × (later ≡ Some left)
left_parts true later left e = (refl, e)
left_parts false later left e = absurd cc

left_sound : (trial : List TrialRow) (set : List ℕ) (steps : List Step) (left : List ℕ)
    → few_trial 256 trial ≡ true → left_after trial set steps ≡ Some left → All IsSoundStep steps
left_sound trial set [] left few e = All-nil IsSoundStep
left_sound trial set (step ∷ steps) left few e =
    let parts = left_parts (step_fits trial set step && may_drop trial step)
    (left_after trial (without step.place set) steps) left e in
    let first = and_parts (step_fits trial set step) (may_drop trial step) parts.0 in
    All-cons IsSoundStep step steps (step_sound trial set step few first.0)
    (left_sound trial (without step.place set) steps left few parts.1)

-- ---- lines of groups

-- what is behind a stage is small enough
abbrev pub IsSmall : Stage → Type 0
IsSmall (AtGroup place groups) = list_all is_short groups ≡ true
IsSmall (AtTrial chosen place rows groups number trials) = (list_all (few_trial 256) trials ≡ true)
    × (list_all is_short groups ≡ true)
IsSmall (AtEnd place rows number trial set) = Unit {0}

abbrev SoundTo : GroupLine → Stage → Type 0
SoundTo line next = IsSoundGroup line × IsSmall next

stage_is : (b : Bool) (stage next : Stage) → stage_if b stage ≡ Some next → (b ≡ true) × (stage ≡ next)
stage_is true stage next e = (refl, cc)
stage_is false stage next e = absurd cc

begun_is : (b : Bool) (stage : Option Stage) (next : Stage) → begun_if b stage ≡ Some next → stage ≡ Some next
begun_is true stage next e = e
begun_is false stage next e = absurd cc

chosen_is : (b : Bool) (stage : Option Stage) (next : Stage) → kept_if_chosen b stage ≡ Some next → stage ≡ Some next
chosen_is true stage next e = e
chosen_is false stage next e = absurd cc

trying_small : (chosen : Bool) (place : ℕ) (rows : List AliveRow) (groups : List (List Member)) (number : ℕ)
    (trials : List (List TrialRow)) → list_all (few_trial 256) trials ≡ true → list_all is_short groups ≡ true
    → IsSmall (trying chosen place rows groups number trials)
trying_small false place rows groups number [] few short = short
trying_small true place rows groups number [] few short = (few, short)
trying_small false place rows groups number (trial ∷ trials) few short = (few, short)
trying_small true place rows groups number (trial ∷ trials) few short = (few, short)

begun_small : (says : Member → Verdict) (chosen : Bool) (place : ℕ) (group : List Member)
    (alive : Option (List AliveRow)) (groups : List (List Member)) (count : ℕ) (next : Stage) → FewSaid says
    → is_short group ≡ true → list_all is_short groups ≡ true → alive_of says group ≡ alive
    → begun chosen place alive groups count ≡ Some next → (count < 2 ^ 32) × IsSmall next
begun_small says chosen place group None groups count next said short rest is e = absurd cc
begun_small says chosen place group (Some rows) groups count next said short rest is e =
    let parts = stage_is (nat_le count 65536 && choice_count rows == count)
    (trying chosen place rows groups 0 (choices_of rows)) next e in
    let few = leb-true count 65536 (and_parts (nat_le count 65536) (choice_count rows == count) parts.0).0 in (
      omega (arith, few),
      subst IsSmall parts.1 (trying_small chosen place rows groups 0 (choices_of rows)
          (trials_few says group rows said short is) rest),
    )

failing_below : (says : Member → Verdict) (group : List Member) (number : ℕ) (member : Option Member)
    → is_short group ≡ true → slice_get group number ≡ member → fails_at says member ≡ true → number < 2 ^ 32
failing_below says group number None short at fails = absurd (false≢true fails)
failing_below says group number (Some member) short at fails =
    let less = leb-true (length group) 256 short in
    let below = get_below group number member at in
    omega (arith, less, below)

group_sound : (answered : Answered) (place : ℕ) (group : List Member) (groups : List (List Member))
    (line : GroupLine) (next : Stage) → FewSaid answered.says → is_short group ≡ true
    → list_all is_short groups ≡ true
    → after_group answered place group groups line ≡ Some next → SoundTo line next
group_sound answered place group groups (Fails member) next said short rest e =
    let parts = stage_is (fails_at answered.says (slice_get group member)) (AtGroup (place + 1) groups) next e in
    (failing_below answered.says group member (slice_get group member) short refl parts.0, subst IsSmall parts.1 rest)
group_sound answered place group groups Idle next said short rest e =
    let parts = stage_is (not (list_any (λ member. is_pass (answered.says member)) group))
    (AtGroup (place + 1) groups) next e in
    (tt, subst IsSmall parts.1 rest)
group_sound answered place group groups (Trials count) next said short rest e =
    let both = begun_small answered.says false place group (alive_of answered.says group) groups count next said
    short rest refl e in (both.0, both.1)
group_sound answered place group groups (Chosen count) next said short rest e =
    let started = begun_is (answered.keys_right place)
    (begun true place (alive_of answered.says group) groups count) next e in
    let both = begun_small answered.says true place group (alive_of answered.says group) groups count next said
    short rest refl started in (both.0, both.1)
group_sound answered place group groups (Drop steps) next said short rest e = absurd cc
group_sound answered place group groups (Keep steps) next said short rest e = absurd cc

kept_sound : (place : ℕ) (rows : List AliveRow) (number : ℕ) (trial : List TrialRow) (steps : List Step)
    (left : Option (List ℕ)) (next : Stage) → few_trial 256 trial ≡ true
    → left_after trial (places trial) steps ≡ left → kept_stage place rows number trial left ≡ Some next
    → All IsSoundStep steps × IsSmall next
kept_sound place rows number trial steps None next few is e = absurd cc
kept_sound place rows number trial steps (Some set) next few is e =
    let parts = stage_is (nat_lt 0 (length set) && is_closed trial set) (AtEnd place rows number trial set) next e in
    (left_sound trial (places trial) steps set few is, subst IsSmall parts.1 tt)

trial_sound : (chosen : Bool) (place : ℕ) (rows : List AliveRow) (groups : List (List Member)) (number : ℕ)
    (trial : List TrialRow) (trials : List (List TrialRow)) (line : GroupLine) (next : Stage)
    → few_trial 256 trial ≡ true → list_all (few_trial 256) trials ≡ true → list_all is_short groups ≡ true
    → after_trial chosen place rows groups number trial trials line ≡ Some next → SoundTo line next
trial_sound chosen place rows groups number trial trials (Drop steps) next few rest short e =
    let parts = stage_is (drops trial (places trial) steps && not (chosen && is_empty trials))
    (trying chosen place rows groups (number + 1) trials) next e in
    let dropped = (and_parts (drops trial (places trial) steps) (not (chosen && is_empty trials)) parts.0).0 in (
      drops_sound trial (places trial) steps few dropped,
      subst IsSmall parts.1
          (trying_small chosen place rows groups (number + 1) trials rest short),
    )
trial_sound chosen place rows groups number trial trials (Keep steps) next few rest short e =
    let both = kept_sound place rows number trial steps (left_after trial (places trial) steps) next few refl
    (chosen_is chosen (kept_stage place rows number trial (left_after trial (places trial) steps)) next e)
    in (both.0, both.1)
trial_sound chosen place rows groups number trial trials (Fails member) next few rest short e = absurd cc
trial_sound chosen place rows groups number trial trials Idle next few rest short e = absurd cc
trial_sound chosen place rows groups number trial trials (Trials count) next few rest short e = absurd cc
trial_sound chosen place rows groups number trial trials (Chosen count) next few rest short e = absurd cc

line_sound : (answered : Answered) (stage : Stage) (line : GroupLine) (next : Stage) → FewSaid answered.says
    → IsSmall stage → after answered stage line ≡ Some next → SoundTo line next
line_sound answered (AtGroup place []) line next said small e = absurd cc
line_sound answered (AtGroup place (group ∷ groups)) line next said small e =
    let parts = and_parts (is_short group) (list_all is_short groups) small in
    group_sound answered place group groups line next said parts.0 parts.1
    (begun_is (list_all answered.has_answer group) (after_group answered place group groups line) next e)
line_sound answered (AtTrial chosen place rows groups number []) line next said small e = absurd cc
line_sound answered (AtTrial chosen place rows groups number (trial ∷ trials)) line next said small e =
    let parts = and_parts (few_trial 256 trial) (list_all (few_trial 256) trials) small.0 in
    trial_sound chosen place rows groups number trial trials line next parts.0 parts.1 small.1 e
line_sound answered (AtEnd place rows number trial set) line next said small e = absurd cc

line_then : (answered : Answered) (stage : Stage) (line : GroupLine) (lines : List GroupLine)
    (next : Option Stage) (end : Stage) → FewSaid answered.says → IsSmall stage → after answered stage line ≡ next
    → after_all answered next lines ≡ Some end → ((s : Stage) → IsSmall s
    → after_all answered (Some s) lines ≡ Some end → All IsSoundGroup lines) → All IsSoundGroup (line ∷ lines)
line_then answered stage line lines None end said small is e later = absurd cc
line_then answered stage line lines (Some next) end said small is e later =
    let here = line_sound answered stage line next said small is in
    All-cons IsSoundGroup line lines here.0 (later next here.1 e)

-- lines that lead to an end
pub lines_sound : (answered : Answered) (stage : Stage) (lines : List GroupLine) (end : Stage)
    → FewSaid answered.says → IsSmall stage → after_all answered (Some stage) lines ≡ Some end
    → All IsSoundGroup lines
lines_sound answered stage [] end said small e = All-nil IsSoundGroup
lines_sound answered stage (line ∷ lines) end said small e =
    line_then answered stage line lines (after answered stage line) end said small refl e
    (λ next less f. lines_sound answered next lines end said less f)
