-- How a check goes on over the lines that are left.
use Rattle.std.proofs.Common.{◌≡◌, ℕ, ◌+◌, ◌-◌, ◌<◌, ◌≤◌, Bool, true, false, not, List, [], ◌∷◌, length, drop}
use Rattle.std.proofs.Common.{length-drop, inl, inr, refl, sym, ◌∙◌, ap, subst, Option, Some, None, arith}
use Rattle.std.specs.Prelude.{◌&&◌, ◌==◌, nat_lt, slice_get, if◌then◌else◌, IsErrAnd, IsTrue, Result, Ok, Err}
use Rattle.std.proofs.lemmas.Bool.{false≢true, cases_Bool, eqb-true, eq-eqb, ne_eqb, both_ways}
use Rattle.std.proofs.lemmas.List.{drop_more, drop_all}
use Rattle.std.proofs.lemmas.Option.{slice_get_within, get_or_from_slice_get}
use Rattle.steps.specs.Causes.{IsAnswer}
use Rattle.order_expand.specs.declared.member.Member.{Member}
use Rattle.plan_resolve.specs.declared.rows.AliveRow.{AliveRow}
use Rattle.plan_resolve.specs.declared.rows.TrialRow.{TrialRow}
use Rattle.plan_resolve.specs.Trials.{is_closed, places}
use Rattle.detect_record.specs.declared.outcome.Checked.{Checked}
use Rattle.detect_record.specs.declared.outcome.CheckFault.{CheckFault}
use Rattle.detect_record.specs.declared.outcome.CheckFault.TheVariants.{Bad, Memory}
use Rattle.detect_record.specs.declared.parts.Step.{Step}
use Rattle.detect_record.specs.declared.parts.GroupLine.{GroupLine}
use Rattle.detect_record.specs.declared.parts.GroupLine.TheVariants.{Fails, Idle, Trials, Chosen, Drop, Keep}
use Rattle.detect_record.specs.declared.parts.Line.{Line}
use Rattle.detect_record.specs.declared.parts.Line.TheVariants.{Head, Target as TargetLine, Answer, Group}
use Rattle.detect_record.specs.LinesLeft.{LinesLeft, IsBadFirst, HasNoNext}
use Rattle.detect_record.specs.Record.{Stage, AtGroup, AtTrial, AtEnd, after_trial, drops, is_empty, kept_stage}
use Rattle.detect_record.specs.Record.{stage_if, trying}
use Rattle.detect_record.specs.Checking.{Reading, Following, cause_of, following, read_all, end_at}
use Rattle.detect_record.specs.Following.{GoesOn, IsGroupLine, IsNext, Known, after_line, checks, checks_on, is_drop}
use Rattle.detect_record.specs.Following.{is_group, kept_by, wants_line}

-- ---- the next line

abbrev with_line : Known → Stage → Line → LinesLeft → Result Checked CheckFault
with_line known stage (Group line) lines = checks_on known (after_line known stage line) lines
with_line known stage Head lines = Err (Bad lines.taken)
with_line known stage (TargetLine target) lines = Err (Bad lines.taken)
with_line known stage (Answer key probed) lines = Err (Bad lines.taken)

abbrev refused_at : ℕ → Result Checked CheckFault
refused_at number = Err (Bad number)

abbrev on : List (List Member) → ℕ → List (Option Line) → Option Reading → Result Checked CheckFault
on groups taken pieces next = elim next [
  | Some reading ↦ read_all groups (taken + 1) reading pieces
  | None
      ↦ Err (Bad (taken + 1))
]

on_next : (known : Known) (taken : ℕ) (new : LinesLeft) (next : Option Stage) → new.taken ≡ taken + 1 →
    on known.groups taken new.left (following known.target known.answers next) ≡ checks_on known next new
on_next known taken new None n = ap refused_at (sym n)
on_next known taken new (Some stage) n = ap (λ k. read_all known.groups k
    (Following known.target known.answers stage) new.left) (sym n)

by_line : (known : Known) (stage : Stage) (taken : ℕ) (new : LinesLeft) (line : Line) → new.taken ≡ taken + 1 →
    read_all known.groups taken (Following known.target known.answers stage) (Some line ∷ new.left)
    ≡ with_line known stage line new
by_line known stage taken new (Group line) n = on_next known taken new (after_line known stage line) n
by_line known stage taken new Head n = ap refused_at (sym n)
by_line known stage taken new (TargetLine target) n = ap refused_at (sym n)
by_line known stage taken new (Answer key probed) n = ap refused_at (sym n)

line_next : (known : Known) (stage : Stage) (old new : LinesLeft) (line : Line) → old.left ≡ Some line ∷ new.left
    → new.taken ≡ old.taken + 1 →
    checks known stage old ≡ with_line known stage line new
line_next known stage old new line e n =
    ap (read_all known.groups old.taken (Following known.target known.answers stage)) e
    ∙ by_line known stage old.taken new line n

other_line : (known : Known) (stage : Stage) (new : LinesLeft) (line : Line) → is_group line ≡ false
    → with_line known stage line new ≡ Err (Bad new.taken)
other_line known stage new (Group line) none = absurd (false≢true (sym none))
other_line known stage new Head none = refl
other_line known stage new (TargetLine target) none = refl
other_line known stage new (Answer key probed) none = refl

-- a line was taken
pub next_goes : (known : Known) (stage : Stage) (old new : LinesLeft) (line : Line) (taken : ℕ)
    (result : Result GroupLine CheckFault) →
    old.left ≡ Some line ∷ new.left → new.taken ≡ old.taken + 1 → taken ≡ new.taken → IsGroupLine result taken line →
    GoesOn result (checks known stage old) (λ g. checks_on known (after_line known stage g) new)
next_goes known stage old new line taken (Ok g) e n t is =
    line_next known stage old new line e n ∙ ap (λ l. with_line known stage l new) is
next_goes known stage old new line taken (Err (Bad number)) e n t is =
    line_next known stage old new line e n ∙ (other_line known stage new line is.0 ∙ ap refused_at (sym (is.1 ∙ t)))
next_goes known stage old new line taken (Err Memory) e n t is = tt

wanted : (stage : Stage) (taken : ℕ) → IsTrue (wants_line stage) → end_at taken stage ≡ Err (Bad (taken + 1))
wanted (AtGroup place groups) taken w = refl
wanted (AtTrial chosen place rows groups number trials) taken w = refl
wanted (AtEnd place rows number trial set) taken w = absurd (false≢true w)

none_next : (known : Known) (stage : Stage) (taken : ℕ) (pieces : List (Option Line)) → IsTrue (wants_line stage)
    → HasNoNext pieces →
    read_all known.groups taken (Following known.target known.answers stage) pieces ≡ Err (Bad (taken + 1))
none_next known stage taken [] w none = wanted stage taken w
none_next known stage taken (piece ∷ pieces) w none = ap
    (λ p. read_all known.groups taken (Following known.target known.answers stage) (p ∷ pieces)) none

-- no line was taken
pub bad_goes : {A : Type 0} (known : Known) (stage : Stage) (old : LinesLeft) (fault : CheckFault)
    (to : A → Result Checked CheckFault) →
    IsTrue (wants_line stage) → IsBadFirst old fault → GoesOn (Err fault) (checks known stage old) to
bad_goes known stage old (Bad number) to w bad = none_next known stage old.taken old.left w bad.1
    ∙ ap refused_at (sym bad.0)
bad_goes known stage old Memory to w bad = tt

-- ---- one call behind another

-- the line that was taken leads to a stage, or to none
pub goes_by : {A : Type 0} (result : Result A CheckFault) (known : Known) (next : Option Stage)
    (lines : LinesLeft) (taken : ℕ) (from : Result Checked CheckFault) (to : A → Stage) →
    from ≡ checks_on known next lines → taken ≡ lines.taken → IsNext result taken next to
    → GoesOn result from (λ v. checks known (to v) lines)
goes_by (Ok value) known next lines taken from to e t is = e ∙ ap (λ s. checks_on known s lines) is
goes_by (Err (Bad line)) known next lines taken from to e t is =
    e ∙ (ap (λ s. checks_on known s lines) is.0 ∙ ap refused_at (sym (is.1 ∙ t)))
goes_by (Err Memory) known next lines taken from to e t is = tt

-- what comes to the same before
pub goes_from : {A : Type 0} (result : Result A CheckFault) (start from : Result Checked CheckFault)
    (to : A → Result Checked CheckFault) →
    start ≡ from → GoesOn result from to → GoesOn result start to
goes_from result start from to e is = subst (λ s. GoesOn result s to) (sym e) is

-- a fault ends the caller too
pub fault_goes : {A B : Type 0} (fault : CheckFault) (start from : Result Checked CheckFault)
    (to : A → Result Checked CheckFault) (on : B → Result Checked CheckFault) →
    start ≡ from → GoesOn {A = A} (Err fault) from to → GoesOn {A = B} (Err fault) start on
fault_goes (Bad line) start from to on e is = e ∙ is
fault_goes Memory start from to on e is = tt

pub fault_answers : {A : Type 0} (fault : CheckFault) (start from : Result Checked CheckFault)
    (to : A → Result Checked CheckFault) →
    start ≡ from → GoesOn {A = A} (Err fault) from to
    → (let answer : Result Checked CheckFault = Err fault in IsAnswer cause_of answer start)
fault_answers (Bad line) start from to e is = e ∙ is
fault_answers Memory start from to e is = tt

pub answers_from : (result : Result Checked CheckFault) (start from : Result Checked CheckFault) → start ≡ from
    → IsAnswer cause_of result from → IsAnswer cause_of result start
answers_from result start from e is = subst (IsAnswer cause_of result) (sym e) is

-- what a `?` hands on
pub err_goes : {A B : Type 0} (result : Result B CheckFault) (fault : CheckFault)
    (start from : Result Checked CheckFault) (to : A → Result Checked CheckFault)
    (out : B → Result Checked CheckFault) →
    IsErrAnd result (λ e. e ≡ fault) → start ≡ from → GoesOn {A = A} (Err fault) from to
    → GoesOn {A = B} result start out
err_goes (Ok value) fault start from to out h e is = absurd h
err_goes {A = A} {B = B} (Err given) fault start from to out h e is =
    subst (λ (f : CheckFault). GoesOn {A = B} (Err f) start out) (sym h)
    (fault_goes {A = A} fault start from to out e is)

pub err_answers : {A : Type 0} (result : Result Checked CheckFault) (fault : CheckFault)
    (start from : Result Checked CheckFault) (to : A → Result Checked CheckFault) →
    IsErrAnd result (λ e. e ≡ fault) → start ≡ from → GoesOn {A = A} (Err fault) from to
    → IsAnswer cause_of result start
err_answers (Ok value) fault start from to h e is = absurd h
err_answers {A = A} (Err given) fault start from to h e is =
    subst (λ (f : CheckFault). (let answer : Result Checked CheckFault = Err f in IsAnswer cause_of answer start))
    (sym h) (fault_answers {A = A} fault start from to e is)

-- ---- lines of trials

and_free : (b : Bool) (stage : Stage) → stage_if (b && true) stage ≡ stage_if b stage
and_free true stage = refl
and_free false stage = refl

drop_leads : (place : ℕ) (rows : List AliveRow) (groups : List (List Member)) (number : ℕ) (trial : List TrialRow)
    (trials : List (List TrialRow)) (line : GroupLine) →
    after_trial false place rows groups number trial trials line
    ≡ stage_if (is_drop trial line) (trying false place rows groups (number + 1) trials)
drop_leads place rows groups number trial trials (Drop steps) = and_free (drops trial (places trial) steps)
    (trying false place rows groups (number + 1) trials)
drop_leads place rows groups number trial trials (Keep steps) = refl
drop_leads place rows groups number trial trials (Fails member) = refl
drop_leads place rows groups number trial trials Idle = refl
drop_leads place rows groups number trial trials (Trials count) = refl
drop_leads place rows groups number trial trials (Chosen count) = refl

pub dropped_next : (place : ℕ) (rows : List AliveRow) (groups : List (List Member)) (number : ℕ)
    (trial : List TrialRow) (trials : List (List TrialRow)) (line : GroupLine) (met : Bool) →
    met ≡ is_drop trial line → met ≡ true → after_trial false place rows groups number trial trials line
    ≡ Some (trying false place rows groups (number + 1) trials)
dropped_next place rows groups number trial trials line met is met_it =
    drop_leads place rows groups number trial trials line ∙ ap
    (λ b. stage_if b (trying false place rows groups (number + 1) trials)) (sym is ∙ met_it)

pub dropped_not : (place : ℕ) (rows : List AliveRow) (groups : List (List Member)) (number : ℕ)
    (trial : List TrialRow) (trials : List (List TrialRow)) (line : GroupLine) (met : Bool) →
    met ≡ is_drop trial line → met ≡ false → after_trial false place rows groups number trial trials line ≡ None
dropped_not place rows groups number trial trials line met is none =
    drop_leads place rows groups number trial trials line ∙ ap
    (λ b. stage_if b (trying false place rows groups (number + 1) trials)) (sym is ∙ none)

-- the chosen group's

pub chosen_drop : (place : ℕ) (rows : List AliveRow) (groups : List (List Member)) (number : ℕ)
    (trial : List TrialRow) (trials : List (List TrialRow)) (steps : List Step) (last met : Bool) →
    last ≡ is_empty trials → last ≡ false → met ≡ drops trial (places trial) steps → met ≡ true →
    after_trial true place rows groups number trial trials (Drop steps)
    ≡ Some (trying true place rows groups (number + 1) trials)
chosen_drop place rows groups number trial trials steps last met l more is met_it =
    (λ i. stage_if ((sym is ∙ met_it) i && not ((sym l ∙ more) i)) (trying true place rows groups (number + 1) trials))

kept_cond : (place : ℕ) (rows : List AliveRow) (number : ℕ) (trial : List TrialRow) (left set : List ℕ) (b : Bool) →
    Some set ≡ (if b then Some left else None) → stage_if b (AtEnd place rows number trial left)
    ≡ Some (AtEnd place rows number trial set)
kept_cond place rows number trial left set true e = let same : set ≡ left = cc
    in ap (λ s. Some (AtEnd place rows number trial s)) (sym same)
kept_cond place rows number trial left set false e = absurd cc

pub keep_met : (place : ℕ) (rows : List AliveRow) (number : ℕ) (trial : List TrialRow) (left : Option (List ℕ))
    (set : List ℕ) → Some set ≡ kept_by trial left →
    kept_stage place rows number trial left ≡ Some (AtEnd place rows number trial set)
keep_met place rows number trial None set e = absurd cc
keep_met place rows number trial (Some left) set e = kept_cond place rows number trial left set
    (nat_lt 0 (length left) && is_closed trial left) e

not_kept_cond : (place : ℕ) (rows : List AliveRow) (number : ℕ) (trial : List TrialRow) (left : List ℕ) (b : Bool) →
    None ≡ (if b then Some left else None) → stage_if b (AtEnd place rows number trial left) ≡ None
not_kept_cond place rows number trial left true e = absurd cc
not_kept_cond place rows number trial left false e = refl

pub keep_not : (place : ℕ) (rows : List AliveRow) (number : ℕ) (trial : List TrialRow) (left : Option (List ℕ))
    → None ≡ kept_by trial left →
    kept_stage place rows number trial left ≡ None
keep_not place rows number trial None e = refl
keep_not place rows number trial (Some left) e = not_kept_cond place rows number trial left
    (nat_lt 0 (length left) && is_closed trial left) e

-- the trial of a number is the first of those from there on
pub trial_at : (trials : List (List TrialRow)) (number : ℕ) (trial : List TrialRow)
    → slice_get trials number ≡ Some trial → drop number trials ≡ trial ∷ drop (number + 1) trials
trial_at trials number trial e =
    drop_more trials number trial (slice_get_within trials number trial e)
    ∙ ap (λ t. t ∷ drop (number + 1) trials) (get_or_from_slice_get trials number trial trial e)

-- the next trial's line is to come
pub failing_trial : (start : Result Checked CheckFault) (known : Known) (place : ℕ) (rows : List AliveRow)
    (groups : List (List Member)) (number : ℕ) (trials : List (List TrialRow)) (trial slice : List TrialRow)
    (lines : LinesLeft) →
    start ≡ checks known (trying false place rows groups number (drop number trials)) lines
    → slice_get trials number ≡ Some trial → slice ≡ trial →
    start ≡ checks known (AtTrial false place rows groups number (slice ∷ drop (number + 1) trials)) lines
failing_trial start known place rows groups number trials trial slice lines e at is =
    e ∙ ap (λ ts. checks known (trying false place rows groups number ts) lines)
    (trial_at trials number trial at ∙ ap (λ t. t ∷ drop (number + 1) trials) (sym is))

pub next_trial : (start : Result Checked CheckFault) (known : Known) (place : ℕ) (rows : List AliveRow)
    (groups : List (List Member)) (number : ℕ) (trials : List (List TrialRow)) (trial slice : List TrialRow)
    (lines : LinesLeft) →
    start ≡ checks known (trying true place rows groups number (drop number trials)) lines
    → slice_get trials number ≡ Some trial → slice ≡ trial →
    start ≡ checks known (AtTrial true place rows groups number (slice ∷ drop (number + 1) trials)) lines
next_trial start known place rows groups number trials trial slice lines e at is =
    e ∙ ap (λ ts. checks known (trying true place rows groups number ts) lines)
    (trial_at trials number trial at ∙ ap (λ t. t ∷ drop (number + 1) trials) (sym is))

eqb_left : (number count : ℕ) → number < count → (number + 1 == count) ≡ (count - (number + 1) == 0)
eqb_left number count lt = elim (cases_Bool (number + 1 == count)) [
  | inl e ↦ let is = eqb-true (number + 1) count e in e ∙ sym (eq-eqb (count - (number + 1)) 0 (omega (arith, is)))
  | inr e ↦ e ∙ sym (ne_eqb (count - (number + 1)) 0
      (λ z. both_ways (number + 1 == count) e (eq-eqb (number + 1) count (omega (arith, z, lt)))))
]

empty_count : {X : Type 0} (xs : List X) (n : ℕ) → length xs ≡ n → (n == 0) ≡ is_empty xs
empty_count [] n e = eq-eqb n 0 (sym e)
empty_count (x ∷ xs) n e = ne_eqb n 0 (λ z. omega (arith, e, z))

-- the last of so many trials
pub is_last : (trials : List (List TrialRow)) (number count : ℕ) → length trials ≡ count → number < count
    → (number + 1 == count) ≡ is_empty (drop (number + 1) trials)
is_last trials number count e lt =
    let left = length-drop (number + 1) trials in
    eqb_left number count lt ∙ empty_count (drop (number + 1) trials) (count - (number + 1))
    (left ∙ ap (λ n. n - (number + 1)) e)

pub none_behind : (trials : List (List TrialRow)) (number : ℕ) → length trials ≤ number → drop number trials ≡ []
none_behind trials number le = drop_all number trials le

-- no line follows the last trial of the chosen group
pub no_trial : (known : Known) (place : ℕ) (rows : List AliveRow) (groups : List (List Member)) (number : ℕ)
    (taken : ℕ) (pieces : List (Option Line)) →
    read_all known.groups taken (Following known.target known.answers (AtTrial true place rows groups number []))
    pieces ≡ Err (Bad (taken + 1))
no_trial known place rows groups number taken [] = refl
no_trial known place rows groups number taken (None ∷ pieces) = refl
no_trial known place rows groups number taken (Some (Group line) ∷ pieces) = refl
no_trial known place rows groups number taken (Some Head ∷ pieces) = refl
no_trial known place rows groups number taken (Some (TargetLine target) ∷ pieces) = refl
no_trial known place rows groups number taken (Some (Answer key probed) ∷ pieces) = refl

-- nor a group that is listed
pub no_group : (known : Known) (place : ℕ) (taken : ℕ) (pieces : List (Option Line)) →
    read_all known.groups taken (Following known.target known.answers (AtGroup place [])) pieces ≡ Err (Bad (taken + 1))
no_group known place taken [] = refl
no_group known place taken (None ∷ pieces) = refl
no_group known place taken (Some (Group line) ∷ pieces) = refl
no_group known place taken (Some Head ∷ pieces) = refl
no_group known place taken (Some (TargetLine target) ∷ pieces) = refl
no_group known place taken (Some (Answer key probed) ∷ pieces) = refl

-- nor anything behind the end
pub at_end : (known : Known) (place : ℕ) (rows : List AliveRow) (number : ℕ) (trial : List TrialRow)
    (set : List ℕ) (taken : ℕ) (piece : Option Line) (pieces : List (Option Line)) →
    read_all known.groups taken (Following known.target known.answers (AtEnd place rows number trial set))
    (piece ∷ pieces) ≡ Err (Bad (taken + 1))
at_end known place rows number trial set taken None pieces = refl
at_end known place rows number trial set taken (Some (Group line)) pieces = refl
at_end known place rows number trial set taken (Some Head) pieces = refl
at_end known place rows number trial set taken (Some (TargetLine target)) pieces = refl
at_end known place rows number trial set taken (Some (Answer key probed)) pieces = refl
