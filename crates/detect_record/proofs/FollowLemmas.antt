-- One step of a line.
use Rattle.std.proofs.Common.{◌≡◌, ℕ, ◌+◌, Bool, true, false, ◌&&◌, ◌||◌, not, List, [], ◌∷◌, ◌++◌, ◌∙◌, refl, sym, ap}
use Rattle.std.proofs.Common.{Option, Some, None, drop, length, arith}
use Rattle.std.specs.Prelude.{slice_get, nat_lt, ◌==◌}
use Rattle.std.specs.Bool.{OnTrue}
use Rattle.std.proofs.lemmas.Bool.{ne_eqb, eq-eqb, lt-ltb}
use Rattle.std.proofs.lemmas.List.{drop_more}
use Rattle.std.proofs.lemmas.Option.{slice_get_within, get_or_from_slice_get}
use Rattle.plan_resolve.specs.declared.rows.TrialRow.{TrialRow}
use Rattle.plan_resolve.specs.Trials.{places, kept_of, is_closed}
use Rattle.detect_record.specs.declared.parts.Step.{Step}
use Rattle.detect_record.specs.Record.{step_fits, may_drop, left_after, left_if, without, is_empty, drops}
use Rattle.detect_record.proofs.DropLemmas.{drops_fail, keeps_pass}

drop_at : (steps : List Step) (number : ℕ) (step : Step) → slice_get steps number ≡ Some step
    → drop number steps ≡ step ∷ drop (number + 1) steps
drop_at steps number step e =
    drop_more steps number step (slice_get_within steps number step e)
    ∙ ap (λ t. t ∷ drop (number + 1) steps) (get_or_from_slice_get steps number step step e)

pub follows : (trial : List TrialRow) (set new : List ℕ) (steps : List Step) (number : ℕ) (step : Step)
    → slice_get steps number ≡ Some step →
    (step_fits trial set step && may_drop trial step) ≡ true → new ≡ without step.place set →
    left_after trial set (drop number steps) ≡ left_after trial new (drop (number + 1) steps)
follows trial set new steps number step at e is =
    ap (left_after trial set) (drop_at steps number step at)
    ∙ (ap (λ b. left_if b (left_after trial (without step.place set) (drop (number + 1) steps))) e
    ∙ ap (λ s. left_after trial s (drop (number + 1) steps)) (sym is))

pub refuses : (trial : List TrialRow) (set : List ℕ) (steps : List Step) (number : ℕ) (step : Step)
    → slice_get steps number ≡ Some step →
    (step_fits trial set step && may_drop trial step) ≡ false → left_after trial set (drop number steps) ≡ None
refuses trial set steps number step at e =
    ap (left_after trial set) (drop_at steps number step at)
    ∙ ap (λ b. left_if b (left_after trial (without step.place set) (drop (number + 1) steps))) e

pub empty_length : (xs : List ℕ) → (length xs == 0) ≡ is_empty xs
empty_length [] = eq-eqb (length {A = ℕ} []) 0 refl
empty_length (x ∷ xs) = ne_eqb (length (x ∷ xs)) 0 (λ e. omega (arith, e))

left_parts : (b : Bool) (left : Option (List ℕ)) (set : List ℕ) → left_if b left ≡ Some set → (b ≡ true)
    × (left ≡ Some set)
left_parts true left set e = (refl, e)
left_parts false left set e = absurd cc

abbrev ends : List TrialRow → List ℕ → Step → Bool
ends trial set step = step_fits trial set step && (not (may_drop trial step) || is_empty (without step.place set))

-- behind steps that can all be taken the last one decides
after_steps : (trial : List TrialRow) (set new : List ℕ) (before : List Step) (last : Step)
    → left_after trial set before ≡ Some new →
    drops trial set (before ++ last ∷ []) ≡ ends trial new last
after_steps trial set new [] last e = let same : set ≡ new = cc in ap (λ s. ends trial s last) same
after_steps trial set new (step ∷ []) last e =
    let parts = left_parts (step_fits trial set step && may_drop trial step) (Some (without step.place set)) new e in
    ap (λ b. b && ends trial (without step.place set) last) parts.0
    ∙ after_steps trial (without step.place set) new [] last parts.1
after_steps trial set new (step ∷ next ∷ before) last e =
    let parts = left_parts (step_fits trial set step && may_drop trial step)
    (left_after trial (without step.place set) (next ∷ before)) new e in
    ap (λ b. b && drops trial (without step.place set) (next ∷ before ++ last ∷ [])) parts.0
    ∙ after_steps trial (without step.place set) new (next ∷ before) last parts.1

pub drops_by_last : (trial : List TrialRow) (set new : List ℕ) (steps before : List Step) (last : Step)
    → steps ≡ before ++ last ∷ [] → left_after trial set before ≡ Some new →
    drops trial set steps ≡ ends trial new last
drops_by_last trial set new steps before last is e = ap (drops trial set) is ∙ after_steps trial set new before last e

and_none : (b : Bool) (left : Option (List ℕ)) (more : Bool) → left_if b left ≡ None
    → (left ≡ None → more ≡ false) → (b && more) ≡ false
and_none true left more e f = f e
and_none false left more e f = refl

stopped : (trial : List TrialRow) (set : List ℕ) (before : List Step) (last : Step)
    → left_after trial set before ≡ None → drops trial set (before ++ last ∷ []) ≡ false
stopped trial set [] last e = absurd cc
stopped trial set (step ∷ []) last e =
    and_none (step_fits trial set step && may_drop trial step) (Some (without step.place set))
    (ends trial (without step.place set) last) e (λ f. absurd cc)
stopped trial set (step ∷ next ∷ before) last e =
    and_none (step_fits trial set step && may_drop trial step)
    (left_after trial (without step.place set) (next ∷ before))
    (drops trial (without step.place set) (next ∷ before ++ last ∷ [])) e
    (λ f. stopped trial (without step.place set) (next ∷ before) last f)

pub drops_not : (trial : List TrialRow) (set : List ℕ) (steps before : List Step) (last : Step)
    → steps ≡ before ++ last ∷ [] → left_after trial set before ≡ None → drops trial set steps ≡ false
drops_not trial set steps before last is e = ap (drops trial set) is ∙ stopped trial set before last e

pub dropped : (trial : List TrialRow) (set : List ℕ) (steps : List Step) (met : Bool) → set ≡ places trial
    → met ≡ drops trial set steps → OnTrue met (kept_of trial ≡ None)
dropped trial set steps true is e = drops_fail trial steps (ap (λ s. drops trial s steps) (sym is) ∙ sym e)
dropped trial set steps false is e = tt

some_left : (xs : List ℕ) → is_empty xs ≡ false → nat_lt 0 (length xs) ≡ true
some_left [] e = absurd cc
some_left (x ∷ xs) e = lt-ltb 0 (length (x ∷ xs)) (omega arith)

not_is : (b : Bool) → not b ≡ true → b ≡ false
not_is true n = absurd cc
not_is false n = refl

pub kept : (trial : List TrialRow) (set new here there : List ℕ) (steps : List Step) (empty closed : Bool)
    → set ≡ places trial → left_after trial set steps ≡ Some new →
    empty ≡ is_empty here → empty ≡ false → here ≡ new → closed ≡ is_closed trial there → closed ≡ true
    → there ≡ new → kept_of trial ≡ Some new
kept trial set new here there steps empty closed is left none some at shut holds on =
    keeps_pass trial steps new (ap (λ s. left_after trial s steps) (sym is) ∙ left)
    (some_left new (ap is_empty (sym at) ∙ (sym none ∙ some)))
    (ap (is_closed trial) (sym on) ∙ (sym shut ∙ holds))

-- the last step decides, where it fits or not, and its row is required or not
pub last_fits_not : (trial : List TrialRow) (set new slice : List ℕ) (steps before : List Step) (last : Step)
    (fits : Bool) → steps ≡ before ++ last ∷ [] →
    left_after trial set before ≡ Some new → slice ≡ new → fits ≡ step_fits trial slice last → fits ≡ false
    → false ≡ drops trial set steps
last_fits_not trial set new slice steps before last fits is left at f fails =
    sym (drops_by_last trial set new steps before last is left
    ∙ ap (λ b. b && (not (may_drop trial last) || is_empty (without last.place new)))
    (ap (λ s. step_fits trial s last) (sym at) ∙ (sym f ∙ fails)))

fitting_last : (trial : List TrialRow) (set new slice : List ℕ) (steps before : List Step) (last : Step)
    (fits : Bool) → steps ≡ before ++ last ∷ [] →
    left_after trial set before ≡ Some new → slice ≡ new → fits ≡ step_fits trial slice last → fits ≡ true →
    drops trial set steps ≡ (not (may_drop trial last) || is_empty (without last.place new))
fitting_last trial set new slice steps before last fits is left at f fit =
    drops_by_last trial set new steps before last is left
    ∙ ap (λ b. b && (not (may_drop trial last) || is_empty (without last.place new)))
    (ap (λ s. step_fits trial s last) (sym at) ∙ (sym f ∙ fit))

pub last_required : (trial : List TrialRow) (set new slice : List ℕ) (steps before : List Step) (last : Step)
    (fits may : Bool) → steps ≡ before ++ last ∷ [] →
    left_after trial set before ≡ Some new → slice ≡ new → fits ≡ step_fits trial slice last → fits ≡ true
    → may ≡ may_drop trial last → may ≡ false → not may ≡ drops trial set steps
last_required trial set new slice steps before last fits may is left at f fit m wanted =
    ap not wanted
    ∙ sym (fitting_last trial set new slice steps before last fits is left at f fit
    ∙ ap (λ b. not b || is_empty (without last.place new)) (sym m ∙ wanted))

pub last_optional : (trial : List TrialRow) (set new slice left_then slice_then : List ℕ)
    (steps before : List Step) (last : Step) (fits may empty : Bool) → steps ≡ before ++ last ∷ [] →
    left_after trial set before ≡ Some new → slice ≡ new → fits ≡ step_fits trial slice last → fits ≡ true
    → may ≡ may_drop trial last → may ≡ true →
    left_then ≡ without last.place new → slice_then ≡ left_then → empty ≡ is_empty slice_then
    → empty ≡ drops trial set steps
last_optional trial set new slice left_then slice_then steps before last fits may empty is left at f fit m free
    gone then_at e =
    e ∙ ap is_empty (then_at ∙ gone)
    ∙ sym (fitting_last trial set new slice steps before last fits is left at f fit
    ∙ ap (λ b. not b || is_empty (without last.place new)) (sym m ∙ free))
