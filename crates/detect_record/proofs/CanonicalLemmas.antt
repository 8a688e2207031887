-- The first step that fits, one after another, leads to a line that meets its rule.
use Rattle.std.proofs.Common.{◌≡◌, ℕ, ◌+◌, ◌<◌, ◌≤◌, Bool, true, false, cond, ◌&&◌, ◌||◌, not, List, [], ◌∷◌, length}
use Rattle.std.proofs.Common.{refl, sym, ◌∙◌, ap, subst, inl, inr, Option, Some, None, zero, suc, arith}
use Rattle.std.specs.Prelude.{slice_get, nat_lt, ◌==◌}
use Rattle.std.specs.List.{filter, list_all}
use Rattle.std.proofs.lemmas.Bool.{false≢true, and_parts, and_from, or_cases, or_left, or_right, cases_Bool, both_ways}
use Rattle.std.proofs.lemmas.Bool.{eqb-true, eq-eqb, ltb-true, lt-ltb}
use Rattle.cnb_toml.specs.declared.meta.Need.{Need}
use Rattle.plan_resolve.specs.declared.rows.TrialRow.{TrialRow}
use Rattle.plan_resolve.specs.Trials.{is_in, is_provided, is_required, provided_at, required_at, holds, is_closed}
use Rattle.plan_resolve.specs.Trials.{places}
use Rattle.detect_record.specs.declared.parts.Side.TheVariants.{Required, Provided}
use Rattle.detect_record.specs.declared.parts.Step.{Step}
use Rattle.detect_record.specs.declared.parts.GroupLine.{GroupLine}
use Rattle.detect_record.specs.declared.parts.GroupLine.TheVariants.{Fails, Idle, Trials, Chosen, Drop, Keep}
use Rattle.detect_record.specs.Record.{lacks_provider, lacks_requirer, is_unmet, step_fits, without, may_drop, left_if}
use Rattle.detect_record.specs.Record.{left_after, is_empty, drops}
use Rattle.detect_record.specs.Canonical.{first_unprovided, first_unrequired, step_by, step_at, first_step_of}
use Rattle.detect_record.specs.Canonical.{first_step, with_step, line_from}

-- ---- the first step fits

-- the elements of a list from a number on
abbrev pub IsFrom : {X : Type 0} → List X → ℕ → List X → Type 0
IsFrom xs number ys = (i : ℕ) → slice_get xs (number + i) ≡ slice_get ys i

pub from_start : {X : Type 0} (xs : List X) → IsFrom xs 0 xs
from_start xs i = let same : 0 + i ≡ i = omega arith in ap (slice_get xs) same

pub from_next : {X : Type 0} (xs : List X) (number : ℕ) (y : X) (ys : List X) → IsFrom xs number (y ∷ ys)
    → IsFrom xs (number + 1) ys
from_next xs number y ys from i = let same : number + 1 + i ≡ number + suc i = omega arith
    in ap (slice_get xs) same ∙ from (suc i)

pub from_here : {X : Type 0} (xs : List X) (number : ℕ) (y : X) (ys : List X) → IsFrom xs number (y ∷ ys)
    → slice_get xs number ≡ Some y
from_here xs number y ys from = let same : number ≡ number + 0 = omega arith in ap (slice_get xs) same ∙ from 0

provider_at : (trial : List TrialRow) (set : List ℕ) (place number k : ℕ) (all needs : List Need)
    → IsFrom all number needs →
    first_unprovided trial set place number needs ≡ Some k → lacks_provider trial set place (slice_get all k) ≡ true
provider_at trial set place number k all [] from e = absurd cc
provider_at trial set place number k all (need ∷ needs) from e = elim
    (cases_Bool (is_provided trial set place need.name)) [
      | inl p ↦ provider_at trial set place (number + 1) k all needs (from_next all number need needs from)
          (sym (ap (λ b. cond b (first_unprovided trial set place (number + 1) needs) (Some number)) p) ∙ e)
      | inr p ↦ let here : Some number ≡ Some k = sym (ap
          (λ b. cond b (first_unprovided trial set place (number + 1) needs) (Some number)) p) ∙ e in
          let same : number ≡ k = cc in
          ap (λ n. lacks_provider trial set place (slice_get all n)) (sym same)
          ∙ (ap (lacks_provider trial set place) (from_here all number need needs from) ∙ ap not p)
    ]

requirer_at : (trial : List TrialRow) (set : List ℕ) (place number k : ℕ) (all names : List (List ℕ))
    → IsFrom all number names →
    first_unrequired trial set place number names ≡ Some k → lacks_requirer trial set place (slice_get all k) ≡ true
requirer_at trial set place number k all [] from e = absurd cc
requirer_at trial set place number k all (name ∷ names) from e = elim (cases_Bool (is_required trial set place name)) [
  | inl p ↦ requirer_at trial set place (number + 1) k all names (from_next all number name names from)
      (sym (ap (λ b. cond b (first_unrequired trial set place (number + 1) names) (Some number)) p) ∙ e)
  | inr p ↦ let here : Some number ≡ Some k = sym (ap
      (λ b. cond b (first_unrequired trial set place (number + 1) names) (Some number)) p) ∙ e in
      let same : number ≡ k = cc in
      ap (λ n. lacks_requirer trial set place (slice_get all n)) (sym same)
      ∙ (ap (lacks_requirer trial set place) (from_here all number name names from) ∙ ap not p)
]

all_provided : (trial : List TrialRow) (set : List ℕ) (place number : ℕ) (needs : List Need)
    → first_unprovided trial set place number needs ≡ None →
    list_all (λ need. is_provided trial set place need.name) needs ≡ true
all_provided trial set place number [] e = refl
all_provided trial set place number (need ∷ needs) e = elim (cases_Bool (is_provided trial set place need.name)) [
  | inl p ↦ and_from (is_provided trial set place need.name)
      (list_all (λ n. is_provided trial set place n.name) needs) p
      (all_provided trial set place (number + 1) needs
      (sym (ap (λ b. cond b (first_unprovided trial set place (number + 1) needs) (Some number)) p) ∙ e))
  | inr p ↦ let here : Some number ≡ None = sym (ap
      (λ b. cond b (first_unprovided trial set place (number + 1) needs) (Some number)) p) ∙ e in absurd cc
]

all_required : (trial : List TrialRow) (set : List ℕ) (place number : ℕ) (names : List (List ℕ))
    → first_unrequired trial set place number names ≡ None →
    list_all (is_required trial set place) names ≡ true
all_required trial set place number [] e = refl
all_required trial set place number (name ∷ names) e = elim (cases_Bool (is_required trial set place name)) [
  | inl p ↦ and_from (is_required trial set place name) (list_all (is_required trial set place) names) p
      (all_required trial set place (number + 1) names
      (sym (ap (λ b. cond b (first_unrequired trial set place (number + 1) names) (Some number)) p) ∙ e))
  | inr p ↦ let here : Some number ≡ None = sym (ap
      (λ b. cond b (first_unrequired trial set place (number + 1) names) (Some number)) p) ∙ e in absurd cc
]

step_parts : (trial : List TrialRow) (set : List ℕ) (place : ℕ) (needs names : Option ℕ) (step : Step) →
    first_unprovided trial set place 0 (required_at trial place) ≡ needs
    → first_unrequired trial set place 0 (provided_at trial place) ≡ names →
    step_by place needs names ≡ Some step → (step.place ≡ place) × (is_unmet trial set place step.side step.name ≡ true)
step_parts trial set place (Some k) names step n p e =
    let same : record { place = place; side = Required; name = k } ≡ step = cc in
    subst (λ (s : Step). (s.place ≡ place) × (is_unmet trial set place s.side s.name ≡ true)) same (
      refl,
      provider_at trial set place 0 k (required_at trial place) (required_at trial place)
          (from_start (required_at trial place)) n,
    )
step_parts trial set place None (Some k) step n p e =
    let same : record { place = place; side = Provided; name = k } ≡ step = cc in
    subst (λ (s : Step). (s.place ≡ place) × (is_unmet trial set place s.side s.name ≡ true)) same (
      refl,
      requirer_at trial set place 0 k (provided_at trial place) (provided_at trial place)
          (from_start (provided_at trial place)) p,
    )
step_parts trial set place None None step n p e = absurd cc

no_step : (trial : List TrialRow) (set : List ℕ) (place : ℕ) (needs names : Option ℕ) →
    first_unprovided trial set place 0 (required_at trial place) ≡ needs
    → first_unrequired trial set place 0 (provided_at trial place) ≡ names →
    step_by place needs names ≡ None → holds trial set place ≡ true
no_step trial set place (Some k) names n p e = absurd cc
no_step trial set place None (Some k) n p e = absurd cc
no_step trial set place None None n p e =
    and_from (list_all (λ need. is_provided trial set place need.name) (required_at trial place))
    (list_all (is_required trial set place) (provided_at trial place))
    (all_provided trial set place 0 (required_at trial place) n)
    (all_required trial set place 0 (provided_at trial place) p)

abbrev step_or : Option Step → Option Step → Option Step
step_or found later = elim found [ Some step ↦ Some step | None ↦ later ]

found_fits : (trial : List TrialRow) (set : List ℕ) (place : ℕ) (step : Step)
    → step_at trial set place ≡ Some step → is_in place set ≡ true → step_fits trial set step ≡ true
found_fits trial set place step e there =
    let parts = step_parts trial set place (first_unprovided trial set place 0 (required_at trial place))
    (first_unrequired trial set place 0 (provided_at trial place)) step refl refl e in
    and_from (is_in step.place set) (is_unmet trial set step.place step.side step.name)
    (subst (λ (p : ℕ). is_in p set ≡ true) (sym parts.0) there)
    (subst (λ (p : ℕ). is_unmet trial set p step.side step.name ≡ true) (sym parts.0) parts.1)

first_or : (trial : List TrialRow) (set : List ℕ) (place : ℕ) (later : Option Step) (step : Step)
    (found : Option Step) → step_at trial set place ≡ found →
    step_or found later ≡ Some step → is_in place set ≡ true
    → (later ≡ Some step → step_fits trial set step ≡ true) → step_fits trial set step ≡ true
first_or trial set place later step (Some here) at e there more = found_fits trial set place step (at ∙ e) there
first_or trial set place later step None at e there more = more e

first_fits : (trial : List TrialRow) (set places : List ℕ) (step : Step)
    → ((i : ℕ) → is_in i places ≡ true → is_in i set ≡ true) →
    first_step_of trial set places ≡ Some step → step_fits trial set step ≡ true
first_fits trial set [] step within e = absurd cc
first_fits trial set (place ∷ places) step within e =
    first_or trial set place (first_step_of trial set places) step (step_at trial set place) refl e
    (within place (or_left (place == place) (is_in place places) (eq-eqb place place refl)))
    (first_fits trial set places step (λ i h. within i (or_right (i == place) (is_in i places) h)))

pub step_fits_first : (trial : List TrialRow) (set : List ℕ) (step : Step) → first_step trial set ≡ Some step
    → step_fits trial set step ≡ true
step_fits_first trial set step e = first_fits trial set set step (λ i h. h) e

none_or : (trial : List TrialRow) (set : List ℕ) (place : ℕ) (later : Option Step) (found : Option Step)
    → step_at trial set place ≡ found →
    step_or found later ≡ None → (step_at trial set place ≡ None) × (later ≡ None)
none_or trial set place later (Some here) at e = absurd cc
none_or trial set place later None at e = (at, e)

all_hold : (trial : List TrialRow) (set places : List ℕ) → first_step_of trial set places ≡ None
    → list_all (holds trial set) places ≡ true
all_hold trial set [] e = refl
all_hold trial set (place ∷ places) e =
    let parts = none_or trial set place (first_step_of trial set places) (step_at trial set place) refl e in
    and_from (holds trial set place) (list_all (holds trial set) places)
    (no_step trial set place (first_unprovided trial set place 0 (required_at trial place))
    (first_unrequired trial set place 0 (provided_at trial place)) refl refl parts.0)
    (all_hold trial set places parts.1)

pub closed_without_step : (trial : List TrialRow) (set : List ℕ) → first_step trial set ≡ None
    → is_closed trial set ≡ true
closed_without_step trial set e = all_hold trial set set e

-- ---- a line

-- a line that meets its rule for these places
abbrev pub IsGood : List TrialRow → List ℕ → GroupLine → Type 0
IsGood trial set (Drop steps) = drops trial set steps ≡ true
IsGood trial set (Keep steps) = (left : List ℕ) × (left_after trial set steps ≡ Some left)
    × (nat_lt 0 (length left) ≡ true) × (is_closed trial left ≡ true)
IsGood trial set (Fails member) = ⊥
IsGood trial set Idle = ⊥
IsGood trial set (Trials count) = ⊥
IsGood trial set (Chosen count) = ⊥

shorter_by : (b : Bool) (x : ℕ) (xs : List ℕ) (n : ℕ) → length xs ≤ n → length (cond b (x ∷ xs) xs) ≤ n + 1
shorter_by true x xs n le = omega (arith, le)
shorter_by false x xs n le = omega (arith, le)

filter_short : (p : ℕ → Bool) (xs : List ℕ) → length (filter p xs) ≤ length xs
filter_short p [] = omega arith
filter_short p (x ∷ xs) = let le = shorter_by (p x) x (filter p xs) (length xs) (filter_short p xs) in omega (arith, le)

pub without_shorter : (place : ℕ) (set : List ℕ) → is_in place set ≡ true → length (without place set) < length set
without_shorter place [] h = absurd (false≢true h)
without_shorter place (x ∷ xs) h = elim (cases_Bool (x == place)) [
  | inl e ↦ let gone : length (without place (x ∷ xs)) ≡ length (without place xs) = ap
      (λ b. length (cond (not b) (x ∷ without place xs) (without place xs))) e in
      let le = filter_short (λ other. not (other == place)) xs in omega (arith, gone, le)
  | inr e ↦ let stays : length (without place (x ∷ xs)) ≡ suc (length (without place xs)) = ap
      (λ b. length (cond (not b) (x ∷ without place xs) (without place xs))) e in
      let there : is_in place xs ≡ true = elim (or_cases (place == x) (is_in place xs) h) [
        | inl q ↦ absurd (both_ways (x == place) e (eq-eqb x place (sym (eqb-true place x q))))
        | inr q ↦ q
      ] in
      let less = without_shorter place xs there in omega (arith, stays, less)
]

some_left : (set : List ℕ) → is_empty set ≡ false → nat_lt 0 (length set) ≡ true
some_left [] e = absurd cc
some_left (x ∷ xs) e = lt-ltb 0 (length (x ∷ xs)) (omega arith)

with_good : (trial : List TrialRow) (set : List ℕ) (step : Step) (line : GroupLine)
    → step_fits trial set step ≡ true → may_drop trial step ≡ true →
    IsGood trial (without step.place set) line → IsGood trial set (with_step step line)
with_good trial set step (Drop []) f free good = absurd (false≢true good)
with_good trial set step (Drop (next ∷ steps)) f free good =
    and_from (step_fits trial set step && may_drop trial step) (drops trial (without step.place set) (next ∷ steps))
    (and_from (step_fits trial set step) (may_drop trial step) f free) good
with_good trial set step (Keep steps) f free good = (
  good.0,
  ap (λ b. left_if b (left_after trial (without step.place set) steps))
      (and_from (step_fits trial set step) (may_drop trial step) f free) ∙ good.1,
  good.2,
  good.3,
)
with_good trial set step (Fails member) f free good = absurd good
with_good trial set step Idle f free good = absurd good
with_good trial set step (Trials count) f free good = absurd good
with_good trial set step (Chosen count) f free good = absurd good

neither_is : (a b : Bool) → (not a || b) ≡ false → (a ≡ true) × (b ≡ false)
neither_is true true e = absurd cc
neither_is true false e = (refl, refl)
neither_is false b e = absurd cc

abbrev line_next : List TrialRow → List ℕ → (ℕ → GroupLine) → Option Step → GroupLine
line_next trial set later found = elim found [
  | None ↦ Keep []
  | Some step ↦ cond (not (may_drop trial step) || is_empty (without step.place set)) (Drop (step ∷ []))
      (with_step step (later step.place))
]

line_good : (trial : List TrialRow) (set : List ℕ) (later : ℕ → GroupLine) (found : Option Step)
    → first_step trial set ≡ found → nat_lt 0 (length set) ≡ true →
    ((place : ℕ) → is_in place set ≡ true → nat_lt 0 (length (without place set)) ≡ true
    → IsGood trial (without place set) (later place)) →
    IsGood trial set (line_next trial set later found)
line_good trial set later None e some more = (set, refl, some, closed_without_step trial set e)
line_good trial set later (Some step) e some more =
    let f = step_fits_first trial set step e in
    let ends = not (may_drop trial step) || is_empty (without step.place set) in
    elim (cases_Bool ends) [
      | inl last ↦ subst (λ (b : Bool). IsGood trial set
          (cond b (Drop (step ∷ [])) (with_step step (later step.place)))) (sym last)
          (and_from (step_fits trial set step) ends f last)
      | inr on ↦ let parts = neither_is (may_drop trial step) (is_empty (without step.place set)) on in
          subst (λ (b : Bool). IsGood trial set (cond b (Drop (step ∷ [])) (with_step step (later step.place))))
          (sym on)
          (with_good trial set step (later step.place) f parts.0
          (more step.place (and_parts (is_in step.place set) (is_unmet trial set step.place step.side step.name)
          f).0 (some_left (without step.place set) parts.1)))
    ]

pub line_from_good : (steps : ℕ) (trial : List TrialRow) (set : List ℕ) → length set ≤ steps
    → nat_lt 0 (length set) ≡ true → IsGood trial set (line_from steps trial set)
line_from_good zero trial set le some = let lt = ltb-true 0 (length set) some in absurd (omega (arith, le, lt))
line_from_good (suc steps) trial set le some =
    line_good trial set (λ place. line_from steps trial (without place set)) (first_step trial set) refl some
    (λ place there left. let less = without_shorter place set there
    in line_from_good steps trial (without place set) (omega (arith, le, less)) left)
