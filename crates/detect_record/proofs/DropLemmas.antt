-- Steps that fit drop no place of a closed set.
use Rattle.std.proofs.Common.{◌≡◌, ℕ, Bool, true, false, cond, ◌&&◌, ◌||◌, not, List, [], ◌∷◌, length, refl, ◌∙◌, ap}
use Rattle.std.proofs.Common.{subst, inl, inr, Option, Some, None, zero, suc}
use Rattle.std.specs.Prelude.{slice_get, nat_lt}
use Rattle.std.specs.List.{list_all}
use Rattle.std.proofs.lemmas.Bool.{false≢true, and_parts, or_cases, cases_Bool, both_ways}
use Rattle.cnb_toml.specs.declared.meta.Need.{Need}
use Rattle.plan_resolve.specs.declared.rows.TrialRow.{TrialRow}
use Rattle.plan_resolve.specs.Trials.{is_in, is_provided, is_required, provided_at, required_at, holds, is_closed}
use Rattle.plan_resolve.specs.Trials.{places, is_optional_at, kept_of}
use Rattle.plan_resolve.specs.Pruning.{required_hold, IsOnTheWay}
use Rattle.plan_resolve.proofs.LargestLemmas.{all_at}
use Rattle.plan_resolve.proofs.PruningLemmas.{without_place, on_the_way_fails, on_the_way_end, on_the_way_start}
use Rattle.detect_record.specs.declared.parts.Side.{Side}
use Rattle.detect_record.specs.declared.parts.Side.TheVariants.{Required, Provided}
use Rattle.detect_record.specs.declared.parts.Step.{Step}
use Rattle.detect_record.specs.Record.{lacks_provider, lacks_requirer, is_unmet, step_fits, without, may_drop, left_if}
use Rattle.detect_record.specs.Record.{left_after, is_empty, drops}

all_slice_get : {X : Type 0} (p : X → Bool) (xs : List X) (k : ℕ) (x : X) → list_all p xs ≡ true
    → slice_get xs k ≡ Some x → p x ≡ true
all_slice_get p [] k x a e = absurd cc
all_slice_get p (y ∷ ys) zero x a e = let same : y ≡ x = cc
    in subst (λ z. p z ≡ true) same (and_parts (p y) (list_all p ys) a).0
all_slice_get p (y ∷ ys) (suc k) x a e = all_slice_get p ys k x (and_parts (p y) (list_all p ys) a).1 e

not_true : (b : Bool) → not b ≡ true → b ≡ true → ⊥
not_true true n e = absurd cc
not_true false n e = absurd cc

no_provider : (trial : List TrialRow) (set : List ℕ) (place k : ℕ) (found : Option Need)
    → slice_get (required_at trial place) k ≡ found →
    lacks_provider trial set place found ≡ true → list_all (λ need. is_provided trial set place need.name)
    (required_at trial place) ≡ true → ⊥
no_provider trial set place k None e lacks a = absurd (false≢true lacks)
no_provider trial set place k (Some need) e lacks a =
    not_true (is_provided trial set place need.name) lacks
    (all_slice_get (λ n. is_provided trial set place n.name) (required_at trial place) k need a e)

no_requirer : (trial : List TrialRow) (set : List ℕ) (place k : ℕ) (found : Option (List ℕ))
    → slice_get (provided_at trial place) k ≡ found →
    lacks_requirer trial set place found ≡ true → list_all (is_required trial set place) (provided_at trial place)
    ≡ true → ⊥
no_requirer trial set place k None e lacks a = absurd (false≢true lacks)
no_requirer trial set place k (Some name) e lacks a =
    not_true (is_required trial set place name) lacks
    (all_slice_get (is_required trial set place) (provided_at trial place) k name a e)

-- a place with a name that isn't met does not hold
unmet_holds : (trial : List TrialRow) (set : List ℕ) (place : ℕ) (side : Side) (k : ℕ)
    → is_unmet trial set place side k ≡ true → holds trial set place ≡ true → ⊥
unmet_holds trial set place Required k u h =
    no_provider trial set place k (slice_get (required_at trial place) k) refl u
    (and_parts (list_all (λ need. is_provided trial set place need.name) (required_at trial place))
    (list_all (is_required trial set place) (provided_at trial place)) h).0
unmet_holds trial set place Provided k u h =
    no_requirer trial set place k (slice_get (provided_at trial place) k) refl u
    (and_parts (list_all (λ need. is_provided trial set place need.name) (required_at trial place))
    (list_all (is_required trial set place) (provided_at trial place)) h).1

pub fitting_fails : (trial : List TrialRow) (set : List ℕ) (step : Step) → step_fits trial set step ≡ true
    → holds trial set step.place ≡ false
fitting_fails trial set step f =
    let parts = and_parts (is_in step.place set) (is_unmet trial set step.place step.side step.name) f in
    elim (cases_Bool (holds trial set step.place)) as (λ _. holds trial set step.place ≡ false) [
      | inr e ↦ e
      | inl e ↦ absurd (unmet_holds trial set step.place step.side step.name parts.1 e)
    ]

-- a step that fits and has an optional row stays on the way
pub fitting_way : (trial : List TrialRow) (set : List ℕ) (step : Step) → IsOnTheWay trial set
    → step_fits trial set step ≡ true → may_drop trial step ≡ true →
    IsOnTheWay trial (without step.place set)
fitting_way trial set step way f free = without_place trial set step.place way (fitting_fails trial set step f) free

-- a step that fits and has a required row shows that the trial fails
pub fitting_ends : (trial : List TrialRow) (set : List ℕ) (step : Step) → IsOnTheWay trial set
    → step_fits trial set step ≡ true → may_drop trial step ≡ false →
    kept_of trial ≡ None
fitting_ends trial set step way f wanted =
    let there = (and_parts (is_in step.place set) (is_unmet trial set step.place step.side step.name) f).0 in
    on_the_way_fails trial set way (elim (cases_Bool (required_hold trial set))
    as (λ _. required_hold trial set ≡ false) [
      | inr e ↦ e
      | inl e ↦ absurd (elim (or_cases (holds trial set step.place) (is_optional_at (slice_get trial step.place))
          (all_at (λ i. holds trial set i || is_optional_at (slice_get trial i)) step.place set e there)) [
            | inl h ↦ both_ways (holds trial set step.place) (fitting_fails trial set step f) h
            | inr o ↦ both_ways (may_drop trial step) wanted o
          ])
    ])

-- where no place is left, the trial fails
pub empty_ends : (trial : List TrialRow) (set : List ℕ) → IsOnTheWay trial set → is_empty set ≡ true
    → kept_of trial ≡ None
empty_ends trial [] way e = on_the_way_end trial [] way refl
empty_ends trial (x ∷ set) way e = absurd (false≢true e)

not_is : (b : Bool) → not b ≡ true → b ≡ false
not_is true n = absurd cc
not_is false n = refl

-- steps of a line `drop` show that the trial fails
drops_from : (trial : List TrialRow) (set : List ℕ) (steps : List Step) → IsOnTheWay trial set
    → drops trial set steps ≡ true → kept_of trial ≡ None
drops_from trial set [] way d = absurd (false≢true d)
drops_from trial set (step ∷ []) way d =
    let rest = is_empty (without step.place set) in
    let parts = and_parts (step_fits trial set step) (not (may_drop trial step) || rest) d in
    elim (cases_Bool (may_drop trial step)) [
      | inr wanted ↦ fitting_ends trial set step way parts.0 wanted
      | inl free ↦ elim (or_cases (not (may_drop trial step)) rest parts.1) [
        | inl n ↦ absurd (not_true (may_drop trial step) n free)
        | inr e ↦ empty_ends trial (without step.place set) (fitting_way trial set step way parts.0 free) e
      ]
    ]
drops_from trial set (step ∷ next ∷ steps) way d =
    let later = drops trial (without step.place set) (next ∷ steps) in
    let parts = and_parts (step_fits trial set step && may_drop trial step) later d in
    let both = and_parts (step_fits trial set step) (may_drop trial step) parts.0 in
    drops_from trial (without step.place set) (next ∷ steps) (fitting_way trial set step way both.0 both.1) parts.1

pub drops_fail : (trial : List TrialRow) (steps : List Step) → drops trial (places trial) steps ≡ true
    → kept_of trial ≡ None
drops_fail trial steps d = drops_from trial (places trial) steps (on_the_way_start trial) d

left_parts : (b : Bool) (left : Option (List ℕ)) (set : List ℕ) → left_if b left ≡ Some set → (b ≡ true)
    × (left ≡ Some set)
left_parts true left set e = (refl, e)
left_parts false left set e = absurd cc

left_from : (trial : List TrialRow) (set : List ℕ) (steps : List Step) (left : List ℕ) → IsOnTheWay trial set
    → left_after trial set steps ≡ Some left →
    IsOnTheWay trial left
left_from trial set [] left way e = let same : set ≡ left = cc in subst (IsOnTheWay trial) same way
left_from trial set (step ∷ steps) left way e =
    let parts = left_parts (step_fits trial set step && may_drop trial step)
    (left_after trial (without step.place set) steps) left e in
    let both = and_parts (step_fits trial set step) (may_drop trial step) parts.0 in
    left_from trial (without step.place set) steps left (fitting_way trial set step way both.0 both.1) parts.1

-- steps of a line `keep` leave the largest closed set
pub keeps_pass : (trial : List TrialRow) (steps : List Step) (set : List ℕ)
    → left_after trial (places trial) steps ≡ Some set →
    nat_lt 0 (length set) ≡ true → is_closed trial set ≡ true → kept_of trial ≡ Some set
keeps_pass trial steps set e some closed =
    on_the_way_end trial set (left_from trial (places trial) steps set (on_the_way_start trial) e) closed
    ∙ ap (λ b. cond b (Some set) None) some
