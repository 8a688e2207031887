-- Taking away, round after round, the places that do not hold.
use Rattle.std.proofs.Common.{◌≡◌, ℕ, Bool, true, false, cond, ◌&&◌, ◌||◌, List, [], ◌∷◌, refl, sym, ◌∙◌, ap, subst}
use Rattle.std.proofs.Common.{inl, inr, suc, length, ◌<◌, zero, arith, not, get_or, Some, None}
use Rattle.std.specs.Bool.{then_some}
use Rattle.std.specs.Option.{option_map}
use Rattle.std.specs.Prelude.{◌==◌, nat_lt, slice_get}
use Rattle.std.specs.List.{filter, list_all, remove}
use Rattle.std.proofs.lemmas.Bool.{and_parts, and_from, or_cases, or_left, or_right, cases_Bool, both_ways, cond-false}
use Rattle.std.proofs.lemmas.Bool.{cases_lt, ne_eqb, eq-eqb, eqb-true, ltb-true, lt-ltb, le-ltb}
use Rattle.std.proofs.lemmas.List.Elements.{filter_agree}
use Rattle.plan_resolve.specs.declared.rows.TrialRow.{TrialRow}
use Rattle.plan_resolve.specs.Trials.{is_in, holds, is_closed, places, largest, is_optional_at, is_passing, kept_if}
use Rattle.plan_resolve.specs.Trials.{kept_of}
use Rattle.plan_resolve.specs.Pruning.{fails, required_hold, is_ascending, Within, IsOnTheWay}
use Rattle.plan_resolve.proofs.NearLemmas.{all_get, ascending_part}
use Rattle.plan_resolve.proofs.LargestLemmas.{holds_within, all_at, all_from, all_mono, in_filter, filter_filter}
use Rattle.plan_resolve.proofs.LargestLemmas.{closed_within_filter, in_largest, in_some, largest_closed, largest_is}

-- whether a required place is in the set
abbrev stays : List TrialRow → List ℕ → ℕ → Bool
stays trial set place = is_optional_at (slice_get trial place) || is_in place set

filter_full : (p : ℕ → Bool) (xs : List ℕ) → list_all p xs ≡ true → filter p xs ≡ xs
filter_full p [] a = refl
filter_full p (x ∷ xs) a = let parts = and_parts (p x) (list_all p xs) a in
    subst (λ (b : Bool). cond b (x ∷ filter p xs) (filter p xs) ≡ x ∷ xs) (sym parts.0)
    (ap (λ ys. x ∷ ys) (filter_full p xs parts.1))

and_swap : (a b : Bool) → (a && b) ≡ (b && a)
and_swap true true = refl
and_swap true false = refl
and_swap false true = refl
and_swap false false = refl

and_true : (b : Bool) → (b && true) ≡ b
and_true true = refl
and_true false = refl

pub on_the_way_start : (trial : List TrialRow) → IsOnTheWay trial (places trial)
on_the_way_start trial = let all = places trial in record {
  part = sym (filter_full (λ i. is_in i all) all (all_from (λ i. is_in i all) all (λ i h. h)));
  most = λ other closed w. w;
  required = all_from (stays trial all) all (λ i h. or_right (is_optional_at (slice_get trial i)) (is_in i all) h);
}

-- ---- one place taken away

-- a place is smaller than those behind it, so that none of them is the same
none_same : (x : ℕ) (xs : List ℕ) → list_all (nat_lt x) xs ≡ true → list_all (λ j. not (j == x)) xs ≡ true
none_same x xs a = all_mono (nat_lt x) (λ j. not (j == x)) xs
    (λ j h. let lt = ltb-true x j h in ap not (ne_eqb j x (λ e. omega arith))) a

-- taking away an index of an ascending set takes away its place alone
remove_is : (xs : List ℕ) (i : ℕ) → is_ascending xs ≡ true → i < length xs
    → remove xs i ≡ filter (λ j. not (j == get_or xs i 0)) xs
remove_is [] i a lt = absurd (omega arith)
remove_is (x ∷ xs) zero a lt =
    let parts = and_parts (list_all (nat_lt x) xs) (is_ascending xs) a in
    sym (ap (λ b. cond (not b) (x ∷ filter (λ j. not (j == x)) xs) (filter (λ j. not (j == x)) xs)) (eq-eqb x x refl)
    ∙ filter_full (λ j. not (j == x)) xs (none_same x xs parts.0))
remove_is (x ∷ xs) (suc i) a lt =
    let parts = and_parts (list_all (nat_lt x) xs) (is_ascending xs) a in
    let place = get_or xs i 0 in
    let less = ltb-true x place (all_get (nat_lt x) xs i 0 parts.0 (omega arith)) in
    let rest = filter (λ j. not (j == place)) xs in
    ap (λ ys. x ∷ ys) (remove_is xs i parts.1 (omega arith))
    ∙ sym (ap (λ b. cond (not b) (x ∷ rest) rest) (ne_eqb x place (λ e. omega arith)))

pub ascending_way : (trial : List TrialRow) (set : List ℕ) → IsOnTheWay trial set → is_ascending set ≡ true
ascending_way trial set way = ascending_part (λ place. is_in place set) set (length trial) way.part

-- a place that does not hold is in no closed set
pub differs : (trial : List TrialRow) (set other : List ℕ) (place i : ℕ) → holds trial set place ≡ false
    → is_closed trial other ≡ true → Within other set →
    is_in i other ≡ true → not (i == place) ≡ true
differs trial set other place i fail closed w h = elim (cases_Bool (i == place)) as (λ _. not (i == place) ≡ true) [
  | inr e ↦ ap not e
  | inl e ↦ absurd (both_ways (holds trial set place) fail
      (subst (λ (j : ℕ). holds trial set j ≡ true) (eqb-true i place e)
      (holds_within trial other set i w (all_at (holds trial other) i other closed h))))
]

-- an optional place that does not hold is none of the required ones
still_required : (trial : List TrialRow) (set : List ℕ) (place i : ℕ)
    → is_optional_at (slice_get trial place) ≡ true → stays trial set i ≡ true →
    stays trial (filter (λ j. not (j == place)) set) i ≡ true
still_required trial set place i free stay =
    let p : ℕ → Bool = λ j. not (j == place) in
    let optional = is_optional_at (slice_get trial i) in
    let after = is_in i (filter p set) in
    elim (or_cases optional (is_in i set) stay) [
      | inl e ↦ or_left optional after e
      | inr e ↦ elim (cases_Bool (i == place)) [
        | inl q ↦ or_left optional after (subst (λ (j : ℕ). is_optional_at (slice_get trial j) ≡ true)
            (sym (eqb-true i place q)) free)
        | inr q ↦ or_right optional after (in_filter p i set ∙ and_from (p i) (is_in i set) (ap not q) e)
      ]
    ]

-- what is left of a set on the way without an optional place that does not hold is on the way too
pub without_place : (trial : List TrialRow) (set : List ℕ) (place : ℕ) → IsOnTheWay trial set
    → holds trial set place ≡ false →
    is_optional_at (slice_get trial place) ≡ true → IsOnTheWay trial (filter (λ j. not (j == place)) set)
without_place trial set place way fail free =
    let p : ℕ → Bool = λ j. not (j == place) in
    let all = places trial in record {
      part = ap (filter p) way.part ∙ (filter_filter p (λ i. is_in i set) all
          ∙ filter_agree (λ i. is_in i set && p i) (λ i. is_in i (filter p set))
          (λ i. and_swap (is_in i set) (p i) ∙ sym (in_filter p i set)) all);
      most = λ other closed w i h. in_filter p i set ∙ and_from (p i) (is_in i set)
          (differs trial set other place i fail closed (way.most other closed w) h) (way.most other closed w i h);
      required = all_from (stays trial (filter p set)) all
          (λ i h. still_required trial set place i free (all_at (stays trial set) i all way.required h));
    }

pub on_the_way_without : (trial : List TrialRow) (set : List ℕ) (i : ℕ) → IsOnTheWay trial set → i < length set →
    holds trial set (get_or set i 0) ≡ false → is_optional_at (slice_get trial (get_or set i 0)) ≡ true
    → IsOnTheWay trial (remove set i)
on_the_way_without trial set i way lt fail free =
    rw (remove_is set i (ascending_way trial set way) lt) (without_place trial set (get_or set i 0) way fail free)

-- where a required place does not hold, the trial fails
pub on_the_way_fails : (trial : List TrialRow) (set : List ℕ) → IsOnTheWay trial set
    → required_hold trial set ≡ false → kept_of trial ≡ None
on_the_way_fails trial set way fails =
    let most = largest trial in
    let p = holds trial set in
    let closed = largest_closed trial in
    let within : Within most (places trial) = λ i h.
    (and_parts (in_some trial i) (is_in i (places trial)) (sym (in_largest trial i) ∙ h)).1 in
    cond-false (is_passing trial most) (Some most) None
    (elim (cases_Bool (is_passing trial most)) as (λ _. is_passing trial most ≡ false) [
      | inr e ↦ e
      | inl e ↦ absurd (both_ways (required_hold trial set) fails
          (all_from (λ i. p i || is_optional_at (slice_get trial i)) set (λ i h.
          let there = (and_parts (is_in i set) (is_in i (places trial))
          (sym (in_filter (λ j. is_in j set) i (places trial)) ∙ subst
          (λ (xs : List ℕ). is_in i xs ≡ true) way.part h)).1 in
          let optional = is_optional_at (slice_get trial i) in
          elim (or_cases optional (is_in i most) (all_at (stays trial most) i (places trial)
          (and_parts (nat_lt 0 (length most)) (list_all (stays trial most) (places trial)) e).1 there)) [
            | inl q ↦ or_right (p i) optional q
            | inr q ↦ or_left (p i) optional (and_parts (p i) (is_in i set) (sym (in_filter p i set)
                ∙ closed_within_filter trial most set closed (way.most most closed within) i q)).0
          ])))
    ])

not_both : (holds optional : Bool) → holds ≡ false → optional ≡ false → (holds || optional) ≡ true → ⊥
not_both true optional e f h = absurd cc
not_both false true e f h = absurd cc
not_both false false e f h = absurd cc

-- where the place at an index is required and does not hold, the trial fails
pub on_the_way_fails_at : (trial : List TrialRow) (set : List ℕ) (i : ℕ) → IsOnTheWay trial set → i < length set →
    holds trial set (get_or set i 0) ≡ false → is_optional_at (slice_get trial (get_or set i 0)) ≡ false
    → kept_of trial ≡ None
on_the_way_fails_at trial set i way lt fail wanted =
    on_the_way_fails trial set way (elim (cases_Bool (required_hold trial set))
    as (λ _. required_hold trial set ≡ false) [
      | inr e ↦ e
      | inl e ↦ absurd (not_both (holds trial set (get_or set i 0))
          (is_optional_at (slice_get trial (get_or set i 0))) fail wanted
          (all_get (λ j. holds trial set j || is_optional_at (slice_get trial j)) set i 0 e lt))
    ])

both_false : (holds optional : Bool) → (not optional && not holds) ≡ true → (holds ≡ false) × (optional ≡ false)
both_false true true f = absurd cc
both_false true false f = absurd cc
both_false false true f = absurd cc
both_false false false f = (refl, refl)

-- where a required place does not hold among all, the trial fails
pub fails_at_once : (trial : List TrialRow) (i : ℕ) → i < length (places trial)
    → fails trial (places trial) (get_or (places trial) i 0) ≡ true → kept_of trial ≡ None
fails_at_once trial i lt fail =
    let all = places trial in
    let place = get_or all i 0 in
    let parts = both_false (holds trial all place) (is_optional_at (slice_get trial place)) fail in
    on_the_way_fails_at trial all i (on_the_way_start trial) lt parts.0 parts.1

-- where each place holds, the set is the largest, and the trial passes unless it is empty
pub on_the_way_end : (trial : List TrialRow) (set : List ℕ) → IsOnTheWay trial set → is_closed trial set ≡ true →
    kept_of trial ≡ cond (nat_lt 0 (length set)) (Some set) None
on_the_way_end trial set way closed =
    ap (kept_if trial) (largest_is trial set way.part closed way.most)
    ∙ ap (λ b. cond b (Some set) None) (ap (λ b. nat_lt 0 (length set) && b) way.required
    ∙ and_true (nat_lt 0 (length set)))

-- a value that is answered unless a number is 0
pub unless_zero : {X Y : Type 0} (f : X → Y) (x : X) (n : ℕ)
    → option_map f (then_some (not (n == 0)) x) ≡ cond (nat_lt 0 n) (Some (f x)) None
unless_zero f x n = elim (cases_lt 0 n) [
  | inl lt ↦ rw (ne_eqb n 0 (λ e. omega arith), lt-ltb 0 n lt) refl
  | inr le ↦ rw (eq-eqb n 0 (omega arith), le-ltb 0 n le) refl
]
