-- The largest closed set: it is closed, it has every closed set in it, and taking away places that do not hold leads to
-- it.
use Rattle.std.proofs.Common.{◌≡◌, ℕ, Bool, true, false, cond, ◌&&◌, ◌||◌, List, [], ◌∷◌, ◌++◌, map, refl, sym, ◌∙◌, ap}
use Rattle.std.proofs.Common.{subst, inl, inr}
use Rattle.std.specs.Prelude.{◌==◌, nat_le}
use Rattle.std.specs.List.{filter, list_any, list_all}
use Rattle.std.proofs.lemmas.Bool.{false≢true, eqb-true, eq-eqb, and_parts, and_from, or_cases, or_left, or_right}
use Rattle.std.proofs.lemmas.Bool.{cases_Bool}
use Rattle.std.proofs.lemmas.List.Elements.{filter_agree}
use Rattle.std.proofs.lemmas.List.Folds.{list_any-append}
use Rattle.std.proofs.lemmas.Map.Views.{any-filter_same}
use Rattle.plan_resolve.specs.declared.rows.TrialRow.{TrialRow}
use Rattle.plan_resolve.specs.Trials.{has_name, has_need, is_in, is_provided, is_required, required_at, provided_at}
use Rattle.plan_resolve.specs.Trials.{holds, is_closed, places, subsets, largest}
use Rattle.plan_resolve.specs.Pruning.{Within}

-- an element that passes; what passes there passes in the list
pub any_elim : {X : Type 0} (p : X → Bool) (xs : List X) → list_any p xs ≡ true →
    (x : X) × (p x ≡ true) × ((q : X → Bool) → q x ≡ true → list_any q xs ≡ true)
any_elim p [] h = absurd (false≢true h)
any_elim p (x ∷ xs) h = elim (or_cases (p x) (list_any p xs) h) [
  | inl e ↦ (x, e, λ q r. or_left (q x) (list_any q xs) r)
  | inr e ↦ let found = any_elim p xs e in (found.0, found.1, λ q r. or_right (q x) (list_any q xs) (found.2 q r))
]

pub any_in : (p : ℕ → Bool) (xs : List ℕ) → list_any p xs ≡ true → (i : ℕ) × (is_in i xs ≡ true) × (p i ≡ true)
any_in p xs h = let found = any_elim p xs h in (
  found.0,
  found.2 (λ j. found.0 == j)
      (eq-eqb found.0 found.0 refl),
  found.1,
)

pub any_from : (p : ℕ → Bool) (i : ℕ) (xs : List ℕ) → is_in i xs ≡ true → p i ≡ true → list_any p xs ≡ true
any_from p i [] h r = absurd (false≢true h)
any_from p i (x ∷ xs) h r = elim (or_cases (i == x) (is_in i xs) h) [
  | inl e ↦ or_left (p x) (list_any p xs) (subst (λ (y : ℕ). p y ≡ true) (eqb-true i x e) r)
  | inr e ↦ or_right (p x) (list_any p xs) (any_from p i xs e r)
]

any_within : (p : ℕ → Bool) (set sup : List ℕ) → Within set sup → list_any p set ≡ true → list_any p sup ≡ true
any_within p set sup w h = let found = any_in p set h in any_from p found.0 sup (w found.0 found.1) found.2

pub all_at : (p : ℕ → Bool) (i : ℕ) (xs : List ℕ) → list_all p xs ≡ true → is_in i xs ≡ true → p i ≡ true
all_at p i [] a h = absurd (false≢true h)
all_at p i (x ∷ xs) a h = elim (or_cases (i == x) (is_in i xs) h) [
  | inl e ↦ subst (λ (y : ℕ). p y ≡ true) (sym (eqb-true i x e)) (and_parts (p x) (list_all p xs) a).0
  | inr e ↦ all_at p i xs (and_parts (p x) (list_all p xs) a).1 e
]

pub all_from : (p : ℕ → Bool) (xs : List ℕ) → ((i : ℕ) → is_in i xs ≡ true → p i ≡ true) → list_all p xs ≡ true
all_from p [] each = refl
all_from p (x ∷ xs) each = and_from (p x) (list_all p xs)
    (each x (or_left (x == x) (is_in x xs) (eq-eqb x x refl)))
    (all_from p xs (λ i h. each i (or_right (i == x) (is_in i xs) h)))

pub all_mono : {X : Type 0} (p q : X → Bool) (xs : List X) → ((x : X) → p x ≡ true → q x ≡ true)
    → list_all p xs ≡ true → list_all q xs ≡ true
all_mono p q [] each a = refl
all_mono p q (x ∷ xs) each a = let parts = and_parts (p x) (list_all p xs) a in
    and_from (q x) (list_all q xs) (each x parts.0) (all_mono p q xs each parts.1)

-- what holds a set holds a larger one
pub holds_within : (trial : List TrialRow) (set sup : List ℕ) (i : ℕ) → Within set sup → holds trial set i ≡ true
    → holds trial sup i ≡ true
holds_within trial set sup i w h =
    let parts = and_parts (list_all (λ need. is_provided trial set i need.name) (required_at trial i))
    (list_all (is_required trial set i) (provided_at trial i)) h in
    and_from (list_all (λ need. is_provided trial sup i need.name) (required_at trial i))
    (list_all (is_required trial sup i) (provided_at trial i))
    (all_mono (λ need. is_provided trial set i need.name) (λ need. is_provided trial sup i need.name)
    (required_at trial i) (λ need. any_within (λ j. nat_le j i && has_name (provided_at trial j) need.name)
    set sup w) parts.0)
    (all_mono (is_required trial set i) (is_required trial sup i) (provided_at trial i)
    (λ name. any_within (λ j. nat_le i j && has_need (required_at trial j) name) set sup w) parts.1)

pub in_filter : (p : ℕ → Bool) (i : ℕ) (xs : List ℕ) → is_in i (filter p xs) ≡ (p i && is_in i xs)
in_filter p i xs = any-filter_same (λ j. i == j) p (p i) (λ k e. ap p (sym (eqb-true i k e))) xs

-- taking away the places that do not hold keeps every closed set inside
pub closed_within_filter : (trial : List TrialRow) (set sup : List ℕ) → is_closed trial set ≡ true
    → Within set sup → Within set (filter (holds trial sup) sup)
closed_within_filter trial set sup closed w i h = in_filter (holds trial sup) i sup
    ∙ and_from (holds trial sup i) (is_in i sup) (holds_within trial set sup i w
    (all_at (holds trial set) i set closed h)) (w i h)

filter_step : (p : ℕ → Bool) (b : Bool) (x : ℕ) (F G : List ℕ) → filter p F ≡ G
    → filter p (cond b (x ∷ F) F) ≡ cond (b && p x) (x ∷ G) G
filter_step p true x F G e = ap (λ ys. cond (p x) (x ∷ ys) ys) e
filter_step p false x F G e = e

pub filter_filter : (p q : ℕ → Bool) (xs : List ℕ) → filter p (filter q xs) ≡ filter (λ x. q x && p x) xs
filter_filter p q [] = refl
filter_filter p q (x ∷ xs) = filter_step p (q x) x (filter q xs) (filter (λ y. q y && p y) xs) (filter_filter p q xs)

pub any_map : {X Y : Type 0} (p : Y → Bool) (f : X → Y) (xs : List X)
    → list_any p (map f xs) ≡ list_any (λ x. p (f x)) xs
any_map p f [] = refl
any_map p f (x ∷ xs) = ap (λ b. p (f x) || b) (any_map p f xs)

-- the part of a list that passes a test is one of its subsets
pub any_subset : (P : List ℕ → Bool) (q : ℕ → Bool) (xs : List ℕ) → P (filter q xs) ≡ true
    → list_any P (subsets xs) ≡ true
any_subset P q [] h = or_left (P []) false h
any_subset P q (x ∷ xs) h =
    let with_x = λ (set : List ℕ). x ∷ set in
    list_any-append P (map with_x (subsets xs)) (subsets xs) ∙ elim (cases_Bool (q x)) [
      | inl e ↦ or_left (list_any P (map with_x (subsets xs))) (list_any P (subsets xs))
          (any_map P with_x (subsets xs) ∙ any_subset (λ set. P (x ∷ set)) q xs
          (subst (λ (b : Bool). P (cond b (x ∷ filter q xs) (filter q xs)) ≡ true) e h))
      | inr e ↦ or_right (list_any P (map with_x (subsets xs))) (list_any P (subsets xs))
          (any_subset P q xs (subst (λ (b : Bool). P (cond b (x ∷ filter q xs) (filter q xs)) ≡ true) e h))
    ]

all-map_append : (P : List ℕ → Bool) (f : List ℕ → List ℕ) (xs ys : List (List ℕ))
    → list_all (λ x. P (f x)) xs ≡ true → list_all P ys ≡ true → list_all P (map f xs ++ ys) ≡ true
all-map_append P f [] ys a b = b
all-map_append P f (x ∷ xs) ys a b = let parts = and_parts (P (f x)) (list_all (λ z. P (f z)) xs) a in
    and_from (P (f x)) (list_all P (map f xs ++ ys)) parts.0 (all-map_append P f xs ys parts.1 b)

-- a subset has elements of its list alone
subsets_pass : (p : ℕ → Bool) (xs : List ℕ) → list_all p xs ≡ true
    → list_all (λ set. list_all p set) (subsets xs) ≡ true
subsets_pass p [] a = refl
subsets_pass p (x ∷ xs) a = let parts = and_parts (p x) (list_all p xs) a in
    let rest = subsets_pass p xs parts.1 in
    all-map_append (λ set. list_all p set) (λ set. x ∷ set) (subsets xs) (subsets xs)
    (all_mono (λ set. list_all p set) (λ set. p x && list_all p set) (subsets xs)
    (λ set h. and_from (p x) (list_all p set) parts.0 h) rest) rest

all_elim : {X : Type 0} (p q : X → Bool) (xs : List X) → list_all p xs ≡ true → list_any q xs ≡ true → (x : X)
    × (p x ≡ true) × (q x ≡ true) × ((r : X → Bool) → r x ≡ true → list_any r xs ≡ true)
all_elim p q [] a h = absurd (false≢true h)
all_elim p q (x ∷ xs) a h = let parts = and_parts (p x) (list_all p xs) a in elim (or_cases (q x) (list_any q xs) h) [
  | inl e ↦ (x, parts.0, e, λ r s. or_left (r x) (list_any r xs) s)
  | inr e ↦ let found = all_elim p q xs parts.1 e
      in (found.0, found.1, found.2, λ r s. or_right (r x) (list_any r xs) (found.3 r s))
]

same_bool : (a b : Bool) → (a ≡ true → b ≡ true) → (b ≡ true → a ≡ true) → a ≡ b
same_bool true b f g = sym (f refl)
same_bool false true f g = g refl
same_bool false false f g = refl

-- whether a place is in some closed subset of the places
abbrev pub in_some : List TrialRow → ℕ → Bool
in_some trial i = list_any (λ set. is_closed trial set && is_in i set) (subsets (places trial))

-- a closed subset that has the place; and each place of it is in some closed subset
some_closed : (trial : List TrialRow) (i : ℕ) → in_some trial i ≡ true →
    (set : List ℕ) × (is_closed trial set ≡ true) × (is_in i set ≡ true) × Within set (places trial)
    × ((j : ℕ) → is_in j set ≡ true → in_some trial j ≡ true)
some_closed trial i h =
    let all = places trial in
    let found = all_elim (λ set. list_all (λ j. is_in j all) set) (λ set. is_closed trial set && is_in i set)
    (subsets all)
    (subsets_pass (λ j. is_in j all) all (all_from (λ j. is_in j all) all (λ j e. e))) h in
    let parts = and_parts (is_closed trial found.0) (is_in i found.0) found.2 in (
      found.0,
      parts.0,
      parts.1,
      λ j e. all_at (λ k. is_in k all) j found.0 found.1 e,
      λ j e. found.3 (λ set. is_closed trial set && is_in j set)
          (and_from (is_closed trial found.0) (is_in j found.0) parts.0 e),
    )

pub in_largest : (trial : List TrialRow) (i : ℕ) → is_in i (largest trial) ≡ (in_some trial i && is_in i (places trial))
unfolding largest
in_largest trial i = in_filter (in_some trial) i (places trial)

-- a closed set's places are in the largest
pub largest_has : (trial : List TrialRow) (set : List ℕ) → is_closed trial set ≡ true → Within set (places trial)
    → Within set (largest trial)
largest_has trial set closed w i h =
    let all = places trial in
    let part : List ℕ = filter (λ j. is_in j set) all in
    let to : Within set part = λ j e. in_filter (λ k. is_in k set) j all
    ∙ and_from (is_in j set) (is_in j all) e (w j e) in
    let from : Within part set = λ j e. (and_parts (is_in j set) (is_in j all)
    (sym (in_filter (λ k. is_in k set) j all) ∙ e)).0 in
    let closed_part : is_closed trial part ≡ true =
    all_from (holds trial part) part (λ j e. holds_within trial set part j to
    (all_at (holds trial set) j set closed (from j e))) in
    in_largest trial i ∙ and_from (in_some trial i) (is_in i all)
    (any_subset (λ other. is_closed trial other && is_in i other) (λ j. is_in j set) all
    (and_from (is_closed trial part) (is_in i part) closed_part (to i h))) (w i h)

-- a place of the largest is in some closed set of places
pub largest_in_some : (trial : List TrialRow) (i : ℕ) → is_in i (largest trial) ≡ true →
    (set : List ℕ) × (is_closed trial set ≡ true) × Within set (places trial) × (is_in i set ≡ true)
largest_in_some trial i h =
    let found = some_closed trial i (and_parts (in_some trial i) (is_in i (places trial))
    (sym (in_largest trial i) ∙ h)).0 in
    (found.0, found.1, found.3, found.2)

-- the largest is closed
pub largest_closed : (trial : List TrialRow) → is_closed trial (largest trial) ≡ true
largest_closed trial = all_from (holds trial (largest trial)) (largest trial) (λ i h.
    let here = and_parts (in_some trial i) (is_in i (places trial)) (sym (in_largest trial i) ∙ h) in
    let found = some_closed trial i here.0 in
    holds_within trial found.0 (largest trial) i
    (λ j e. in_largest trial j ∙ and_from (in_some trial j) (is_in j (places trial)) (found.4 j e) (found.3 j e))
    (all_at (holds trial found.0) i found.0 found.1 found.2))

-- a closed set of places, as a filter leaves them, with every closed set inside is the largest
pub largest_is : (trial : List TrialRow) (set : List ℕ) → set ≡ filter (λ i. is_in i set) (places trial)
    → is_closed trial set ≡ true →
    ((other : List ℕ) → is_closed trial other ≡ true → Within other (places trial) → Within other set)
    → largest trial ≡ set
unfolding largest
largest_is trial set part closed most = filter_agree (in_some trial) (λ i. is_in i set)
    (λ i. same_bool (in_some trial i) (is_in i set)
    (λ h. let found = some_closed trial i h in most found.0 found.1 found.3 i found.2)
    (λ h. any_subset (λ other. is_closed trial other && is_in i other) (λ j. is_in j set) (places trial)
    (subst (λ (other : List ℕ). (is_closed trial other && is_in i other) ≡ true) part
    (and_from (is_closed trial set) (is_in i set) closed h))))
    (places trial) ∙ sym part
