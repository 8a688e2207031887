-- Tests of all elements, and how filters, places and joined lists keep them.
use Rattle.std.proofs.Common.{◌≡◌, ◌∙◌, refl, ap, ℕ, zero, suc, Bool, true, false, cond, List, [], ◌∷◌}
use Rattle.std.specs.Prelude.{slice_get, Option, Some, None}
use Rattle.std.specs.List.{filter, flat_map, list_any, list_all, cons_option}
use Rattle.std.proofs.lemmas.Bool.{false≢true, and_parts, and_from, or_left, or_right, or_cases}
use Rattle.std.proofs.lemmas.List.Folds.{list_all-append}
use Rattle.std.proofs.Common.{inl, inr}
use Rattle.plan_resolve.specs.Plan.{at_places}

pub all_each : {X : Type 0} (p : X → Bool) (xs : List X) → ((x : X) → p x ≡ true) → list_all p xs ≡ true
all_each p [] each = refl
all_each p (x ∷ xs) each = and_from (p x) (list_all p xs) (each x) (all_each p xs each)

pub all_weaker : {X : Type 0} (p q : X → Bool) (xs : List X) → ((x : X) → p x ≡ true → q x ≡ true)
    → list_all p xs ≡ true → list_all q xs ≡ true
all_weaker p q [] each a = refl
all_weaker p q (x ∷ xs) each a =
    let parts = and_parts (p x) (list_all p xs) a in
    and_from (q x) (list_all q xs) (each x parts.0) (all_weaker p q xs each parts.1)

pub all_both : {X : Type 0} (p q r : X → Bool) (xs : List X) → ((x : X) → p x ≡ true → q x ≡ true → r x ≡ true)
    → list_all p xs ≡ true → list_all q xs ≡ true → list_all r xs ≡ true
all_both p q r [] each a b = refl
all_both p q r (x ∷ xs) each a b =
    let first = and_parts (p x) (list_all p xs) a in
    let second = and_parts (q x) (list_all q xs) b in
    and_from (r x) (list_all r xs) (each x first.0 second.0) (all_both p q r xs each first.1 second.1)

all_put_if : {X : Type 0} (q : X → Bool) (b : Bool) (x : X) (xs : List X) → (b ≡ true → q x ≡ true)
    → list_all q xs ≡ true → list_all q (cond b (x ∷ xs) xs) ≡ true
all_put_if q true x xs here a = and_from (q x) (list_all q xs) (here refl) a
all_put_if q false x xs here a = a

pub all_filter : {X : Type 0} (p q : X → Bool) (xs : List X) → list_all q xs ≡ true → list_all q (filter p xs) ≡ true
all_filter p q [] a = refl
all_filter p q (x ∷ xs) a =
    let parts = and_parts (q x) (list_all q xs) a in
    all_put_if q (p x) x (filter p xs) (λ _. parts.0) (all_filter p q xs parts.1)

-- what passes a filter passes its test
pub filter_passes : {X : Type 0} (p : X → Bool) (xs : List X) → list_all p (filter p xs) ≡ true
filter_passes p [] = refl
filter_passes p (x ∷ xs) = all_put_if p (p x) x (filter p xs) (λ h. h) (filter_passes p xs)

pub all_flat : {X Y : Type 0} (p : Y → Bool) (f : X → List Y) (xs : List X)
    → list_all (λ x. list_all p (f x)) xs ≡ true → list_all p (flat_map f xs) ≡ true
all_flat p f [] a = refl
all_flat p f (x ∷ xs) a =
    let parts = and_parts (list_all p (f x)) (list_all (λ y. list_all p (f y)) xs) a in
    list_all-append p (f x) (flat_map f xs) ∙ and_from (list_all p (f x)) (list_all p (flat_map f xs)) parts.0
    (all_flat p f xs parts.1)

pub all_get : {X : Type 0} (p : X → Bool) (xs : List X) (i : ℕ) (x : X) → slice_get xs i ≡ Some x
    → list_all p xs ≡ true → p x ≡ true
all_get p [] i x e a = absurd cc
all_get p (y ∷ xs) zero x e a = let same : x ≡ y = cc in ap p same ∙ (and_parts (p y) (list_all p xs) a).0
all_get p (y ∷ xs) (suc i) x e a = all_get p xs i x e (and_parts (p y) (list_all p xs) a).1

-- ---- the elements at some places

all_cons_option : {X : Type 0} (p : X → Bool) (o : Option X) (ys : List X) → ((x : X) → o ≡ Some x → p x ≡ true)
    → list_all p ys ≡ true → list_all p (cons_option o ys) ≡ true
all_cons_option p None ys here a = a
all_cons_option p (Some x) ys here a = and_from (p x) (list_all p ys) (here x refl) a

pub all_places : {X : Type 0} (p : X → Bool) (q : ℕ → Bool) (xs : List X) (set : List ℕ)
    → ((place : ℕ) (x : X) → slice_get xs place ≡ Some x → q place ≡ true → p x ≡ true) →
    list_all q set ≡ true → list_all p (at_places xs set) ≡ true
all_places p q xs [] each a = refl
all_places p q xs (place ∷ places) each a =
    let parts = and_parts (q place) (list_all q places) a in
    all_cons_option p (slice_get xs place) (at_places xs places) (λ x e. each place x e parts.0)
    (all_places p q xs places each parts.1)

any_here : {X : Type 0} (p : X → Bool) (o : Option X) (ys : List X) (x : X) → o ≡ Some x → p x ≡ true
    → list_any p (cons_option o ys) ≡ true
any_here p None ys x e h = absurd cc
any_here p (Some y) ys x e h = let same : y ≡ x = cc in or_left (p y) (list_any p ys) (ap p same ∙ h)

any_later : {X : Type 0} (p : X → Bool) (o : Option X) (ys : List X) → list_any p ys ≡ true
    → list_any p (cons_option o ys) ≡ true
any_later p None ys h = h
any_later p (Some x) ys h = or_right (p x) (list_any p ys) h

pub any_places : {X : Type 0} (p : X → Bool) (q : ℕ → Bool) (xs : List X) (set : List ℕ)
    → ((place : ℕ) → q place ≡ true → (x : X) × (slice_get xs place ≡ Some x) × (p x ≡ true)) →
    list_any q set ≡ true → list_any p (at_places xs set) ≡ true
any_places p q xs [] each h = absurd (false≢true h)
any_places p q xs (place ∷ places) each h = elim (or_cases (q place) (list_any q places) h) [
  | inl e ↦ let found = each place e in any_here p (slice_get xs place) (at_places xs places) found.0 found.1 found.2
  | inr e ↦ any_later p (slice_get xs place) (at_places xs places) (any_places p q xs places each e)
]
