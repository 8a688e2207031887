-- How many distinct elements a list has.
use Rattle.std.proofs.Common.{◌≡◌, ◌∙◌, refl, sym, ap, inl, inr, ℕ, suc, ◌+◌, Bool, true, false, cond, not, List, []}
use Rattle.std.proofs.Common.{◌∷◌, ◌++◌, map, length, arith}
use Rattle.std.specs.Prelude.{◌||◌}
use Rattle.std.specs.List.{flat_map, filter, list_all, list_any, AllByRecursion}
use Rattle.std.proofs.lemmas.Bool.{cases_Bool, and_from, and_parts}
use Rattle.detect_core.proofs.ListLemmas.{all_filter}
use Rattle.order_expand.specs.Groups.{distinct}

abbrev pub one_if : Bool → ℕ
one_if b = cond b 1 0

-- the sum over a list
abbrev pub total : {X : Type 0} → (X → ℕ) → List X → ℕ
total f [] = 0
total f (x ∷ xs) = f x + total f xs

pub total-add : {X : Type 0} (f g : X → ℕ) (xs : List X) → total (λ x. f x + g x) xs ≡ total f xs + total g xs
total-add f g [] = refl
total-add f g (x ∷ xs) = ap (λ n. f x + g x + n) (total-add f g xs) ∙ omega arith

pub total-zero : {X : Type 0} (xs : List X) → total (λ (x : X). 0) xs ≡ 0
total-zero [] = refl
total-zero (x ∷ xs) = ap (λ n. 0 + n) (total-zero xs)

pub total-append : {X : Type 0} (f : X → ℕ) (xs ys : List X) → total f (xs ++ ys) ≡ total f xs + total f ys
total-append f [] ys = sym (omega arith)
total-append f (x ∷ xs) ys = ap (λ n. f x + n) (total-append f xs ys) ∙ omega arith

pub total-map : {X Y : Type 0} (f : Y → ℕ) (g : X → Y) (xs : List X) → total f (map g xs) ≡ total (λ x. f (g x)) xs
total-map f g [] = refl
total-map f g (x ∷ xs) = ap (λ n. f (g x) + n) (total-map f g xs)

length-filter_step : {X : Type 0} (b : Bool) (x : X) (xs : List X) → length (cond b (x ∷ xs) xs) ≡ one_if b + length xs
length-filter_step true x xs = omega arith
length-filter_step false x xs = sym (omega arith)

-- Equivalence by a test.
pub record IsSameness {X : Type 0} (same : X → X → Bool) : Type 0 where
  pub itself : (x : X) → same x x ≡ true
  pub alike : (x y : X) → same x y ≡ true → (z : X) → same x z ≡ same y z
  pub swap : (x y : X) → same x y ≡ same y x

pub each_all : {X : Type 0} (P : X → Type 0) → ((x : X) → P x) → (xs : List X) → AllByRecursion P xs
each_all P each [] = tt
each_all P each (x ∷ xs) = (each x, each_all P each xs)

pub each_both : {X : Type 0} (P Q R : X → Type 0) → ((x : X) → P x → Q x → R x) → (xs : List X)
    → AllByRecursion P xs → AllByRecursion Q xs → AllByRecursion R xs
each_both P Q R f [] p q = tt
each_both P Q R f (x ∷ xs) p q = (f x p.0 q.0, each_both P Q R f xs p.1 q.1)

pub each_weaker : {X : Type 0} (P Q : X → Type 0) → ((x : X) → P x → Q x) → (xs : List X) → AllByRecursion P xs
    → AllByRecursion Q xs
each_weaker P Q f [] p = tt
each_weaker P Q f (x ∷ xs) p = (f x p.0, each_weaker P Q f xs p.1)

pub each_append : {X : Type 0} (P : X → Type 0) (xs ys : List X) → AllByRecursion P xs → AllByRecursion P ys
    → AllByRecursion P (xs ++ ys)
each_append P [] ys p q = q
each_append P (x ∷ xs) ys p q = (p.0, each_append P xs ys p.1 q)

pub each_first : {X : Type 0} (P : X → Type 0) (xs ys : List X) → AllByRecursion P (xs ++ ys) → AllByRecursion P xs
each_first P [] ys p = tt
each_first P (x ∷ xs) ys p = (p.0, each_first P xs ys p.1)

pub each_second : {X : Type 0} (P : X → Type 0) (xs ys : List X) → AllByRecursion P (xs ++ ys) → AllByRecursion P ys
each_second P [] ys p = p
each_second P (x ∷ xs) ys p = each_second P xs ys p.1

pub each_map : {X Y : Type 0} (P : Y → Type 0) (f : X → Y) (xs : List X) → AllByRecursion (λ x. P (f x)) xs
    → AllByRecursion P (map f xs)
each_map P f [] p = tt
each_map P f (x ∷ xs) p = (p.0, each_map P f xs p.1)

pub each_flat : {X Y : Type 0} (P : Y → Type 0) (f : X → List Y) (xs : List X)
    → AllByRecursion (λ x. AllByRecursion P (f x)) xs → AllByRecursion P (flat_map f xs)
each_flat P f [] p = tt
each_flat P f (x ∷ xs) p = each_append P (f x) (flat_map f xs) p.0 (each_flat P f xs p.1)

each_if : {X : Type 0} (P : X → Type 0) (b : Bool) (x : X) (xs : List X) → P x → AllByRecursion P xs
    → AllByRecursion P (cond b (x ∷ xs) xs)
each_if P true x xs p q = (p, q)
each_if P false x xs p q = q

pub each_filter : {X : Type 0} (P : X → Type 0) (p : X → Bool) (xs : List X) → AllByRecursion P xs
    → AllByRecursion P (filter p xs)
each_filter P p [] h = tt
each_filter P p (x ∷ xs) h = each_if P (p x) x (filter p xs) h.0 (each_filter P p xs h.1)

pub total_each : {X : Type 0} (f g : X → ℕ) (xs : List X) → AllByRecursion (λ x. f x ≡ g x) xs → total f xs ≡ total g xs
total_each f g [] h = refl
total_each f g (x ∷ xs) h = λ i. h.0 i + total_each f g xs h.1 i

-- an element stands once in a list
abbrev pub Once : {X : Type 0} → (X → X → Bool) → List X → X → Type 0
Once same universe x = total (λ u. one_if (same u x)) universe ≡ 1

module _ {X : Type 0} (same : X → X → Bool) (is : IsSameness same) where
  -- of the elements that are the same as one, at most the first is kept
  abbrev only : X → List X → ℕ
  only x xs = length (filter (same x) xs)

  filter_none : (x y : X) → same x y ≡ true → (xs : List X) → filter (same x) (filter (λ z. not (same y z)) xs) ≡ []
  filter_none x y e [] = refl
  filter_none x y e (z ∷ xs) = elim (cases_Bool (same y z)) [
    | inl t ↦ (λ i. filter (same x) (cond (not (t i)) (z ∷ filter (λ w. not (same y w)) xs)
        (filter (λ w. not (same y w)) xs))) ∙ filter_none x y e xs
    | inr t ↦ (λ i. filter (same x) (cond (not (t i)) (z ∷ filter (λ w. not (same y w)) xs)
        (filter (λ w. not (same y w)) xs)))
        ∙ ((λ i. cond ((is.alike x y e z ∙ t) i) (z ∷ filter (same x) (filter (λ w. not (same y w)) xs))
        (filter (same x) (filter (λ w. not (same y w)) xs))) ∙ filter_none x y e xs)
  ]

  filter_past : (x y : X) → same x y ≡ false → (xs : List X)
      → filter (same x) (filter (λ z. not (same y z)) xs) ≡ filter (same x) xs
  filter_past x y e [] = refl
  filter_past x y e (z ∷ xs) = elim (cases_Bool (same y z)) [
    | inl t ↦
        let other : same x z ≡ false = is.swap x z ∙ (sym (is.alike y z t x) ∙ (is.swap y x ∙ e)) in
        (λ i. filter (same x) (cond (not (t i)) (z ∷ filter (λ w. not (same y w)) xs)
        (filter (λ w. not (same y w)) xs)))
        ∙ (filter_past x y e xs ∙ sym (λ i. cond (other i) (z ∷ filter (same x) xs) (filter (same x) xs)))
    | inr t ↦ (λ i. filter (same x) (cond (not (t i)) (z ∷ filter (λ w. not (same y w)) xs)
        (filter (λ w. not (same y w)) xs)))
        ∙ (λ i. cond (same x z) (z ∷ filter_past x y e xs i) (filter_past x y e xs i))
  ]

  pub once_in-distinct : (x : X) (xs : List X) → length (filter (same x) (distinct same xs))
      ≡ one_if (list_any (same x) xs)
  once_in-distinct x [] = refl
  once_in-distinct x (y ∷ xs) =
      let rest = filter (λ z. not (same y z)) (distinct same xs) in
      elim (cases_Bool (same x y)) [
        | inl e ↦ (λ i. length (cond (e i) (y ∷ filter (same x) rest) (filter (same x) rest)))
            ∙ ((λ i. suc (length (filter_none x y e (distinct same xs) i)))
            ∙ sym (λ i. one_if (e i || list_any (same x) xs)))
        | inr e ↦ (λ i. length (cond (e i) (y ∷ filter (same x) rest) (filter (same x) rest)))
            ∙ ((λ i. length (filter_past x y e (distinct same xs) i))
            ∙ (once_in-distinct x xs ∙ sym (λ i. one_if (e i || list_any (same x) xs))))
      ]

  pub all-distinct : (p : X → Bool) (xs : List X) → list_all p xs ≡ true → list_all p (distinct same xs) ≡ true
  all-distinct p [] h = refl
  all-distinct p (x ∷ xs) h =
      let parts = and_parts (p x) (list_all p xs) h in
      and_from (p x) (list_all p (filter (λ y. not (same x y)) (distinct same xs))) parts.0
      (all_filter (λ y. not (same x y)) p (distinct same xs) (all-distinct p xs parts.1))

  counted : (universe xs : List X) → AllByRecursion (Once same universe) xs
      → total (λ u. length (filter (same u) xs)) universe ≡ length xs
  counted universe [] h = total-zero universe
  counted universe (x ∷ xs) h =
      total_each (λ u. length (filter (same u) (x ∷ xs))) (λ u. one_if (same u x) + length (filter (same u) xs))
      universe
      (each_all (λ u. length (filter (same u) (x ∷ xs)) ≡ one_if (same u x) + length (filter (same u) xs))
      (λ u. length-filter_step (same u x) x (filter (same u) xs)) universe)
      ∙ (total-add (λ u. one_if (same u x)) (λ u. length (filter (same u) xs)) universe
      ∙ ((λ i. h.0 i + counted universe xs h.1 i) ∙ omega arith))

  each_distinct : (P : X → Type 0) (xs : List X) → AllByRecursion P xs → AllByRecursion P (distinct same xs)
  each_distinct P [] h = tt
  each_distinct P (x ∷ xs) h = (h.0, each_filter P (λ y. not (same x y)) (distinct same xs) (each_distinct P xs h.1))

  -- as many distinct elements as elements of a list without repetition that occur
  pub length-distinct : (universe xs : List X) → AllByRecursion (Once same universe) xs
      → length (distinct same xs) ≡ total (λ u. one_if (list_any (same u) xs)) universe
  length-distinct universe xs h =
      sym (counted universe (distinct same xs) (each_distinct (Once same universe) xs h))
      ∙ total_each (λ u. length (filter (same u) (distinct same xs))) (λ u. one_if (list_any (same u) xs)) universe
      (each_all (λ u. length (filter (same u) (distinct same xs)) ≡ one_if (list_any (same u) xs))
      (λ u. once_in-distinct u xs) universe)
