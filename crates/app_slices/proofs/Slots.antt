-- The slot of a path, found along the way.
use Rattle.std.proofs.Common.{◌≡◌, ℕ, zero, suc, ◌+◌, ◌<◌, ◌≤◌, Bool, true, false, cond, ◌||◌, List, [], ◌∷◌, ◌++◌}
use Rattle.std.proofs.Common.{Option, Some, None, refl, sym, ap, subst, ◌∙◌, arith, length, min, chars, append-nil}
use Rattle.std.proofs.Common.{append_assoc}
use Rattle.std.specs.Prelude.{ltb}
use Rattle.std.specs.List.{list_any, slice_get, position, position_from}
use Rattle.std.proofs.lemmas.List.Folds.{Any-from_list_any, list_any-from_Any, list_any-append}
use Rattle.std.proofs.lemmas.Iterator.Adapters.{position_from-zero}
use Rattle.std.proofs.lemmas.Bool.{ltb-true, ltb-false}
use Rattle.app_slices.specs.declared.item.Item.{Item}
use Rattle.app_slices.specs.Matching.{matched}
use Rattle.app_slices.specs.Slots.{Slices, Slot, MatchesSome, IsTakenBy, IsSlot, takes_path, first_taking, earlier}
use Rattle.app_slices.specs.Slots.{slot_in, slot_along, SlotsAlong}
use Rattle.app_slices.proofs.Runs.{matched_is, is_matched}

same_some : {X : Type 0} (x y : X) → Some x ≡ Some y → x ≡ y
same_some x y e = cc

-- ---- the first of a list that passes

-- the place where a test passes first, if there is one
abbrev FirstAt : {X : Type 0} → (X → Bool) → List X → Option ℕ → Type 0
FirstAt {X} t xs None = (k : ℕ) (x : X) → slice_get xs k ≡ Some x → t x ≡ false
FirstAt {X} t xs (Some k) = ((x : X) × (slice_get xs k ≡ Some x) × (t x ≡ true))
    × ((j : ℕ) (x : X) → j < k → slice_get xs j ≡ Some x → t x ≡ false)

first_same : {X : Type 0} (t u : X → Bool) (xs : List X) (a : Option ℕ) → ((x : X) → u x ≡ t x) → FirstAt t xs a
    → FirstAt u xs a
first_same t u xs None same f = λ k x e. same x ∙ f k x e
first_same t u xs (Some a) same f = ((f.0.0, f.0.1, same f.0.0 ∙ f.0.2), λ j x lt e. same x ∙ f.1 j x lt e)

or_true : (v w : Bool) → w ≡ true → (v || w) ≡ true
or_true true w h = refl
or_true false w h = h

first_or : {X : Type 0} (t u : X → Bool) (xs : List X) (a b : Option ℕ) → FirstAt t xs a → FirstAt u xs b
    → FirstAt (λ x. t x || u x) xs (earlier a b)
first_or t u xs None None f g = λ k x e. ap (λ v. v || u x) (f k x e) ∙ g k x e
first_or t u xs None (Some b) f g = (
  (g.0.0, g.0.1, or_true (t g.0.0) (u g.0.0) g.0.2),
  λ j x lt e. ap
      (λ v. v || u x) (f j x e) ∙ g.1 j x lt e,
)
first_or t u xs (Some a) None f g = (
  (f.0.0, f.0.1, ap (λ v. v || u f.0.0) f.0.2),
  λ j x lt e. ap (λ v. v || u x)
      (f.1 j x lt e) ∙ g j x e,
)
first_or {X} t u xs (Some a) (Some b) f g = by (ltb b a) refl
  where
    by : (v : Bool) → ltb b a ≡ v → FirstAt (λ x. t x || u x) xs (Some (min a b))
    by true lt =
        let less : b < a = ltb-true b a lt in
        let is : b ≡ min a b = omega arith in
        subst (λ k. FirstAt (λ x. t x || u x) xs (Some k)) is (
          (g.0.0, g.0.1, or_true (t g.0.0) (u g.0.0) g.0.2),
          λ j x before e. let short : j < a = omega arith
              in ap (λ v. v || u x) (f.1 j x short e) ∙ g.1 j x before e,
        )
    by false ge =
        let more : a ≤ b = ltb-false b a ge in
        let is : a ≡ min a b = omega arith in
        subst (λ k. FirstAt (λ x. t x || u x) xs (Some k)) is (
          (f.0.0, f.0.1, ap (λ v. v || u f.0.0) f.0.2),
          λ j x before e. let short : j < b = omega arith
              in ap (λ v. v || u x) (f.1 j x before e) ∙ g.1 j x short e,
        )

-- the same of a list that begins at a place
abbrev FirstFrom : {X : Type 0} → (X → Bool) → ℕ → List X → Option ℕ → Type 0
FirstFrom t n xs None = FirstAt t xs None
FirstFrom t n xs (Some k) = (i : ℕ) × (k ≡ n + i) × FirstAt t xs (Some i)

first_later : {X : Type 0} (t : X → Bool) (n : ℕ) (x : X) (xs : List X) (o : Option ℕ) → t x ≡ false
    → FirstFrom t (n + 1) xs o → FirstFrom t n (x ∷ xs) o
first_later {X} t n x xs None fails f = later
  where
    later : (k : ℕ) (y : X) → slice_get (x ∷ xs) k ≡ Some y → t y ≡ false
    later zero y e = ap t (sym (same_some x y e)) ∙ fails
    later (suc k) y e = f k y e
first_later {X} t n x xs (Some k) fails f = (
  suc f.0,
  (let at : k ≡ n + 1 + f.0 = f.1 in omega arith),
  ((f.2.0.0, f.2.0.1, f.2.0.2), before),
)
  where
    before : (j : ℕ) (y : X) → j < suc f.0 → slice_get (x ∷ xs) j ≡ Some y → t y ≡ false
    before zero y lt e = ap t (sym (same_some x y e)) ∙ fails
    before (suc j) y lt e = f.2.1 j y (omega arith) e

first_from : {X : Type 0} (t : X → Bool) (n : ℕ) (xs : List X) → FirstFrom t n xs (position_from t n xs)
first_from t n [] = λ k x e. absurd (cc)
first_from {X} t n (x ∷ xs) = by (t x) refl (first_from t (n + 1) xs)
  where
    by : (v : Bool) → t x ≡ v → FirstFrom t (n + 1) xs (position_from t (n + 1) xs)
        → FirstFrom t n (x ∷ xs) (cond v (Some n) (position_from t (n + 1) xs))
    by true passes rest = (zero, omega arith, ((x, refl, passes), λ j y lt e. absurd (omega arith)))
    by false fails rest = first_later t n x xs (position_from t (n + 1) xs) fails rest

first_at : {X : Type 0} (t : X → Bool) (xs : List X) (o : Option ℕ) → FirstFrom t 0 xs o → FirstAt t xs o
first_at t xs None f = f
first_at t xs (Some k) f = subst (λ i. FirstAt t xs (Some i))
    (let is : k ≡ 0 + f.0 = f.1 in let same : f.0 ≡ k = omega arith in same) f.2

first_is : {X : Type 0} (t : X → Bool) (xs : List X) → FirstAt t xs (position t xs)
first_is t xs = subst (FirstAt t xs) (sym (position_from-zero t xs))
    (first_at t xs (position_from t 0 xs) (first_from t 0 xs))

-- ---- along the way

abbrev takes_some : List (List ℕ) → List (List Item) → Bool
takes_some paths patterns = list_any (takes_path patterns) paths

or_false : (v : Bool) → (v || false) ≡ v
or_false true = refl
or_false false = refl

one_more : (paths : List (List ℕ)) (path : List ℕ) (patterns : List (List Item))
    → takes_some (paths ++ path ∷ []) patterns ≡ (takes_some paths patterns || takes_path patterns path)
one_more paths path patterns = list_any-append (takes_path patterns) paths (path ∷ [])
    ∙ ap (λ v. takes_some paths patterns || v) (or_false (takes_path patterns path))

along : (slices : Slices) (above : Slot) (before paths : List (List ℕ)) → FirstAt (takes_some before) slices above
    → FirstAt (takes_some (before ++ paths)) slices (slot_along slices above paths)
along slices above before [] f = subst (λ ps. FirstAt (takes_some ps) slices above) (sym (append-nil before)) f
along slices above before (path ∷ paths) f =
    subst (λ ps. FirstAt (takes_some ps) slices (slot_along slices (slot_in slices above path) paths))
    (append_assoc before (path ∷ []) paths)
    (along slices (slot_in slices above path) (before ++ path ∷ []) paths
    (first_same (λ x. takes_some before x || takes_path x path) (takes_some (before ++ path ∷ [])) slices
    (slot_in slices above path) (one_more before path)
    (first_or (takes_some before) (λ x. takes_path x path) slices above (first_taking slices path) f
    (first_is (λ x. takes_path x path) slices))))

-- ---- in the words of the relation

some_taken : (patterns : List (List Item)) (paths : List (List ℕ)) → takes_some paths patterns ≡ true
    → MatchesSome patterns paths
some_taken patterns paths h =
    let path = Any-from_list_any (takes_path patterns) paths h in
    let pattern = Any-from_list_any (λ p. matched p (chars path.1)) patterns path.4 in (
      path.0,
      path.1,
      path.2,
      path.3,
      (
        pattern.0,
        pattern.1,
        pattern.2,
        pattern.3,
        matched_is pattern.1
            (chars path.1) pattern.4,
      ),
    )

taken_some : (patterns : List (List Item)) (paths : List (List ℕ)) → MatchesSome patterns paths
    → takes_some paths patterns ≡ true
taken_some patterns paths (k, path, lt, is, (j, pattern, short, same, m)) =
    list_any-from_Any (takes_path patterns) paths (
      k,
      path,
      lt,
      is,
      list_any-from_Any (λ p. matched p (chars path)) patterns
          (j, pattern, short, same, is_matched pattern (chars path) m),
    )

not_taken : (slices : Slices) (paths : List (List ℕ)) (k : ℕ)
    → ((patterns : List (List Item)) → slice_get slices k ≡ Some patterns → takes_some paths patterns ≡ false)
    → IsTakenBy slices paths k → ⊥
not_taken slices paths k none (patterns, at, some) = let no : true ≡ false = sym (taken_some patterns paths some)
    ∙ none patterns at in cc

slot_by : (slices : Slices) (paths : List (List ℕ)) (o : Slot) → FirstAt (takes_some paths) slices o
    → IsSlot slices paths o
slot_by slices paths None f = λ k taken. not_taken slices paths k (λ patterns at. f k patterns at) taken
slot_by slices paths (Some k) f = (
  (f.0.0, f.0.1, some_taken f.0.0 paths f.0.2),
  λ before lt taken. not_taken
      slices paths before (λ patterns at. f.1 before patterns lt at) taken,
)

pub slot_is : (slices : Slices) → SlotsAlong slices
slot_is slices paths = slot_by slices paths (slot_along slices None paths) (along slices None [] paths (λ k x e. refl))

-- ---- a slot is the number of a slice, or the rest

pub taking_within : (slices : Slices) (path : List ℕ) (k : ℕ) → first_taking slices path ≡ Some k → k < length slices
taking_within slices path k e = within slices k
    (by (first_taking slices path) e (first_is (λ x. takes_path x path) slices))
  where
    by : (o : Slot) → o ≡ Some k → FirstAt (λ x. takes_path x path) slices o → (x : List (List Item))
        × (slice_get slices k ≡ Some x)
    by None is f = absurd (cc)
    by (Some j) is f = subst (λ i. (x : List (List Item)) × (slice_get slices i ≡ Some x)) (same_some j k is)
        (f.0.0, f.0.1)

    within : (xs : Slices) (i : ℕ) → ((x : List (List Item)) × (slice_get xs i ≡ Some x)) → i < length xs
    within [] i at = absurd (let no : None ≡ Some at.0 = at.1 in cc)
    within (y ∷ ys) zero at = omega arith
    within (y ∷ ys) (suc i) at = let less : i < length ys = within ys i at in omega arith
