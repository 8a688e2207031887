-- In an ascending set the places at or before one stand in front of it, and those at or after it stand behind.
use Rattle.std.proofs.Common.{◌≡◌, ℕ, zero, suc, ◌<◌, Bool, true, false, cond, ◌&&◌, ◌||◌, List, [], ◌∷◌, ◌++◌, length}
use Rattle.std.proofs.Common.{get_or, take, drop, reverse, refl, sym, ◌∙◌, ap, arith, Some, None}
use Rattle.std.specs.Prelude.{nat_le, nat_lt, slice_get}
use Rattle.std.specs.List.{filter, list_any, list_all}
use Rattle.std.proofs.lemmas.Bool.{and_parts, and_from, ltb-true, lt-ltb, le-leb, lt-leb}
use Rattle.std.proofs.lemmas.List.{reverse-append}
use Rattle.std.proofs.lemmas.List.Folds.{list_any-append, list_all-append}
use Rattle.cnb_toml.specs.declared.meta.Need.{Need}
use Rattle.plan_resolve.specs.declared.rows.TrialRow.{TrialRow}
use Rattle.plan_resolve.specs.Trials.{has_name, has_need, provided_by, required_by, provided_at, required_at}
use Rattle.plan_resolve.specs.Trials.{is_provided, is_required, holds, numbers_below}
use Rattle.plan_resolve.specs.Pruning.{is_ascending, is_provided_by, is_required_by, row_holds}

-- ---- ascending sets

all_filter : (p q : ℕ → Bool) (xs : List ℕ) → list_all q xs ≡ true → list_all q (filter p xs) ≡ true
all_filter p q [] a = refl
all_filter p q (x ∷ xs) a =
    let parts = and_parts (q x) (list_all q xs) a in
    let rest = all_filter p q xs parts.1 in
    elim (p x) as (λ b. list_all q (cond b (x ∷ filter p xs) (filter p xs)) ≡ true) [
      | true ↦ and_from (q x) (list_all q (filter p xs)) parts.0 rest
      | false ↦ rest
    ]

pub ascending-filter : (p : ℕ → Bool) (xs : List ℕ) → is_ascending xs ≡ true → is_ascending (filter p xs) ≡ true
ascending-filter p [] a = refl
ascending-filter p (x ∷ xs) a =
    let parts = and_parts (list_all (nat_lt x) xs) (is_ascending xs) a in
    let rest = ascending-filter p xs parts.1 in
    elim (p x) as (λ b. is_ascending (cond b (x ∷ filter p xs) (filter p xs)) ≡ true) [
      | true ↦ and_from (list_all (nat_lt x) (filter p xs)) (is_ascending (filter p xs))
          (all_filter p (nat_lt x) xs parts.0) rest
      | false ↦ rest
    ]

all_weaker : (p q : ℕ → Bool) (xs : List ℕ) → ((x : ℕ) → p x ≡ true → q x ≡ true) → list_all p xs ≡ true
    → list_all q xs ≡ true
all_weaker p q [] each a = refl
all_weaker p q (x ∷ xs) each a = let parts = and_parts (p x) (list_all p xs) a
    in and_from (q x) (list_all q xs) (each x parts.0) (all_weaker p q xs each parts.1)

all-push : (p : ℕ → Bool) (xs : List ℕ) (y : ℕ) → list_all p xs ≡ true → p y ≡ true → list_all p (xs ++ y ∷ []) ≡ true
all-push p xs y a b = list_all-append p xs (y ∷ []) ∙ and_from (list_all p xs) (list_all p (y ∷ [])) a
    (and_from (p y) true b refl)

ascending-push : (xs : List ℕ) (n : ℕ) → is_ascending xs ≡ true → list_all (λ y. nat_lt y n) xs ≡ true
    → is_ascending (xs ++ n ∷ []) ≡ true
ascending-push [] n a b = refl
ascending-push (x ∷ xs) n a b =
    let parts = and_parts (list_all (nat_lt x) xs) (is_ascending xs) a in
    let below = and_parts (nat_lt x n) (list_all (λ y. nat_lt y n) xs) b in
    and_from (list_all (nat_lt x) (xs ++ n ∷ [])) (is_ascending (xs ++ n ∷ []))
    (all-push (nat_lt x) xs n parts.0 below.0) (ascending-push xs n parts.1 below.1)

below_all : (n : ℕ) → list_all (λ y. nat_lt y n) (numbers_below n) ≡ true
below_all zero = refl
below_all (suc n) = all-push (λ y. nat_lt y (suc n)) (numbers_below n) n
    (all_weaker (λ y. nat_lt y n) (λ y. nat_lt y (suc n)) (numbers_below n)
    (λ y h. let lt = ltb-true y n h in lt-ltb y (suc n) (omega arith)) (below_all n))
    (lt-ltb n (suc n) (omega arith))

pub ascending-numbers : (n : ℕ) → is_ascending (numbers_below n) ≡ true
ascending-numbers zero = refl
ascending-numbers (suc n) = ascending-push (numbers_below n) n (ascending-numbers n) (below_all n)

-- ---- what stands before and behind a place

pub all_get : (p : ℕ → Bool) (xs : List ℕ) (i d : ℕ) → list_all p xs ≡ true → i < length xs → p (get_or xs i d) ≡ true
all_get p [] i d a lt = absurd (omega arith)
all_get p (x ∷ xs) zero d a lt = (and_parts (p x) (list_all p xs) a).0
all_get p (x ∷ xs) (suc i) d a lt = all_get p xs i d (and_parts (p x) (list_all p xs) a).1 (omega arith)

none_before : (q : ℕ → Bool) (x : ℕ) (xs : List ℕ) → list_all (nat_lt x) xs ≡ true
    → list_any (λ o. nat_le o x && q o) xs ≡ false
none_before q x [] a = refl
none_before q x (y ∷ ys) a =
    let parts = and_parts (nat_lt x y) (list_all (nat_lt x) ys) a in
    let lt = ltb-true x y parts.0 in
    ap (λ b. (b && q y) || list_any (λ o. nat_le o x && q o) ys) (lt-leb y x lt) ∙ none_before q x ys parts.1

all_behind : (q : ℕ → Bool) (x : ℕ) (xs : List ℕ) → list_all (nat_lt x) xs ≡ true
    → list_any (λ o. nat_le x o && q o) xs ≡ list_any q xs
all_behind q x [] a = refl
all_behind q x (y ∷ ys) a =
    let parts = and_parts (nat_lt x y) (list_all (nat_lt x) ys) a in
    let lt = ltb-true x y parts.0 in
    ap (λ b. (b && q y) || list_any (λ o. nat_le x o && q o) ys) (le-leb x y (omega arith))
    ∙ ap (λ b. q y || b) (all_behind q x ys parts.1)

any_before : (q : ℕ → Bool) (set : List ℕ) (i d : ℕ) → is_ascending set ≡ true → i < length set →
    list_any (λ o. nat_le o (get_or set i d) && q o) set ≡ list_any q (take (suc i) set)
any_before q [] i d a lt = absurd (omega arith)
any_before q (x ∷ xs) zero d a lt =
    let parts = and_parts (list_all (nat_lt x) xs) (is_ascending xs) a in
    ap (λ b. (b && q x) || list_any (λ o. nat_le o x && q o) xs) (le-leb x x (omega arith))
    ∙ ap (λ b. q x || b) (none_before q x xs parts.0)
any_before q (x ∷ xs) (suc i) d a lt =
    let parts = and_parts (list_all (nat_lt x) xs) (is_ascending xs) a in
    let y = get_or xs i d in
    let less = ltb-true x y (all_get (nat_lt x) xs i d parts.0 (omega arith)) in
    ap (λ b. (b && q x) || list_any (λ o. nat_le o y && q o) xs) (le-leb x y (omega arith))
    ∙ ap (λ b. q x || b) (any_before q xs i d parts.1 (omega arith))

any_behind : (q : ℕ → Bool) (set : List ℕ) (i d : ℕ) → is_ascending set ≡ true → i < length set →
    list_any (λ o. nat_le (get_or set i d) o && q o) set ≡ list_any q (drop i set)
any_behind q [] i d a lt = absurd (omega arith)
any_behind q (x ∷ xs) zero d a lt =
    let parts = and_parts (list_all (nat_lt x) xs) (is_ascending xs) a in
    ap (λ b. (b && q x) || list_any (λ o. nat_le x o && q o) xs) (le-leb x x (omega arith))
    ∙ ap (λ b. q x || b) (all_behind q x xs parts.0)
any_behind q (x ∷ xs) (suc i) d a lt =
    let parts = and_parts (list_all (nat_lt x) xs) (is_ascending xs) a in
    let y = get_or xs i d in
    let less = ltb-true x y (all_get (nat_lt x) xs i d parts.0 (omega arith)) in
    ap (λ b. (b && q x) || list_any (λ o. nat_le y o && q o) xs) (lt-leb y x less)
    ∙ any_behind q xs i d parts.1 (omega arith)

turned : (a b : Bool) → (a || (b || false)) ≡ (b || a)
turned true true = refl
turned true false = refl
turned false true = refl
turned false false = refl

pub any-reverse : {X : Type 0} (q : X → Bool) (xs : List X) → list_any q (reverse xs) ≡ list_any q xs
any-reverse q [] = refl
any-reverse q (x ∷ xs) =
    ap (list_any q) (reverse-append (x ∷ []) xs)
    ∙ (list_any-append q (reverse xs) (x ∷ [])
    ∙ (ap (λ b. b || (q x || false)) (any-reverse q xs) ∙ turned (list_any q xs) (q x)))

all_same : {X : Type 0} (p q : X → Bool) (xs : List X) → ((x : X) → p x ≡ q x) → list_all p xs ≡ list_all q xs
all_same p q [] each = refl
all_same p q (x ∷ xs) each = λ i. each x i && all_same p q xs each i

-- a buildpack holds by what stands before and behind it
pub holds_at : (trial : List TrialRow) (set : List ℕ) (i d : ℕ) (row : TrialRow) → is_ascending set ≡ true
    → i < length set →
    slice_get trial (get_or set i d) ≡ Some row → row_holds trial (take (suc i) set) (drop i set) row
    ≡ holds trial set (get_or set i d)
holds_at trial set i d row a lt e =
    let place = get_or set i d in
    let front = take (suc i) set in
    let before = all_same (λ (need : Need). is_provided_by trial (reverse front) need.name)
    (λ need. is_provided trial set place need.name) row.needs
    (λ need. any-reverse (λ o. has_name (provided_at trial o) need.name) front
    ∙ sym (any_before (λ o. has_name (provided_at trial o) need.name) set i d a lt)) in
    let behind = all_same (is_required_by trial (drop i set)) (is_required trial set place) row.provides
    (λ name. sym (any_behind (λ o. has_need (required_at trial o) name) set i d a lt)) in
    (λ j. before j && behind j)
    ∙ ap (λ o. list_all (λ need. is_provided trial set place need.name) (required_by o)
    && list_all (is_required trial set place) (provided_by o)) (sym e)

pub holds_past : (trial : List TrialRow) (set : List ℕ) (place : ℕ) → slice_get trial place ≡ None
    → true ≡ holds trial set place
holds_past trial set place e =
    ap (λ o. list_all (λ need. is_provided trial set place need.name) (required_by o)
    && list_all (is_required trial set place) (provided_by o)) (sym e)

pub ascending_part : (p : ℕ → Bool) (set : List ℕ) (n : ℕ) → set ≡ filter p (numbers_below n) → is_ascending set ≡ true
ascending_part p set n e = ap is_ascending e ∙ ascending-filter p (numbers_below n) (ascending-numbers n)
