-- Lists of numbers, weighed, and the merge of two that ascend.
use Rattle.std.proofs.Common.{◌≡◌, ℕ, zero, suc, ◌+◌, ◌-◌, ◌<◌, ◌≤◌, ◌≢◌, cond, List, [], ◌∷◌, ◌++◌, length, refl, sym}
use Rattle.std.proofs.Common.{ap, subst, arith, lt-ltb, le-ltb, le-leb, eq-eqb, ne_eqb, length-append}
use Rattle.std.proofs.lemmas.Bool.{lt-leb}
use mathlib.Core.Logic.{dite}
use native.Mathlib.Decide.{dec_le, dec_lt, ℕ_discrete}
use Rattle.ticket_pool.specs.Numbers.{weigh, same, late_one, late_of, upto, AllAbove, AllBelow, IsAscending, placed}
use Rattle.ticket_pool.specs.Numbers.{merged, Apart}

pub weigh-append : (h : ℕ → ℕ) (xs ys : List ℕ) → weigh h (xs ++ ys) ≡ weigh h xs + weigh h ys
weigh-append h [] ys = omega arith
weigh-append h (x ∷ xs) ys = omega (arith, weigh-append h xs ys)

pub weigh-snoc : (h : ℕ → ℕ) (xs : List ℕ) (y : ℕ) → weigh h (xs ++ y ∷ []) ≡ weigh h xs + h y
weigh-snoc h xs y = omega (arith, weigh-append h xs (y ∷ []))

pub same-self : (x : ℕ) → same x x ≡ 1
same-self x = ap (λ b. cond b 1 0) (eq-eqb x x refl)

pub same-other : (x y : ℕ) → x ≢ y → same x y ≡ 0
same-other x y ne = ap (λ b. cond b 1 0) (ne_eqb x y ne)

pub same-le : (x y : ℕ) → same x y ≤ 1
same-le x y = dite (ℕ_discrete x y) (λ e. let s = ap (λ b. cond b 1 0) (eq-eqb x y e) in let t : same x y ≡ 1 = s
    in omega arith) (λ ne. let t = same-other x y ne in omega arith)

pub late_one-late : (jobs n : ℕ) → jobs ≤ n → late_one jobs n ≡ 1
late_one-late jobs n h = ap (λ b. cond b 1 0) (le-leb jobs n h)

pub late_one-job : (jobs n : ℕ) → n < jobs → late_one jobs n ≡ 0
late_one-job jobs n h = ap (λ b. cond b 1 0) (lt-leb jobs n h)

pub late_one-le : (jobs n : ℕ) → late_one jobs n ≤ 1
late_one-le jobs n = dite (dec_le jobs n) (λ h. let t = late_one-late jobs n h in omega arith)
    (λ h. let lt : n < jobs = omega arith in let t = late_one-job jobs n lt in omega arith)

-- the numbers below n hold no x that is n or more, and none twice
pub same-upto-high : (x n : ℕ) → n ≤ x → weigh (same x) (upto n) ≡ 0
same-upto-high x zero h = refl
same-upto-high x (suc n) h = let r = same-upto-high x n (omega arith) in let o = same-other x n (omega arith)
    in omega (arith, weigh-snoc (same x) (upto n) n)

pub same-upto-le : (x n : ℕ) → weigh (same x) (upto n) ≤ 1
same-upto-le x zero = omega arith
same-upto-le x (suc n) = dite (dec_lt x n)
    (λ lt. let r = same-upto-le x n in let o = same-other x n (omega arith)
    in omega (arith, weigh-snoc (same x) (upto n) n))
    (λ ge. let r = same-upto-high x n (omega arith) in let o = same-le x n
    in omega (arith, weigh-snoc (same x) (upto n) n))

pub late-upto : (jobs n : ℕ) → late_of jobs (upto n) ≡ n - jobs
late-upto jobs zero = omega arith
late-upto jobs (suc n) = dite (dec_le jobs n)
    (λ h. let r = late-upto jobs n in let o = late_one-late jobs n h
    in omega (arith, weigh-snoc (late_one jobs) (upto n) n))
    (λ h. let lt : n < jobs = omega arith in let r = late-upto jobs n in let o = late_one-job jobs n lt
    in omega (arith, weigh-snoc (late_one jobs) (upto n) n))

pub length-upto : (n : ℕ) → length (upto n) ≡ n
length-upto zero = refl
length-upto (suc n) = let r = length-upto n in omega (arith, length-append (upto n) (n ∷ []))

-- a list that weighs nothing at each x from n on has its numbers below n
pub below_from : (n : ℕ) (xs : List ℕ) → ((x : ℕ) → n ≤ x → weigh (same x) xs ≡ 0) → AllBelow n xs
below_from n [] h = tt
below_from n (y ∷ ys) h = (first (dec_lt y n), below_from n ys (λ x le. let e = h x le in omega arith))
  where
    first : Dec (y < n) → y < n
    first (yes lt) = lt
    first (no ge) = let e = h y (omega arith) in let s = same-self y in absurd (omega arith)

pub ascending-snoc : (n : ℕ) (xs : List ℕ) → IsAscending xs → AllBelow n xs → IsAscending (xs ++ n ∷ [])
ascending-snoc n [] a b = (tt, tt)
ascending-snoc n (x ∷ xs) a b = (above xs a.0 b.1, ascending-snoc n xs a.1 b.1)
  where
    above : (ys : List ℕ) → AllAbove x ys → AllBelow n ys → AllAbove x (ys ++ n ∷ [])
    above [] p q = (b.0, tt)
    above (y ∷ ys) p q = (p.0, above ys p.1 q.1)

pub above_none : (x : ℕ) (xs : List ℕ) (y : ℕ) → y ≤ x → AllAbove x xs → weigh (same y) xs ≡ 0
above_none x [] y le a = refl
above_none x (z ∷ zs) y le a = let r = above_none x zs y le a.1
    in let o = same-other y z (λ e. let lt = a.0 in absurd (omega arith)) in omega arith

above_trans : (x y : ℕ) (xs : List ℕ) → x < y → AllAbove y xs → AllAbove x xs
above_trans x y [] lt a = tt
above_trans x y (z ∷ zs) lt a = ((let p = a.0 in omega arith), above_trans x y zs lt a.1)

pub weigh-placed : (h : ℕ → ℕ) (x : ℕ) (ys : List ℕ) → weigh h (placed x ys) ≡ h x + weigh h ys
weigh-placed h x [] = refl
weigh-placed h x (y ∷ ys) = dite (dec_lt x y)
    (λ lt. ap (λ b. weigh h (cond b (x ∷ y ∷ ys) (y ∷ placed x ys))) (lt-ltb x y lt))
    (λ ge. let r = weigh-placed h x ys in let e = ap (λ b. weigh h (cond b (x ∷ y ∷ ys) (y ∷ placed x ys)))
    (le-ltb x y (omega arith)) in let e' : weigh h (placed x (y ∷ ys)) ≡ h y + weigh h (placed x ys) = e
    in omega arith)

pub weigh-merged : (h : ℕ → ℕ) (xs ys : List ℕ) → weigh h (merged xs ys) ≡ weigh h xs + weigh h ys
weigh-merged h [] ys = omega arith
weigh-merged h (x ∷ xs) ys = omega (arith, weigh-placed h x (merged xs ys), weigh-merged h xs ys)

above-placed : (z x : ℕ) (ys : List ℕ) → z < x → AllAbove z ys → AllAbove z (placed x ys)
above-placed z x [] lt a = (lt, tt)
above-placed z x (y ∷ ys) lt a = dite (dec_lt x y)
    (λ l. subst (λ b. AllAbove z (cond b (x ∷ y ∷ ys) (y ∷ placed x ys))) (sym (lt-ltb x y l)) (lt, (a.0, a.1)))
    (λ g. subst (λ b. AllAbove z (cond b (x ∷ y ∷ ys) (y ∷ placed x ys))) (sym (le-ltb x y (omega arith)))
    (a.0, above-placed z x ys lt a.1))

greater : (x y : ℕ) (ys : List ℕ) → ¬ (x < y) → weigh (same x) (y ∷ ys) ≡ 0 → y < x
greater x y ys g none = dite (ℕ_discrete x y)
    (λ e. let s : same x y ≡ 1 = ap (λ b. cond b 1 0) (eq-eqb x y e) in absurd (omega arith))
    (λ ne. omega arith)

pub ascending-placed : (x : ℕ) (ys : List ℕ) → weigh (same x) ys ≡ 0 → IsAscending ys → IsAscending (placed x ys)
ascending-placed x [] none a = (tt, tt)
ascending-placed x (y ∷ ys) none a = dite (dec_lt x y)
    (λ l. subst (λ b. IsAscending (cond b (x ∷ y ∷ ys) (y ∷ placed x ys))) (sym (lt-ltb x y l))
    ((l, above_trans x y ys l a.0), a))
    (λ g. subst (λ b. IsAscending (cond b (x ∷ y ∷ ys) (y ∷ placed x ys))) (sym (le-ltb x y (omega arith)))
    (above-placed y x ys (greater x y ys g none) a.0, ascending-placed x ys (omega arith) a.1))

pub ascending-merged : (xs ys : List ℕ) → Apart xs ys → IsAscending xs → IsAscending ys → IsAscending (merged xs ys)
ascending-merged [] ys apart a b = b
ascending-merged (x ∷ xs) ys apart a b =
    ascending-placed x (merged xs ys)
    (let s = same-self x in let p = apart x in let n = above_none x xs x (omega arith) a.0
    in omega (arith, weigh-merged (same x) xs ys))
    (ascending-merged xs ys (λ y. let p = apart y in omega arith) a.1 b)

-- two ascending lists that weigh the same are one list
pub ascending_same : (xs ys : List ℕ) → IsAscending xs → IsAscending ys → ((h : ℕ → ℕ) → weigh h xs ≡ weigh h ys)
    → xs ≡ ys
ascending_same [] [] a b e = refl
ascending_same [] (y ∷ ys) a b e = absurd (let s = same-self y in let w = e (same y) in omega arith)
ascending_same (x ∷ xs) [] a b e = absurd (let s = same-self x in let w = e (same x) in omega arith)
ascending_same (x ∷ xs) (y ∷ ys) a b e = step (ℕ_discrete x y) (λ rest. ascending_same xs ys a.1 b.1 rest)
  where
    least : (z : ℕ) (zs us : List ℕ) (u : ℕ) → AllAbove u us → z < u
        → weigh (same z) (z ∷ zs) ≡ weigh (same z) (u ∷ us) → ⊥
    least z zs us u above lt same_weight = let s = same-self z in let o = same-other z u (omega arith)
        in let n = above_none u us z (omega arith) above in omega arith

    step : Dec (x ≡ y) → (((h : ℕ → ℕ) → weigh h xs ≡ weigh h ys) → xs ≡ ys) → x ∷ xs ≡ y ∷ ys
    step (yes q) again = λ i. q i ∷ again (λ h. let w = e h in let k : h x ≡ h y = ap h q in omega arith) i
    step (no ne) again = dite (dec_lt x y) (λ l. absurd (least x xs ys y b.0 l (e (same x))))
        (λ g. absurd (least y ys xs x a.0 (omega arith) (sym (e (same y)))))

pub ascending-upto : (n : ℕ) → IsAscending (upto n)
ascending-upto zero = tt
ascending-upto (suc n) = ascending-snoc n (upto n) (ascending-upto n)
    (below_from n (upto n) (λ x le. same-upto-high x n le))

pub ascending-once : (xs : List ℕ) → IsAscending xs → (x : ℕ) → weigh (same x) xs ≤ 1
ascending-once [] a x = omega arith
ascending-once (y ∷ ys) a x = dite (ℕ_discrete x y)
    (λ e. let o = same-le x y in let n = above_none y ys x (omega arith) a.0 in omega arith)
    (λ ne. let o = same-other x y ne in let r = ascending-once ys a.1 x in omega arith)

pub apart-merged : (xs ys : List ℕ) → IsAscending (merged xs ys) → Apart xs ys
apart-merged xs ys a x = let o = ascending-once (merged xs ys) a x in omega (arith, weigh-merged (same x) xs ys)

empty_from : (xs : List ℕ) → weigh (λ _. 1) xs ≡ 0 → xs ≡ []
empty_from [] e = refl
empty_from (x ∷ xs) e = absurd (omega arith)

pub merged-empty : (xs ys : List ℕ) → merged xs ys ≡ [] → (xs ≡ []) × (ys ≡ [])
merged-empty xs ys e = let none : weigh (λ _. 1) (merged xs ys) ≡ 0 = ap (weigh (λ _. 1)) e in (
  empty_from xs (omega (arith, weigh-merged (λ _. 1) xs ys)),
  empty_from ys (omega (arith, weigh-merged (λ _. 1) xs ys)),
)
