-- Slots by their numbers: the rest's is the number of slices.
use Rattle.std.proofs.Common.{◌≡◌, ℕ, zero, suc, ◌+◌, ◌<◌, ◌≤◌, Bool, true, false, cond, not, List, [], ◌∷◌, Some, None}
use Rattle.std.proofs.Common.{refl, ap, ◌∙◌, arith, length, min, take}
use Rattle.std.specs.Prelude.{nat_lt, unwrap_or}
use Rattle.std.specs.List.{prefix_len, position_or_len}
use Rattle.std.proofs.lemmas.Bool.{ltb-true, ltb-false, lt-ltb, le-ltb}
use Rattle.std.proofs.lemmas.List.{length-take-le}
use Rattle.app_slices.specs.declared.item.Item.{Item}
use Rattle.app_slices.specs.Slots.{Slices, Slot, takes_path, first_taking, earlier, slot_in}
use Rattle.app_slices.specs.Cutting.{slot_at}

-- the first place in the front of a list
first_in_front : {X : Type 0} (t : X → Bool) (n : ℕ) (xs : List X) → n ≤ length xs
    → prefix_len t (take n xs) ≡ min n (prefix_len t xs)
first_in_front t zero xs h = omega arith
first_in_front t (suc n) [] h = absurd (omega (arith, h))
first_in_front t (suc n) (x ∷ xs) h = by (t x) (first_in_front t n xs (omega arith))
  where
    by : (v : Bool) → prefix_len t (take n xs) ≡ min n (prefix_len t xs)
        → cond v (1 + prefix_len t (take n xs)) 0 ≡ min (suc n) (cond v (1 + prefix_len t xs) 0)
    by true e = omega arith
    by false e = omega arith

abbrev number : ℕ → ℕ → Slot
number n k = cond (nat_lt k n) (Some k) None

is_number : (n k : ℕ) → k < n → number n k ≡ Some k
is_number n k h = ap (λ v. cond v (Some k) None) (lt-ltb k n h)

is_rest : (n k : ℕ) → n ≤ k → number n k ≡ None
is_rest n k h = ap (λ v. cond v (Some k) None) (le-ltb k n h)

earlier_number : (n a b : ℕ) → number n (min a b) ≡ earlier (number n a) (number n b)
earlier_number n a b = by (nat_lt a n) (nat_lt b n) refl refl
  where
    by : (v w : Bool) → nat_lt a n ≡ v → nat_lt b n ≡ w → number n (min a b)
        ≡ earlier (cond v (Some a) None) (cond w (Some b) None)
    by true true la lb = let x : a < n = ltb-true a n la in is_number n (min a b) (omega arith)
    by true false la lb =
        let x : a < n = ltb-true a n la in
        let y : n ≤ b = ltb-false b n lb in
        let is : min a b ≡ a = omega arith in
        ap (number n) is ∙ is_number n a x
    by false true la lb =
        let x : n ≤ a = ltb-false a n la in
        let y : b < n = ltb-true b n lb in
        let is : min a b ≡ b = omega arith in
        ap (number n) is ∙ is_number n b y
    by false false la lb =
        let x : n ≤ a = ltb-false a n la in
        let y : n ≤ b = ltb-false b n lb in
        is_rest n (min a b) (omega arith)

first_or_all : (k n : ℕ) → k ≤ n → unwrap_or (cond (nat_lt k n) (Some k) None) n ≡ k
first_or_all k n h = by (nat_lt k n) refl
  where
    by : (v : Bool) → nat_lt k n ≡ v → unwrap_or (cond v (Some k) None) n ≡ k
    by true e = refl
    by false e = let more : n ≤ k = ltb-false k n e in omega arith

-- the first of the slices before one that takes a path, else that one
pub front_number : (slices : Slices) (above : ℕ) (path : List ℕ) → above ≤ length slices
    → unwrap_or (first_taking (take above slices) path) above
    ≡ min above (position_or_len (λ patterns. takes_path patterns path) slices)
front_number slices above path h =
    let t : List (List Item) → Bool = λ patterns. takes_path patterns path in
    let place : ℕ = position_or_len t (take above slices) in
    let is : place ≡ min above (position_or_len t slices) = first_in_front
    (λ patterns. not (t patterns)) above slices h in
    let size : length (take above slices) ≡ above = length-take-le above slices h in
    let few : place ≤ above = omega arith in
    ap (λ n. unwrap_or (cond (nat_lt place n) (Some place) None) above) size ∙ first_or_all place above few ∙ is

pub number_in : (slices : Slices) (above : ℕ) (path : List ℕ) → above ≤ length slices
    → slot_at slices (unwrap_or (first_taking (take above slices) path) above)
    ≡ slot_in slices (slot_at slices above) path
number_in slices above path h =
    ap (slot_at slices) (front_number slices above path h)
    ∙ earlier_number (length slices) above (position_or_len (λ patterns. takes_path patterns path) slices)
