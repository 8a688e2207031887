-- The numbers of the caches.
use Rattle.std.proofs.Common.{◌≡◌, ◌∙◌, ap, ℕ, zero, suc, ◌+◌, ◌≤◌, List, [], ◌∷◌, ◌++◌, length, arith}
use Rattle.std.specs.List.{range_with_len}
use Rattle.std.proofs.lemmas.List.FromFn.{length-range_with_len}

one_more_from : (a n : ℕ) → range_with_len a (suc n) ≡ range_with_len a n ++ (a + n) ∷ []
one_more_from a zero = let same : a ≡ a + 0 = omega arith in ap (λ x. x ∷ []) same
one_more_from a (suc n) =
    let same : (a + 1) + n ≡ a + suc n = omega arith in
    ap (λ xs. a ∷ xs) (one_more_from (a + 1) n ∙ ap (λ x. range_with_len (a + 1) n ++ x ∷ []) same)

pub one_more : (n : ℕ) → range_with_len 0 (n + 1) ≡ range_with_len 0 n ++ n ∷ []
one_more n =
    let same : n + 1 ≡ suc n = omega arith in
    let from : 0 + n ≡ n = omega arith in
    ap (range_with_len 0) same ∙ (one_more_from 0 n ∙ ap (λ x. range_with_len 0 n ++ x ∷ []) from)

-- as many shelves as numbers stand
pub all_stand : {X : Type 0} (xs : List X) (places : List ℕ) → places ≡ range_with_len 0 (length xs)
    → length places ≤ length xs
all_stand xs places is = let count : length places ≡ length xs = ap length is
    ∙ length-range_with_len 0 (length xs) in omega (arith, count)
