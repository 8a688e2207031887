-- Lists that a loop makes, one element for each number below a bound.
use Rattle.std.proofs.Common.{◌≡◌, ◌∙◌, sym, ap, ℕ, suc, ◌+◌, ◌≤◌, List, [], ◌∷◌, ◌++◌, map, append_assoc, arith}
use Rattle.std.proofs.lemmas.List.{map-append}
use Rattle.plan_resolve.specs.Trials.{numbers_below}

-- one element more
pub pushed : {X : Type 0} (f : ℕ → X) (front : List X) (n : ℕ) (xs ys : List X) (x : X)
    → xs ≡ front ++ map f (numbers_below n) → x ≡ f n → ys ≡ xs ++ x ∷ []
    → ys ≡ front ++ map f (numbers_below (n + 1))
pushed f front n xs ys x e is push =
    let next : suc n ≡ n + 1 = omega arith in
    push
    ∙ ((λ i. e i ++ is i ∷ [])
    ∙ (append_assoc front (map f (numbers_below n)) (f n ∷ [])
    ∙ (ap (λ zs. front ++ zs) (sym (map-append f (numbers_below n) (n ∷ [])))
    ∙ ap (λ m. front ++ map f (numbers_below m)) next)))

-- all elements
pub all_pushed : {X : Type 0} (f : ℕ → X) (front : List X) (n m : ℕ) (xs : List X) → n ≤ m → m ≤ n
    → xs ≡ front ++ map f (numbers_below n) → xs ≡ front ++ map f (numbers_below m)
all_pushed f front n m xs le ge e =
    let same : n ≡ m = omega arith in
    e ∙ ap (λ k. front ++ map f (numbers_below k)) same

-- five lists in a row
pub five_parts : {X : Type 0} (a b c d e : List X) → (((a ++ b) ++ c) ++ d) ++ e ≡ a ++ (b ++ (c ++ (d ++ e)))
five_parts a b c d e = append_assoc ((a ++ b) ++ c) d e
    ∙ (append_assoc (a ++ b) c (d ++ e) ∙ append_assoc a b (c ++ (d ++ e)))
