-- Steps for each item of a list: how far a loop has come.
use Rattle.std.proofs.Common.{◌≡◌, ◌∙◌, refl, sym, ap, subst, ℕ, ◌+◌, ◌<◌, ◌≤◌, List, ◌∷◌, length, drop, get_or, suc}
use Rattle.std.proofs.Common.{Result, Ok, Err, arith}
use Rattle.std.proofs.Math.Seq.{drop-cons}
use Rattle.std.proofs.lemmas.List.{drop_all}
use Rattle.steps.specs.Each.{for_each}
use Rattle.steps.specs.Steps.{yields}
use Rattle.steps.proofs.StepLemmas.{ended, went}

rest_is : {X : Type 0} (xs : List X) (i : ℕ) (x : X) → i < length xs → x ≡ get_or xs i x
    → drop i xs ≡ x ∷ drop (i + 1) xs
rest_is xs i x lt is =
    let next : suc i ≡ i + 1 = omega arith in
    drop-cons xs i x lt ∙ ap (λ y. y ∷ drop (suc i) xs) (sym is) ∙ ap (λ n. x ∷ drop n xs) next

module _ {S E A X : Type 0} (step : X → A → S → Result A E → S → Type 0) (xs : List X) where
  -- one step more
  pub goes_on : (i : ℕ) (x : X) (so_far more : A) (old mid : S) → i < length xs → x ≡ get_or xs i x
      → step x so_far old (Ok more) mid → (result : Result A E) (new : S)
      → for_each step (drop (i + 1) xs) more mid result new → for_each step (drop i xs) so_far old result new
  unfolding for_each
  goes_on i x so_far more old mid lt is h result new k = subst (λ ys. for_each step ys so_far old result new)
      (sym (rest_is xs i x lt is)) (went _ _ old mid new more result h k)

  -- a step is refused
  pub stops : (i : ℕ) (x : X) (so_far : A) (old new : S) (fault : E) → i < length xs → x ≡ get_or xs i x
      → step x so_far old (Err fault) new → for_each step (drop i xs) so_far old (Err fault) new
  unfolding for_each
  stops i x so_far old new fault lt is h = subst (λ ys. for_each step ys so_far old (Err fault) new)
      (sym (rest_is xs i x lt is)) (ended _ _ old new fault h)

  -- all are done
  pub over : (i : ℕ) (so_far : A) (old : S) → length xs ≤ i → for_each step (drop i xs) so_far old (Ok so_far) old
  unfolding for_each yields
  over i so_far old le = subst (λ ys. for_each step ys so_far old (Ok so_far) old) (sym (drop_all i xs le)) (refl, refl)
