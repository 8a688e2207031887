-- A core's lists, after a step.
use Rattle.std.proofs.Common.{◌≡◌, ℕ, zero, suc, ◌<◌, ◌≢◌, List, [], ◌∷◌, length, get_or, set, replicate, refl, sym, ap}
use Rattle.std.proofs.Common.{◌∙◌, subst, arith}
use Rattle.std.specs.Prelude.{Option, Some, None}
use mathlib.Core.Logic.{dite}
use native.Mathlib.Decide.{ℕ_discrete}
use Rattle.cnb_world.specs.declared.child.Probed.{Probed}
use Rattle.ticket_pool.specs.declared.round.Event.TheVariants.{End}
use Rattle.ticket_pool.specs.Round.{put, start, after, end}
use Rattle.ticket_pool.specs.Places.{option_at, round_of_lists}
use Rattle.ticket_pool.proofs.LawLemmas.{put-same, put-other, not_some}

module _ {A : Type 0} where
  at_same : (l : List (Option A)) (k : ℕ) (v : Option A) → k < length l → option_at (set l k v) k ≡ v
  at_same [] k v h = absurd (omega arith)
  at_same (x ∷ xs) zero v h = refl
  at_same (x ∷ xs) (suc k) v h = at_same xs k v (omega arith)

  at_else : (l : List (Option A)) (k : ℕ) (v : Option A) (j : ℕ) → j ≢ k → option_at (set l k v) j ≡ option_at l j
  at_else [] k v j ne = refl
  at_else (x ∷ xs) zero v zero ne = absurd (ne refl)
  at_else (x ∷ xs) zero v (suc j) ne = refl
  at_else (x ∷ xs) (suc k) v zero ne = refl
  at_else (x ∷ xs) (suc k) v (suc j) ne = at_else xs k v j (λ e. ne (ap suc e))

  option_at-set : (l : List (Option A)) (k : ℕ) (v : Option A) (j : ℕ) → k < length l
      → option_at (set l k v) j ≡ put (option_at l) k v j
  option_at-set l k v j h = dite (ℕ_discrete j k)
      (λ e. subst (λ x. option_at (set l k v) x ≡ put (option_at l) k v x) (sym e)
      (at_same l k v h ∙ sym (put-same (option_at l) k v)))
      (λ ne. at_else l k v j ne ∙ sym (put-other (option_at l) k v j ne))

  pub low : (l : List (Option A)) (w : ℕ) (n : A) → option_at l w ≡ Some n → w < length l
  low [] w n e = absurd (not_some n None refl e)
  low (x ∷ xs) zero n e = omega arith
  low (x ∷ xs) (suc w) n e = let r = low xs w n e in omega arith

pub after_end : (jobs next next' w m : ℕ) (p : Probed) (held held' : List (Option ℕ))
    (answers answers' : List (Option (ℕ × Probed))) → option_at held w ≡ Some m → m < length answers
    → next' ≡ next → held' ≡ set held w None → answers' ≡ set answers m (Some (w, p))
    → round_of_lists next' held' answers' ≡ after jobs (round_of_lists next held answers) (End w p)
after_end jobs next next' w m p held held' answers answers' is lt n h a =
    (λ i. round_of_lists (n i) (h i) (a i))
    ∙ (λ i. record {
      next = next;
      held = λ j. option_at-set held w None j
          (low held w m is) i;
      answers = λ j. option_at-set answers m (Some (w, p)) j lt i;
    })
    ∙ sym (ap (λ o. end o (round_of_lists next held answers) w p) is)

pub indexed : {A : Type 0} (l : List (Option A)) (w : ℕ) (d : Option A) → w < length l → get_or l w d ≡ option_at l w
indexed [] w d h = absurd (omega arith)
indexed (x ∷ xs) zero d h = refl
indexed (x ∷ xs) (suc w) d h = indexed xs w d (omega arith)

nothing_at : {A : Type 0} (n place : ℕ) → option_at {A = A} (replicate n None) place ≡ None
nothing_at zero place = refl
nothing_at (suc n) zero = refl
nothing_at (suc n) (suc place) = nothing_at n place

pub round_of_lists-none : (workers jobs : ℕ) (held : List (Option ℕ)) (answers : List (Option (ℕ × Probed)))
    → held ≡ replicate workers None → answers ≡ replicate jobs None
    → round_of_lists 0 held answers ≡ start
round_of_lists-none workers jobs held answers h a =
    (λ i. round_of_lists 0 (h i) (a i))
    ∙ (λ i. record { next = 0; held = λ place. nothing_at workers place i; answers = λ place. nothing_at jobs place i })
