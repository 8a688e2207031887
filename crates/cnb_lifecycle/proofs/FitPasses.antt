-- Steps behind which the files still fit.
use Rattle.std.proofs.Common.{◌≡◌, ◌∙◌, subst, ℕ, List, [], ◌∷◌, Option, Some, None, Result, Ok, Err, inl, inr}
use Rattle.std.specs.Prelude.{IfSome, OnOk}
use Rattle.cnb_world.specs.Tree.{Tree}
use Rattle.steps.specs.Each.{for_each}
use Rattle.steps.specs.Outside.{Seen}
use Rattle.steps.specs.Steps.{◌>>=◌, map_err}
use Rattle.cnb_lifecycle.specs.Fitting.{NoMisuse}
use Rattle.cnb_lifecycle.proofs.FitSteps.{Looks, Minds, looks_yields}

-- files that fit, where these did
abbrev pub Passes : (Tree → Type 0) → Option Tree → Option Tree → Type 0
Passes Fit None new = Unit {0}
Passes Fit (Some files) new = Fit files → (after : Tree) × (new ≡ Some after) × Fit after

-- steps that make no such call where the files fit, and leave files that fit where they went well
abbrev pub Goes : {E A : Type 0} → (Tree → Type 0) → (Seen → Result A E → Seen → Type 0) → Type 0
Goes {E} {A} Fit step = (old new : Seen) (result : Result A E) → step old result new → NoMisuse Fit old new
    × OnOk result (Passes Fit old.files new.files)

pub behind_passed : (Fit : Tree → Type 0) (o o1 : Option Tree) (a b c : ℕ) → Passes Fit o o1
    → IfSome o (λ t. Fit t → b ≡ a) → IfSome o1 (λ t. Fit t → c ≡ b) → IfSome o (λ t. Fit t → c ≡ a)
behind_passed Fit None o1 a b c passed first second = tt
behind_passed Fit (Some t) o1 a b c passed first second = λ fit.
    let (after, is, fits) = passed fit in
    let later : IfSome (Some after) (λ t. Fit t → c ≡ b) = subst (λ v. IfSome v (λ t. Fit t → c ≡ b)) is second in
    later fits ∙ first fit

pub passes_on : (Fit : Tree → Type 0) (o o1 o2 : Option Tree) → Passes Fit o o1 → Passes Fit o1 o2 → Passes Fit o o2
passes_on Fit None o1 o2 first second = tt
passes_on Fit (Some t) o1 o2 first second = λ fit. let (after, is, fits) = first fit
    in let later : Passes Fit (Some after) o2 = subst (λ v. Passes Fit v o2) is second in later fits

pub passes_same : (Fit : Tree → Type 0) (o o1 : Option Tree) → o1 ≡ o → Passes Fit o o1
passes_same Fit None o1 same = tt
passes_same Fit (Some t) o1 same = λ fit. (t, same, fit)

pub goes_looks : {E A : Type 0} (Fit : Tree → Type 0) (step : Seen → Result A E → Seen → Type 0) → Looks Fit step
    → Goes Fit step
goes_looks Fit step looks old new (Ok value) h = let one = looks old new (Ok value) h
    in (one.1, passes_same Fit old.files new.files one.0)
goes_looks Fit step looks old new (Err fault) h = ((looks old new (Err fault) h).1, tt)

pub goes_bind : {E A B : Type 0} (Fit : Tree → Type 0) (first : Seen → Result A E → Seen → Type 0)
    (next : A → Seen → Result B E → Seen → Type 0) → Goes Fit first → ((a : A) → Goes Fit (next a))
    → Goes Fit (first >>= next)
unfolding ◌>>=◌
goes_bind Fit first next p q old new (Ok value) (a, mid, h, k) =
    let one = p old mid (Ok a) h in
    let two = q a mid new (Ok value) k in (
      behind_passed Fit old.files mid.files old.misused mid.misused new.misused one.1 one.0 two.0,
      passes_on Fit
          old.files mid.files new.files one.1 two.1,
    )
goes_bind Fit first next p q old new (Err fault) (inl h) = ((p old new (Err fault) h).0, tt)
goes_bind Fit first next p q old new (Err fault) (inr (a, mid, h, k)) =
    let one = p old mid (Ok a) h in (
      behind_passed Fit old.files mid.files old.misused mid.misused new.misused one.1 one.0
          (q a mid new (Err fault) k).0,
      tt,
    )

pub goes_each : {E A X : Type 0} (Fit : Tree → Type 0) (step : X → A → Seen → Result A E → Seen → Type 0)
    (xs : List X) (so_far : A) → ((x : X) (a : A) → Goes Fit (step x a)) → Goes Fit (for_each step xs so_far)
unfolding for_each
goes_each Fit step [] so_far p = goes_looks Fit _ (looks_yields Fit so_far)
goes_each Fit step (x ∷ xs) so_far p = goes_bind Fit (step x so_far) (for_each step xs) (p x so_far)
    (λ a. goes_each Fit step xs a p)

pub goes_told : {E F A : Type 0} (Fit : Tree → Type 0) (of : E → F) (step : Seen → Result A E → Seen → Type 0)
    → Goes Fit step → Goes Fit (map_err of step)
unfolding map_err
goes_told Fit of step p old new (Ok value) h = p old new (Ok value) h
goes_told Fit of step p old new (Err refusal) (fault, is, h) = p old new (Err fault) h

pub minds_behind : {E A B : Type 0} (Fit : Tree → Type 0) (first : Seen → Result A E → Seen → Type 0)
    (next : A → Seen → Result B E → Seen → Type 0) → Goes Fit first → ((a : A) → Minds Fit (next a))
    → Minds Fit (first >>= next)
unfolding ◌>>=◌
minds_behind Fit first next p q old new (Ok value) (a, mid, h, k) = let one = p old mid (Ok a) h
    in behind_passed Fit old.files mid.files old.misused mid.misused new.misused one.1 one.0
    (q a mid new (Ok value) k)
minds_behind Fit first next p q old new (Err fault) (inl h) = (p old new (Err fault) h).0
minds_behind Fit first next p q old new (Err fault) (inr (a, mid, h, k)) = let one = p old mid (Ok a) h
    in behind_passed Fit old.files mid.files old.misused mid.misused new.misused one.1 one.0
    (q a mid new (Err fault) k)
