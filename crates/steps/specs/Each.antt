-- Steps for each item of a list, one after another.
use Rattle.std.specs.Prelude.{List, [], ◌∷◌, Result}
use Rattle.steps.specs.Steps.{◌>>=◌, yields}

-- each step begins with what the ones before came to, and answers what it comes to
unfoldable pub for_each : {S E A X : Type 0} → (X → A → S → Result A E → S → Type 0) → List X → A → S → Result A E
    → S → Type 0
for_each step [] so_far = yields so_far
for_each step (x ∷ xs) so_far = step x so_far >>= for_each step xs
