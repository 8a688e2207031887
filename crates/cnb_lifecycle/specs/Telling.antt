-- How the steps of a phase are told as those of a command.
use Rattle.std.specs.Prelude.{◌≡◌, Result, Ok, Err}
use Rattle.cnb_lifecycle.specs.declared.answer.Answer.{Answer}
use Rattle.cnb_lifecycle.specs.declared.refusal.Refusal.{Refusal}

-- what comes of the steps is told as such an answer, and why they are refused as such a refusal
unfoldable pub tells : {S A F : Type 0} → (A → Answer) → (F → Refusal) → (S → Result A F → S → Type 0) → S
    → Result Answer Refusal → S → Type 0
tells {S} {A} answer refusal step old (Ok told) new = (value : A) × (told ≡ answer value) × step old (Ok value) new
tells {S} {A} {F} answer refusal step old (Err told) new = (fault : F) × (told ≡ refusal fault)
    × step old (Err fault) new
