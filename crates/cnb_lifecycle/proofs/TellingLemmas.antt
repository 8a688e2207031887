-- What comes of the steps of a phase, told as a command's.
use Rattle.std.proofs.Common.{refl, Result, Ok, Err}
use Rattle.cnb_lifecycle.specs.declared.answer.Answer.{Answer}
use Rattle.cnb_lifecycle.specs.declared.refusal.Refusal.{Refusal}
use Rattle.cnb_lifecycle.specs.Telling.{tells}

pub told : {S A F : Type 0} (answer : A → Answer) (refusal : F → Refusal) (step : S → Result A F → S → Type 0)
    (old new : S) (value : A) → step old (Ok value) new → tells answer refusal step old (Ok (answer value)) new
unfolding tells
told answer refusal step old new value h = (value, refl, h)

pub told_fault : {S A F : Type 0} (answer : A → Answer) (refusal : F → Refusal)
    (step : S → Result A F → S → Type 0) (old new : S) (fault : F) → step old (Err fault) new
    → tells answer refusal step old (Err (refusal fault)) new
unfolding tells
told_fault answer refusal step old new fault h = (fault, refl, h)
