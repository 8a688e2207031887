-- An answer that no failure and no want of memory ended is determined.
use Rattle.std.proofs.Common.{◌≡◌, ◌∙◌, sym, subst, Result, Ok, Err}
use Rattle.steps.specs.Causes.{Cause, Decided, IsAnswer, WhereDecided}

-- no failure of the outside and no want of memory ended it
abbrev pub IsDecided : {A E : Type 0} → (E → Cause) → Result A E → Type 0
IsDecided cause_of (Ok value) = Unit {0}
IsDecided cause_of (Err fault) = cause_of fault ≡ Decided

wanted : {A E : Type 0} (cause_of : E → Cause) (result want : Result A E) → IsDecided cause_of result
    → IsAnswer cause_of result want → want ≡ result
wanted cause_of (Ok value) want decided h = h
wanted cause_of (Err fault) want decided h = subst (λ cause. WhereDecided cause (want ≡ Err fault)) decided h

-- two such answers to one question are the same
pub determined : {A E : Type 0} (cause_of : E → Cause) (first second want : Result A E) → IsDecided cause_of first
    → IsDecided cause_of second → IsAnswer cause_of first want → IsAnswer cause_of second want → first ≡ second
determined cause_of first second want one two h k = sym (wanted cause_of first want one h)
    ∙ wanted cause_of second want two k
