-- Answers one after another, with faults of any type.
use Rattle.std.specs.Prelude.{Result, Ok, Err}

-- the first fault ends them
infixl 10 ◌>>=◌
abbrev pub ◌>>=◌ : {A B E : Type 0} → Result A E → (A → Result B E) → Result B E
Ok value >>= next = next value
Err fault >>= next = Err fault
