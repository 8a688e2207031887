-- Answers, one after another.
use Rattle.std.specs.Prelude.{Result, Ok, Err}
pub use Rattle.cnb_world.specs.Steps.{◌>>=◌}

-- the same by its name
abbrev pub and_then : {A B E : Type 0} → Result A E → (A → Result B E) → Result B E
and_then first next = first >>= next

-- an answer whose fault is told as another
abbrev pub with_fault : {A E F : Type 0} → (E → F) → Result A E → Result A F
with_fault of (Ok value) = Ok value
with_fault of (Err fault) = Err (of fault)
