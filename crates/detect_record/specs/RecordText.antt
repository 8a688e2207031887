-- The bytes of a record that is made.
use Rattle.std.specs.Prelude.{ℕ, ◌≡◌, ◌<◌, ◌++◌, List, length, Result, Ok, Err}
use Rattle.detect_record.specs.declared.outcome.RecordFault.{RecordFault}
use Rattle.detect_record.specs.declared.outcome.RecordFault.TheVariants.{Large, Memory}

-- text is put behind what was written, and is refused where there would be more than 16,777,216 bytes, unless memory
-- ran out
abbrev pub IsPutBehind : List ℕ → List ℕ → List ℕ → Result (Unit {0}) RecordFault → Type 0
IsPutBehind old text new (Ok done) = new ≡ old ++ text
IsPutBehind old text new (Err Large) = 16777216 < length (old ++ text)
IsPutBehind old text new (Err Memory) = Unit {0}
