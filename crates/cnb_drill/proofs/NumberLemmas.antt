-- A number and its digits.
use Rattle.std.proofs.Common.{◌≡◌, ℕ, ◌<◌, arith}
use Rattle.cnb_drill.proofs.Members.{value}
use Rattle.cnb_drill.specs.Digits.{digits_of}
use Rattle.cnb_drill.proofs.WordLemmas.{AreDigits}

pub digits-below : (number : ℕ) → AreDigits (digits_of number)
digits-below number = (omega arith, (omega arith, (omega arith, (omega arith, tt))))

pub value-digits : (number : ℕ) → number < 4096 → value (digits_of number) ≡ number
value-digits number h = omega arith
