-- The digits of a number, and how many children are asked for them.
use Rattle.std.specs.Prelude.{ℕ, ◌+◌, ◌/◌, ◌%◌, ◌==◌, Bool, false, not, ◌||◌, List, [], ◌∷◌, if◌then◌else◌}

-- four digits to the base 8, the greatest first
abbrev pub digits_of : ℕ → List ℕ
digits_of number = (number / 512 % 8) ∷ (number / 64 % 8) ∷ (number / 8 % 8) ∷ (number % 8) ∷ []

-- the last component, and of each column all eight where a digit before it is not 0, else those up to its digit
abbrev pub asked_from : Bool → List ℕ → ℕ
asked_from is_behind [] = 1
asked_from is_behind (digit ∷ digits) = (if is_behind then 8 else digit + 1) + asked_from
    (is_behind || not (digit == 0)) digits

abbrev pub asked_count : ℕ → ℕ
asked_count number = asked_from false (digits_of number)
