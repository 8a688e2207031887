-- The parts of a record's lines as bytes: numbers, exit codes, plans and steps.
use Rattle.std.specs.Prelude.{ℕ, ◌+◌, ◌==◌, ◌&&◌, ◌||◌, Bool, not, List, [], ◌∷◌, ◌++◌, drop, length, position, take}
use Rattle.std.specs.Prelude.{nat_le, nat_lt, slice_index, if◌then◌else◌, codes, Option, Some, None, option_and_then, ℤ}
use Rattle.std.specs.Prelude.{pos, neg_ℤ}
use Rattle.std.specs.Char.{is_ascii_digit}
use Rattle.std.specs.Fmt.{decimal, signed_decimal}
use Rattle.std.specs.List.{list_all, slice_split}
use Rattle.std.specs.Option.{option_map}
use Rattle.std.specs.Result.{result_ok}
use Rattle.std.specs.Str.{bytes_eq}
use Rattle.std.specs.Str.Parse.{digits_value}
use Rattle.hex.specs.Hex.{decode_of, encode_lower}
use Rattle.detect_record.specs.declared.parts.Side.{Side}
use Rattle.detect_record.specs.declared.parts.Side.TheVariants.{Required, Provided}
use Rattle.detect_record.specs.declared.parts.Step.{Step}

-- the first value, and what is made of it
infixl 10 ◌>>=◌
abbrev pub ◌>>=◌ : {A B : Type 0} → Option A → (A → Option B) → Option B
value >>= next = option_and_then next value

-- what is in front of a place, and what is behind it
abbrev pub halves_at : List ℕ → ℕ → List ℕ × List ℕ
halves_at bytes at = (take at bytes, drop (at + 1) bytes)

-- what is in front of the first such byte, and what is behind it
abbrev pub cut : ℕ → List ℕ → Option (List ℕ × List ℕ)
cut mark bytes = option_map (halves_at bytes) (position (λ byte. byte == mark) bytes)

-- ---- numbers

-- a 0 in front of others
abbrev pub has_leading_zero : List ℕ → Bool
has_leading_zero text = nat_lt 1 (length text) && (slice_index text 0 == 48)

-- decimal digits, at least one
abbrev pub is_decimal : List ℕ → Bool
is_decimal text = nat_lt 0 (length text) && list_all is_ascii_digit text && not (has_leading_zero text)

abbrev pub up_to : ℕ → ℕ → Option ℕ
up_to most number = if nat_le number most then Some number else None

-- the number that a text is, up to the most
unfoldable pub number_to : ℕ → List ℕ → Option ℕ
number_to most text = if is_decimal text then up_to most (digits_value 10 text) else None

-- a number of 32 bits
abbrev pub number_in : List ℕ → Option ℕ
number_in text = number_to 4294967295 text

-- ---- exit codes

-- a whole number of 32 bits, with its sign; a number in front of which `-` is, is below 0 or is 0
unfoldable pub signed_in : List ℕ → Option ℤ
signed_in [] = None
signed_in (first ∷ rest) = if first == 45 then option_map (λ number. neg_ℤ (pos number)) (number_to 2147483648 rest)
    else option_map pos (number_to 2147483647 (first ∷ rest))

-- how a child ended: `none` where it had no code
unfoldable pub code_in : List ℕ → Option (Option ℤ)
code_in text = if bytes_eq text (codes "none") then Some None else option_map Some (signed_in text)

abbrev pub code_text : Option ℤ → List ℕ
code_text None = codes "none"
code_text (Some code) = signed_decimal code

-- ---- plans

-- `0` to `9` and `a` to `f`
abbrev pub is_lower_digit : ℕ → Bool
is_lower_digit byte = (nat_le 48 byte && nat_le byte 57) || (nat_le 97 byte && nat_le byte 102)

-- the bytes of a plan, each as two digits; `-` where there are none
unfoldable pub plan_in : List ℕ → Option (List ℕ)
plan_in text = if bytes_eq text (codes "-") then Some []
    else if nat_lt 0 (length text) && list_all is_lower_digit text then result_ok (decode_of text) else None

abbrev pub plan_text : List ℕ → List ℕ
plan_text [] = codes "-"
plan_text (byte ∷ bytes) = encode_lower (byte ∷ bytes)

-- ---- steps

abbrev pub side_in : List ℕ → Option Side
side_in text = if bytes_eq text (codes "r") then Some Required else if bytes_eq text
    (codes "v") then Some Provided else None

-- a place, a side and the number of a name, with colons between
unfoldable pub step_in : List ℕ → Option Step
step_in text = do
  first ← cut 58 text
  second ← cut 58 first.1
  place ← number_in first.0
  side ← side_in second.0
  name ← number_in second.1
  Some (record { place = place; side = side; name = name })

abbrev pub side_text : Side → List ℕ
side_text Required = codes ":r:"
side_text Provided = codes ":v:"

unfoldable pub step_text : Step → List ℕ
step_text step = decimal step.place ++ side_text step.side ++ decimal step.name

abbrev pub all_steps : List (List ℕ) → Option (List Step)
all_steps [] = Some []
all_steps (text ∷ texts) = do
  step ← step_in text
  steps ← all_steps texts
  Some (step ∷ steps)

-- steps with one space between
unfoldable pub steps_in : List ℕ → Option (List Step)
steps_in text = all_steps (slice_split (λ byte. byte == 32) text)

-- a space and a step
abbrev pub spaced : Step → List ℕ
spaced step = codes " " ++ step_text step
