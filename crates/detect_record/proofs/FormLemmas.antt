-- Numbers, codes, plans and steps as bytes.
use Rattle.std.proofs.Common.{◌≡◌, ◌∙◌, ℕ, ◌<◌, ◌≤◌, true, Ok, Err, None, Some, List, length, Result, arith, ap, sym}
use Rattle.std.proofs.Common.{rules}
use Rattle.std.proofs.lemmas.Bool.Decides.{nat_tests}
use Rattle.std.proofs.lemmas.Fmt.{IsAscii-from_digits}
use Rattle.std.proofs.lemmas.Str.{IsUtf8-from_ascii}
use Rattle.std.specs.Char.{is_ascii_digit}
use Rattle.std.specs.List.{list_all}
use Rattle.std.specs.Result.{result_ok}
use Rattle.std.specs.Str.{IsUtf8}
use Rattle.std.specs.Str.Parse.{digits_value, ParsesUnsigned}
use Rattle.std.proofs.lemmas.Str.Parse.{IsNumeralModel, numerals_by_value, parse_digits}
use Rattle.detect_record.specs.Forms.{is_decimal, up_to}

digits : IsNumeralModel (λ text. list_all is_ascii_digit text ≡ true) (digits_value 10)
digits = numerals_by_value _ (search rules)

decimal_digits : (text : List ℕ) → is_decimal text ≡ true → list_all is_ascii_digit text ≡ true
decimal_digits text h = grind (arith, nat_tests)

pub decimal_text : (text : List ℕ) → is_decimal text ≡ true → IsUtf8 text
decimal_text text h = IsUtf8-from_ascii text (IsAscii-from_digits text (digits.to text (decimal_digits text h)))

up_to_in : (most number : ℕ) → number ≤ most → up_to most number ≡ Some number
up_to_in most number h = grind (arith, nat_tests)

up_to_out : (most number : ℕ) → (number ≤ most → ⊥) → up_to most number ≡ None
up_to_out most number h = grind (arith, nat_tests)

-- what is read of decimal digits as a number of 32 bits
pub parsed_number : {E : Type 0} (text : List ℕ) (result : Result ℕ E) → is_decimal text ≡ true
    → ParsesUnsigned {E = E} 32 10 text result → result_ok result ≡ up_to 4294967295 (digits_value 10 text)
parsed_number {E} text (Ok number) h parsed =
    let some : 0 < length text = grind (arith, nat_tests) in
    let read = parse_digits digits {E = E} 32 text (Ok number) parsed (decimal_digits text h) in
    ap Some read.1 ∙ sym (up_to_in 4294967295 (digits_value 10 text) (omega (arith, read.0.1)))
parsed_number {E} text (Err fault) h parsed =
    let some : 0 < length text = grind (arith, nat_tests) in
    let read = parse_digits digits {E = E} 32 text (Err fault) parsed (decimal_digits text h) in
    sym (up_to_out 4294967295 (digits_value 10 text) (λ le. read (some, omega arith)))
