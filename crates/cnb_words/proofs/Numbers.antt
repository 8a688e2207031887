-- Texts of decimal digits.
use Rattle.std.proofs.Common.{◌≡◌, ◌∙◌, ℕ, ◌<◌, ◌≤◌, ◌^◌, true, cond, Err, None, List, length, arith, ap, rules}
use Rattle.std.proofs.lemmas.Bool.Decides.{nat_tests}
use Rattle.std.specs.Char.{is_ascii_digit}
use Rattle.std.specs.List.{list_all}
use Rattle.std.specs.Str.Parse.{digits_value, ParsesUnsigned}
use Rattle.std.proofs.lemmas.Str.Parse.{IsNumeralModel, numerals_by_value, parse_digits}
use Rattle.cnb_words.specs.Values.{in_limits, is_decimal, number_in}

digits : IsNumeralModel (λ text. list_all is_ascii_digit text ≡ true) (digits_value 10)
digits = numerals_by_value _ (search rules)

outside : (least most number : ℕ) → (number ≤ most → ⊥) → in_limits least most number ≡ None
outside least most number h = grind (arith, nat_tests)

-- where no number of 32 bits is read, the digits are beyond 32 bits
pub no_number : {E : Type 0} (least most : ℕ) (text : List ℕ) (fault : E) → is_decimal text ≡ true → most < 2 ^ 32
    → ParsesUnsigned {E = E} 32 10 text (Err fault) → number_in least most text ≡ None
no_number least most text fault h fits parsed =
    let all : list_all is_ascii_digit text ≡ true = grind (arith, nat_tests) in
    let some : 0 < length text = grind (arith, nat_tests) in
    ap (λ b. cond b (in_limits least most (digits_value 10 text)) None) h
    ∙ outside least most (digits_value 10 text) (λ le. parse_digits digits 32 text (Err fault) parsed all
    (some, omega arith))
