-- Numbers, codes, plans and steps that are written are read back.
use Rattle.std.proofs.Common.{◌≡◌, ℕ, suc, ◌+◌, ◌/◌, ◌%◌, ◌<◌, ◌≤◌, ◌^◌, ◌==◌, Bool, true, false, not, ◌&&◌, nat_lt}
use Rattle.std.proofs.Common.{List, [], ◌∷◌, ◌++◌, length, slice_index, zero, inl, inr, Option, Some, None, Ok, ℤ, pos}
use Rattle.std.proofs.Common.{negsuc, codes, subst, refl, arith, rules, append_assoc}
use Rattle.std.proofs.lemmas.Bool.{and_parts, and_from, cases_lt, lt-ltb}
use Rattle.std.proofs.lemmas.Bool.Decides.{nat_tests}
use Rattle.std.proofs.lemmas.Fmt.{decimal_digit, decimal_nonempty, digits_decimal, digits_value-decimal, first_decimal}
use Rattle.std.proofs.lemmas.Str.Parse.{IsNumeralModel, numerals_by_value}
use Rattle.std.specs.Char.{is_ascii_digit}
use Rattle.std.specs.Fmt.{decimal}
use Rattle.std.specs.List.{list_all}
use Rattle.std.specs.Str.Parse.{digits_value}
use Rattle.hex.specs.Hex.{IsBytes, decode_of, encode_lower, encode_with, lower_digits}
use Rattle.hex.proofs.HexLemmas.{decode_of-encode_lower}
use Rattle.detect_record.specs.declared.parts.Side.{Side}
use Rattle.detect_record.specs.declared.parts.Side.TheVariants.{Required, Provided}
use Rattle.detect_record.specs.declared.parts.Step.{Step}
use Rattle.detect_record.specs.Forms.{code_in, code_text, cut, has_leading_zero, is_decimal, is_lower_digit, number_in}
use Rattle.detect_record.specs.Forms.{number_to, plan_in, plan_text, side_in, side_text, signed_in, step_in, step_text}
use Rattle.detect_record.specs.Forms.{up_to}
use Rattle.detect_record.specs.LineLaws.{IsSoundCode, IsSoundStep}
use Rattle.detect_record.proofs.CutLemmas.{cut_at, lacks}
use Rattle.detect_record.proofs.PlainLemmas.{are_plain, is_plain, plain_append, plain_by, plain_decimal}

-- ---- numbers

digits : IsNumeralModel (λ text. list_all is_ascii_digit text ≡ true) (digits_value 10)
digits = numerals_by_value _ (search rules)

no_zero_by : (text : List ℕ) → 48 < slice_index text 0 → has_leading_zero text ≡ false
no_zero_by text h = grind (arith, nat_tests)

no_zero_one : (digit : ℕ) → has_leading_zero (digit ∷ []) ≡ false
no_zero_one digit = refl

no_zero : (n : ℕ) → n < 2 ^ 64 → has_leading_zero (decimal n) ≡ false
no_zero n fits = elim (cases_lt n 10) [
  | inl small ↦ rw (decimal_digit n small) (no_zero_one (48 + n))
  | inr large ↦ no_zero_by (decimal n) (first_decimal n (omega arith) fits)
]

decimal_is : (n : ℕ) → n < 2 ^ 64 → is_decimal (decimal n) ≡ true
decimal_is n fits =
    let some : nat_lt 0 (length (decimal n)) ≡ true = lt-ltb 0 (length (decimal n)) (decimal_nonempty n fits) in
    rw (some, digits_decimal digits n fits, no_zero n fits) refl

up_to_in : (most number : ℕ) → number ≤ most → up_to most number ≡ Some number
up_to_in most number h = grind (arith, nat_tests)

pub number_to_back : (most n : ℕ) → n ≤ most → n < 2 ^ 64 → number_to most (decimal n) ≡ Some n
unfolding number_to
number_to_back most n within fits = rw (decimal_is n fits, digits_value-decimal digits n fits) (up_to_in most n within)

pub number_back : (n : ℕ) → n < 2 ^ 32 → number_in (decimal n) ≡ Some n
number_back n fits = number_to_back 4294967295 n (omega arith) (omega arith)

-- ---- exit codes

begins : (text : List ℕ) → 0 < length text → list_all is_ascii_digit text ≡ true → (first : ℕ) × (rest : List ℕ)
    × (text ≡ first ∷ rest) × (is_ascii_digit first ≡ true)
begins [] some all = absurd (omega arith)
begins (first ∷ rest) some all = (
  first,
  rest,
  refl,
  (and_parts (is_ascii_digit first) (list_all is_ascii_digit rest) all).0,
)

digit_no_dash : (byte : ℕ) → is_ascii_digit byte ≡ true → (byte == 45) ≡ false
digit_no_dash byte is = grind (arith, nat_tests)

digit_no_n : (byte : ℕ) → is_ascii_digit byte ≡ true → (byte == 110) ≡ false
digit_no_n byte is = grind (arith, nat_tests)

signed_plain : (first : ℕ) (rest : List ℕ) (n : ℕ) → is_ascii_digit first ≡ true
    → number_to 2147483647 (first ∷ rest) ≡ Some n → signed_in (first ∷ rest) ≡ Some (pos n)
unfolding signed_in
signed_plain first rest n is read = rw (digit_no_dash first is, read) refl

code_plain : (first : ℕ) (rest : List ℕ) (z : ℤ) → is_ascii_digit first ≡ true → signed_in (first ∷ rest) ≡ Some z
    → code_in (first ∷ rest) ≡ Some (Some z)
unfolding code_in
code_plain first rest z is read = rw (digit_no_n first is, read) refl

code_pos : (n : ℕ) → n < 2 ^ 31 → code_in (decimal n) ≡ Some (Some (pos n))
code_pos n small =
    let fits : n < 2 ^ 64 = omega arith in
    let start = begins (decimal n) (decimal_nonempty n fits) (digits_decimal digits n fits) in
    let number = number_to_back 2147483647 n (omega arith) fits in
    let same = start.2 in
    rw same (code_plain start.0 start.1 (pos n) start.3 (signed_plain start.0 start.1 n start.3 (rw same at number)))

code_neg : (n : ℕ) → n < 2 ^ 31 → code_in (45 ∷ decimal (suc n)) ≡ Some (Some (negsuc n))
unfolding code_in signed_in
code_neg n small =
    let number = number_to_back 2147483648 (suc n) (omega arith) (omega arith) in
    rw number refl

pub code_back : (code : Option ℤ) → IsSoundCode code → code_in (code_text code) ≡ Some code
unfolding code_in
code_back None sound = refl
code_back (Some (pos n)) sound = code_pos n sound
code_back (Some (negsuc n)) sound = code_neg n sound

pub plain_code : (code : Option ℤ) → IsSoundCode code → are_plain (code_text code) ≡ true
plain_code None sound = refl
plain_code (Some (pos n)) sound = plain_decimal n (omega arith)
plain_code (Some (negsuc n)) sound = plain_decimal (suc n) (omega arith)

-- ---- plans

abbrev all_digits : ℕ → Bool
all_digits zero = true
all_digits (suc n) = is_lower_digit (slice_index lower_digits n) && all_digits n

at_value : (n k : ℕ) → all_digits n ≡ true → k < n → is_lower_digit (slice_index lower_digits k) ≡ true
at_value zero k h lt = absurd (omega arith)
at_value (suc n) k h lt =
    let parts = and_parts (is_lower_digit (slice_index lower_digits n)) (all_digits n) h in
    elim (cases_lt k n) [
      | inl below ↦ at_value n k parts.1 below
      | inr top ↦ let e : n ≡ k = omega arith in subst (λ x. is_lower_digit (slice_index lower_digits x) ≡ true) e
          parts.0
    ]

lower_digits_all : (bytes : List ℕ) → IsBytes bytes → list_all is_lower_digit (encode_lower bytes) ≡ true
unfolding encode_with
lower_digits_all [] fit = refl
lower_digits_all (b ∷ bs) fit =
    let few : b < 256 = fit 0 in
    and_from _ _ (at_value 16 (b / 16) refl (omega arith))
    (and_from _ _ (at_value 16 (b % 16) refl (omega arith)) (lower_digits_all bs (λ i. fit (suc i))))

lower_byte : (byte : ℕ) → is_lower_digit byte ≡ true → is_plain byte ≡ true
lower_byte byte is = grind (arith, nat_tests)

lower_no_dash : (byte : ℕ) → is_lower_digit byte ≡ true → (byte == 45) ≡ false
lower_no_dash byte is = grind (arith, nat_tests)

plan_digits : (first : ℕ) (rest bytes : List ℕ) → list_all is_lower_digit (first ∷ rest) ≡ true
    → decode_of (first ∷ rest) ≡ Ok bytes → plan_in (first ∷ rest) ≡ Some bytes
unfolding plan_in
plan_digits first rest bytes all decoded =
    let is = (and_parts (is_lower_digit first) (list_all is_lower_digit rest) all).0 in
    let some : nat_lt 0 (length (first ∷ rest)) ≡ true = lt-ltb 0 (length (first ∷ rest)) (omega arith) in
    rw (lower_no_dash first is, some, all, decoded) refl

encoded_begins : (byte : ℕ) (bytes : List ℕ) → encode_lower (byte ∷ bytes) ≡ slice_index lower_digits (byte / 16)
    ∷ (slice_index lower_digits (byte % 16) ∷ encode_lower bytes)
unfolding encode_with
encoded_begins byte bytes = refl

pub plan_back : (plan : List ℕ) → IsBytes plan → plan_in (plan_text plan) ≡ Some plan
unfolding plan_in
plan_back [] are = refl
plan_back (byte ∷ bytes) are =
    let begin = encoded_begins byte bytes in
    let all = lower_digits_all (byte ∷ bytes) are in
    let decoded = decode_of-encode_lower (byte ∷ bytes) are in
    rw begin (plan_digits (slice_index lower_digits (byte / 16))
    (slice_index lower_digits (byte % 16) ∷ encode_lower bytes) (byte ∷ bytes) (rw begin at all)
    (rw begin at decoded))

pub plain_plan : (plan : List ℕ) → IsBytes plan → are_plain (plan_text plan) ≡ true
plain_plan [] are = refl
plain_plan (byte ∷ bytes) are = plain_by is_lower_digit lower_byte (encode_lower (byte ∷ bytes))
    (lower_digits_all (byte ∷ bytes) are)

-- ---- steps

step_parts : (text place rest side name : List ℕ) (p n : ℕ) (s : Side) → cut 58 text ≡ Some (place, rest)
    → cut 58 rest ≡ Some (side, name)
    → number_in place ≡ Some p → side_in side ≡ Some s → number_in name ≡ Some n
    → step_in text ≡ Some (record { place = p; side = s; name = n })
unfolding step_in
step_parts text place rest side name p n s first second is_place is_side is_name = rw
    (first, second, is_place, is_side, is_name) refl

no_colon : (byte : ℕ) → is_ascii_digit byte ≡ true → not (byte == 58) ≡ true
no_colon byte is = grind (arith, nat_tests)

digits_lack : (text : List ℕ) → list_all is_ascii_digit text ≡ true → lacks 58 text ≡ true
digits_lack [] h = refl
digits_lack (byte ∷ bytes) h =
    let parts = and_parts (is_ascii_digit byte) (list_all is_ascii_digit bytes) h in
    and_from _ _ (no_colon byte parts.0) (digits_lack bytes parts.1)

decimal_lacks : (n : ℕ) → n < 2 ^ 32 → lacks 58 (decimal n) ≡ true
decimal_lacks n fits = digits_lack (decimal n) (digits_decimal digits n (omega arith))

abbrev side_byte : Side → List ℕ
side_byte Required = codes "r"
side_byte Provided = codes "v"

side_back : (side : Side) → side_in (side_byte side) ≡ Some side
side_back Required = refl
side_back Provided = refl

side_lacks : (side : Side) → lacks 58 (side_byte side) ≡ true
side_lacks Required = refl
side_lacks Provided = refl

side_between : (place : List ℕ) (side : Side) (name : List ℕ)
    → place ++ side_text side ++ name ≡ place ++ (58 ∷ (side_byte side ++ (58 ∷ name)))
side_between place Required name = append_assoc place (codes ":r:") name
side_between place Provided name = append_assoc place (codes ":v:") name

pub step_back : (step : Step) → IsSoundStep step → step_in (step_text step) ≡ Some step
unfolding step_text
step_back step sound =
    let between = side_between (decimal step.place) step.side (decimal step.name) in
    rw between (step_parts (decimal step.place ++ (58 ∷ (side_byte step.side ++ (58 ∷ decimal step.name))))
    (decimal step.place) (side_byte step.side ++ (58 ∷ decimal step.name))
    (side_byte step.side) (decimal step.name) step.place step.name step.side
    (cut_at 58 (decimal step.place) (side_byte step.side ++ (58 ∷ decimal step.name))
    (decimal_lacks step.place sound.0))
    (cut_at 58 (side_byte step.side) (decimal step.name) (side_lacks step.side))
    (number_back step.place sound.0) (side_back step.side) (number_back step.name sound.1))

plain_side : (side : Side) → are_plain (side_text side) ≡ true
plain_side Required = refl
plain_side Provided = refl

pub plain_step : (step : Step) → IsSoundStep step → are_plain (step_text step) ≡ true
unfolding step_text
plain_step step sound =
    plain_append (decimal step.place ++ side_text step.side) (decimal step.name)
    (plain_append (decimal step.place) (side_text step.side) (plain_decimal step.place (omega arith))
    (plain_side step.side)) (plain_decimal step.name (omega arith))
