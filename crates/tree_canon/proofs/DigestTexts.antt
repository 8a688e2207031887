-- A text of lower case digits is read, and is the text of what is read.
use Rattle.std.proofs.Common.{◌≡◌, ℕ, zero, suc, ◌+◌, ◌*◌, ◌/◌, ◌%◌, ◌<◌, ◌==◌, Bool, true, false, ◌&&◌, ◌||◌, inl, inr}
use Rattle.std.proofs.Common.{List, [], ◌∷◌, length, slice_index, Option, Some, None, unwrap_or, Ok, refl, sym, ap}
use Rattle.std.proofs.Common.{subst, ◌∙◌, arith}
use Rattle.std.specs.Prelude.{nat_lt, not}
use Rattle.std.specs.List.{list_all}
use Rattle.std.proofs.lemmas.Bool.{and_parts, and_from, cases_lt, eqb-true, ltb-true}
use Rattle.hex.specs.Hex.{decode_pairs, decode_sized, digit_or_error, hex_digit_value, encode_lower, encode_with}
use Rattle.hex.specs.Hex.{lower_digits, pair_value, value_at}
use Rattle.hex.proofs.Pairs.{cons_byte, decode_pairs-ok_pair, decode_sized-pairs}
use Rattle.tree_canon.specs.Digest.{is_lower_digit, is_digest_text}

abbrev value_of : ℕ → ℕ
value_of c = unwrap_or (hex_digit_value c) 99

-- the test of one character, which computes
abbrev reads_back : ℕ → Bool
reads_back c = not (is_lower_digit c) || (nat_lt (value_of c) 16 && (slice_index lower_digits (value_of c) == c))

abbrev all_read_back : ℕ → Bool
all_read_back zero = true
all_read_back (suc n) = reads_back n && all_read_back n

at_char : (n k : ℕ) → all_read_back n ≡ true → k < n → reads_back k ≡ true
at_char zero k h lt = absurd (omega arith)
at_char (suc n) k h lt =
    let parts = and_parts (reads_back n) (all_read_back n) h in
    elim (cases_lt k n) [
      | inl below ↦ at_char n k parts.1 below
      | inr top ↦ let e : n ≡ k = omega arith in subst (λ x. reads_back x ≡ true) e parts.0
    ]

or_digit : (a b : Bool) → (not a || b) ≡ true → a ≡ true → b ≡ true
or_digit true b h e = h
or_digit false b h e = absurd cc

-- a digit's character is below 128
small : (c : ℕ) → is_lower_digit c ≡ true → c < 128
small c h = grind (arith)

some_value : (o : Option ℕ) → unwrap_or o 99 < 16 → o ≡ Some (unwrap_or o 99)
some_value (Some v) lt = refl
some_value None lt = absurd (omega arith)

-- a digit reads as a value, whose digit it is
pub digit : (c : ℕ) → is_lower_digit c ≡ true → (v : ℕ) × (v < 16) × (hex_digit_value c ≡ Some v)
    × (slice_index lower_digits v ≡ c)
digit c h =
    let test = or_digit (is_lower_digit c) (nat_lt (value_of c) 16
    && (slice_index lower_digits (value_of c) == c)) (at_char 128 c refl (small c h)) h in
    let parts = and_parts (nat_lt (value_of c) 16) (slice_index lower_digits (value_of c) == c) test in
    let lt : value_of c < 16 = ltb-true (value_of c) 16 parts.0 in
    (value_of c, lt, some_value (hex_digit_value c) lt, eqb-true (slice_index lower_digits (value_of c)) c parts.1)

pub lower_read : (i : ℕ) (text : List ℕ) → length text % 2 ≡ 0 → list_all is_lower_digit text ≡ true
    → (bytes : List ℕ) × (decode_pairs i text ≡ Ok bytes) × (encode_lower bytes ≡ text)
unfolding decode_pairs encode_with
lower_read i [] even h = ([], refl, refl)
lower_read i (a ∷ []) even h = absurd (omega arith)
lower_read i (a ∷ b ∷ rest) even h =
    let front = and_parts (is_lower_digit a) (list_all is_lower_digit (b ∷ rest)) h in
    let back = and_parts (is_lower_digit b) (list_all is_lower_digit rest) front.1 in
    let da = digit a front.0 in
    let db = digit b back.0 in
    let ha : value_at a i ≡ Ok da.0 = ap (digit_or_error a i) da.2 in
    let hb : value_at b (i + 1) ≡ Ok db.0 = ap (digit_or_error b (i + 1)) db.2 in
    let pair : pair_value a b i ≡ Ok (da.0 * 16 + db.0) = rw (ha, hb) refl in
    let ih = lower_read (i + 2) rest (omega arith) back.1 in
    let small_a : da.0 < 16 = da.1 in
    let small_b : db.0 < 16 = db.1 in
    let high : (da.0 * 16 + db.0) / 16 ≡ da.0 = omega arith in
    let low : (da.0 * 16 + db.0) % 16 ≡ db.0 = omega arith in
    let first : slice_index lower_digits ((da.0 * 16 + db.0) / 16) ≡ a = ap (slice_index lower_digits) high ∙ da.3 in
    let second : slice_index lower_digits ((da.0 * 16 + db.0) % 16) ≡ b = ap (slice_index lower_digits) low ∙ db.3 in (
      (da.0 * 16 + db.0) ∷ ih.0,
      decode_pairs-ok_pair i a b (da.0 * 16 + db.0) rest pair ∙ ap (cons_byte (da.0 * 16 + db.0)) ih.1,
      ap (λ x. x ∷ slice_index lower_digits ((da.0 * 16 + db.0) % 16) ∷ encode_lower ih.0) first
          ∙ ap (λ x. a ∷ x ∷ encode_lower ih.0) second ∙ ap (λ x. a ∷ b ∷ x) ih.2,
    )

-- a text of 64 lower case digits is read, and is the text of what is read
pub digest_read : (text : List ℕ) → is_digest_text text ≡ true → (bytes : List ℕ)
    × (decode_sized text 32 ≡ Ok bytes) × (text ≡ encode_lower bytes)
digest_read text h =
    let parts = and_parts (length text == 64) (list_all is_lower_digit text) h in
    let size : length text ≡ 64 = eqb-true (length text) 64 parts.0 in
    let r = lower_read 0 text (omega arith) parts.1 in
    (r.0, decode_sized-pairs text 32 (omega arith) (omega arith) ∙ r.1, sym r.2)

-- ---- the text of bytes

abbrev all_digits : ℕ → Bool
all_digits zero = true
all_digits (suc n) = is_lower_digit (slice_index lower_digits n) && all_digits n

at_value : (n k : ℕ) → all_digits n ≡ true → k < n → is_lower_digit (slice_index lower_digits k) ≡ true
at_value zero k h lt = absurd (omega arith)
at_value (suc n) k h lt =
    let parts = and_parts (is_lower_digit (slice_index lower_digits n)) (all_digits n) h in
    elim (cases_lt k n) [
      | inl below ↦ at_value n k parts.1 below
      | inr top ↦ let e : n ≡ k = omega arith in subst (λ x. is_lower_digit (slice_index lower_digits x) ≡ true) e
          parts.0
    ]

pub lower_digits_all : (bytes : List ℕ) → ((i : ℕ) → slice_index bytes i < 256)
    → list_all is_lower_digit (encode_lower bytes) ≡ true
unfolding encode_with
lower_digits_all [] fit = refl
lower_digits_all (b ∷ bs) fit =
    let few : b < 256 = fit 0 in
    and_from _ _ (at_value 16 (b / 16) refl (omega arith))
    (and_from _ _ (at_value 16 (b % 16) refl (omega arith)) (lower_digits_all bs (λ i. fit (suc i))))

lower_length : (bytes : List ℕ) → length (encode_lower bytes) ≡ 2 * length bytes
unfolding encode_with
lower_length [] = refl
lower_length (b ∷ bs) = let rest : length (encode_lower bs) ≡ 2 * length bs = lower_length bs in omega arith

-- 32 bytes are written with 64 digits
pub lower_text : (bytes : List ℕ) → length bytes ≡ 32 → ((i : ℕ) → slice_index bytes i < 256)
    → is_digest_text (encode_lower bytes) ≡ true
lower_text bytes size fit = and_from _ _ (ap (λ n. n == 64)
    (let e : length (encode_lower bytes) ≡ 64 = omega (arith, lower_length bytes) in e))
    (lower_digits_all bytes fit)
