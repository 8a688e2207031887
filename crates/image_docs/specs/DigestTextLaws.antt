-- A digest reads back.
use Rattle.std.proofs.Common.{◌≡◌, ℕ, zero, suc, ◌/◌, ◌%◌, ◌<◌, ◌==◌, nat_lt, Bool, true, List, [], ◌∷◌, length}
use Rattle.std.proofs.Common.{slice_index, Ok, refl, ap, ◌∙◌, arith}
use Rattle.std.specs.List.{list_all}
use Rattle.std.proofs.lemmas.Bool.{and_parts, and_from, cond-true, ltb-true, eqb-true, eq-eqb}
use Rattle.hex.specs.Hex.{IsBytes, encode_with, encode_lower, lower_digits}
use Rattle.hex.proofs.HexLemmas.{length-encode_with, decode_of-encode_lower}
use Rattle.tree_canon.specs.Digest.{is_lower_digit, is_digest_text}
use Rattle.image_docs.specs.DigestText.{decoded, digest_of, is_digest, digest_data}

all_at : (test : ℕ → Bool) (xs : List ℕ) (k : ℕ) → list_all test xs ≡ true → k < length xs
    → test (slice_index xs k) ≡ true
all_at test [] k h inside = absurd (omega arith)
all_at test (x ∷ xs) zero h inside = (and_parts (test x) (list_all test xs) h).0
all_at test (x ∷ xs) (suc k) h inside = all_at test xs k (and_parts (test x) (list_all test xs) h).1 (omega arith)

is_bytes : (xs : List ℕ) → list_all (λ byte. nat_lt byte 256) xs ≡ true → IsBytes xs
is_bytes [] h i = omega arith
is_bytes (x ∷ xs) h zero = ltb-true x 256 (and_parts (nat_lt x 256) (list_all (λ byte. nat_lt byte 256) xs) h).0
is_bytes (x ∷ xs) h (suc i) = is_bytes xs (and_parts (nat_lt x 256) (list_all (λ byte. nat_lt byte 256) xs) h).1 i

lower_digit : (k : ℕ) → k < 16 → is_lower_digit (slice_index lower_digits k) ≡ true
lower_digit k small = all_at is_lower_digit lower_digits k refl small

has_lower_digits : (xs : List ℕ) → list_all (λ byte. nat_lt byte 256) xs ≡ true
    → list_all is_lower_digit (encode_with lower_digits xs) ≡ true
unfolding encode_with
has_lower_digits [] h = refl
has_lower_digits (x ∷ xs) h =
    let parts = and_parts (nat_lt x 256) (list_all (λ byte. nat_lt byte 256) xs) h in
    let fits : x < 256 = ltb-true x 256 parts.0 in
    and_from _ _ (lower_digit (x / 16) (omega arith))
    (and_from _ _ (lower_digit (x % 16) (omega arith)) (has_lower_digits xs parts.1))

is_text : (bytes : List ℕ) → is_digest bytes ≡ true → is_digest_text (encode_lower bytes) ≡ true
is_text bytes sound =
    let parts = and_parts (length bytes == 32) (list_all (λ byte. nat_lt byte 256) bytes) sound in
    let sized : length bytes ≡ 32 = eqb-true (length bytes) 32 parts.0 in
    and_from _ _ (eq-eqb (length (encode_lower bytes)) 64
    (omega (arith, length-encode_with lower_digits bytes, sized))) (has_lower_digits bytes parts.1)

pub digest_read : (bytes : List ℕ) → is_digest bytes ≡ true → digest_of (digest_data bytes) ≡ Ok bytes
digest_read bytes sound =
    let parts = and_parts (length bytes == 32) (list_all (λ byte. nat_lt byte 256) bytes) sound in
    cond-true _ _ _ (is_text bytes sound) ∙ ap decoded (decode_of-encode_lower bytes (is_bytes bytes parts.1))
