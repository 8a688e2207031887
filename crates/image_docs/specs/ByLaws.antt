-- What made a row reads back, and the texts that are made of names and places can be read.
use Rattle.std.proofs.Common.{◌≡◌, ◌∙◌, refl, sym, ap, ap₂, ℕ, ◌+◌, ◌/◌, ◌%◌, nat_le, nat_lt, Bool, true, false, cond}
use Rattle.std.proofs.Common.{List, [], ◌∷◌, ◌++◌, map, arith, append_assoc, Ok, codes}
use lib.Utf8.{encode}
use Rattle.std.specs.List.{list_all}
use Rattle.std.proofs.lemmas.Bool.{and_from, and_parts, cond-true, false≢true}
use Rattle.std.proofs.lemmas.Bool.Decides.{nat_tests}
use Rattle.std.proofs.lemmas.List.{map-append}
use Rattle.std.proofs.lemmas.List.Folds.{list_all-append}
use Rattle.toml.specs.Data.{string}
use Rattle.cnb_toml.specs.Names.{has_image_bytes, is_first_byte, is_image_byte, is_image_name}
use Rattle.image_docs.specs.By.{by_of, is_by, is_plain, is_plain_byte, plain, plain_byte, run_by}

pub by_read : (text : List ℕ) → is_by text ≡ true → by_of (string text) ≡ Ok text
by_read text sound = cond-true (is_by text) _ _ sound

-- ---- texts without control bytes

pub joined_plain : (text more : List ℕ) → is_plain text ≡ true → is_plain more ≡ true → is_plain (text ++ more) ≡ true
joined_plain text more h k = list_all-append is_plain_byte text more ∙ and_from (is_plain text) (is_plain more) h k

made_plain : (byte : ℕ) → is_plain_byte (plain_byte byte) ≡ true
made_plain byte = by (nat_lt byte 32) refl
  where
    by : (control : Bool) → nat_lt byte 32 ≡ control → is_plain_byte (plain_byte byte) ≡ true
    by true e = rw e refl
    by false e = rw e (grind (arith, nat_tests))

pub plain_is_plain : (text : List ℕ) → is_plain (plain text) ≡ true
plain_is_plain [] = refl
plain_is_plain (byte ∷ text) = and_from (is_plain_byte (plain_byte byte)) (is_plain (plain text))
    (made_plain byte) (plain_is_plain text)

-- ---- names of images have none

image_byte_plain : (byte : ℕ) → is_image_byte byte ≡ true → is_plain_byte byte ≡ true
image_byte_plain byte is = grind (arith, nat_tests)

first_byte_plain : (byte : ℕ) → is_first_byte byte ≡ true → is_plain_byte byte ≡ true
first_byte_plain byte is = grind (arith, nat_tests)

image_bytes_plain : (name : List ℕ) → list_all is_image_byte name ≡ true → is_plain name ≡ true
image_bytes_plain [] is = refl
image_bytes_plain (byte ∷ name) is =
    let (first, rest) = and_parts (is_image_byte byte) (list_all is_image_byte name) is in
    and_from (is_plain_byte byte) (is_plain name) (image_byte_plain byte first) (image_bytes_plain name rest)

image_name_plain : (name : List ℕ) → is_image_name name ≡ true → is_plain name ≡ true
image_name_plain [] is = refl
image_name_plain (byte ∷ name) is =
    let (few, bytes) = and_parts (nat_le _ 128) (has_image_bytes (byte ∷ name)) is in
    let (first, rest) = and_parts (is_first_byte byte) (list_all is_image_byte name) bytes in
    and_from (is_plain_byte byte) (is_plain name) (first_byte_plain byte first) (image_bytes_plain name rest)

-- what made the rows of a run image
pub run_by_read : (name : List ℕ) → is_image_name name ≡ true → is_by (run_by name) ≡ true
run_by_read name is = joined_plain (codes "run ") name refl (image_name_plain name is)

-- ---- texts made plain, character by character

above : (n : ℕ) → plain_byte (128 + n) ≡ 128 + n
above n = grind (arith, nat_tests)

lead : (k n : ℕ) → plain_byte (128 + k + n) ≡ 128 + k + n
lead k n = grind (arith, nat_tests)

-- a character of more bytes than one
wide : (c : ℕ) (two three : Bool)
    → map plain_byte (cond two ((192 + c / 64) ∷ (128 + c % 64) ∷ [])
    (cond three ((224 + c / 4096) ∷ (128 + (c / 64) % 64) ∷ (128 + c % 64) ∷ [])
    ((240 + c / 262144) ∷ (128 + (c / 4096) % 64) ∷ (128 + (c / 64) % 64) ∷ (128 + c % 64) ∷ [])))
    ≡ cond two ((192 + c / 64) ∷ (128 + c % 64) ∷ [])
    (cond three ((224 + c / 4096) ∷ (128 + (c / 64) % 64) ∷ (128 + c % 64) ∷ [])
    ((240 + c / 262144) ∷ (128 + (c / 4096) % 64) ∷ (128 + (c / 64) % 64) ∷ (128 + c % 64) ∷ []))
wide c true three = ap₂ ◌∷◌ (lead 64 (c / 64)) (ap₂ ◌∷◌ (above (c % 64)) refl)
wide c false true = ap₂ ◌∷◌ (lead 96 (c / 4096)) (ap₂ ◌∷◌ (above ((c / 64) % 64)) (ap₂ ◌∷◌ (above (c % 64)) refl))
wide c false false = ap₂ ◌∷◌ (lead 112 (c / 262144))
    (ap₂ ◌∷◌ (above ((c / 4096) % 64)) (ap₂ ◌∷◌ (above ((c / 64) % 64)) (ap₂ ◌∷◌ (above (c % 64)) refl)))

-- the character `?` for each below 32
plain_char : (c : ℕ) → map plain_byte (encode c) ≡ encode (plain_byte c)
unfolding encode
plain_char c = by (nat_lt c 32) (nat_lt c 128) refl refl
  where
    by : (control ascii : Bool) → nat_lt c 32 ≡ control → nat_lt c 128 ≡ ascii
        → map plain_byte (encode c) ≡ encode (plain_byte c)
    by true true e f = rw (f, e) refl
    by true false e f = absurd (false≢true (grind (arith, nat_tests)))
    by false true e f = rw (f, e, f) refl
    by false false e f = rw (f, e, f) (wide c (nat_lt c 2048) (nat_lt c 65536))

-- one more character
pub plain_more : (made made' rest rest' text : List ℕ) (c : ℕ) → rest ≡ encode c ++ rest'
    → made' ≡ made ++ encode (plain_byte c) → made ++ plain rest ≡ text → made' ++ plain rest' ≡ text
plain_more made made' rest rest' text c e f h =
    ap (λ m. m ++ plain rest') f ∙ append_assoc made (encode (plain_byte c)) (plain rest')
    ∙ ap (λ t. made ++ t) (ap (λ t. t ++ plain rest') (sym (plain_char c))
    ∙ sym (map-append plain_byte (encode c) rest') ∙ sym (ap plain e)) ∙ h
