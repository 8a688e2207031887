-- Bytes without spaces and line feeds, of which names, numbers and plans are made.
use Rattle.std.proofs.Common.{◌≡◌, ℕ, ◌+◌, ◌≤◌, ◌<◌, ◌^◌, ◌%◌, ◌==◌, Bool, true, false, not, ◌&&◌, nat_lt, nat_le, cond}
use Rattle.std.proofs.Common.{List, [], ◌∷◌, ◌++◌, length, Some, None, refl, arith}
use Rattle.std.proofs.lemmas.Bool.{and_parts, and_from}
use Rattle.std.proofs.lemmas.Bool.Decides.{nat_tests}
use Rattle.std.proofs.lemmas.Fmt.{decimal_by_steps}
use Rattle.std.proofs.lemmas.List.Folds.{list_all-append}
use Rattle.std.proofs.lemmas.Str.{IsUtf8-from_ascii}
use Rattle.std.proofs.lemmas.Str.Ascii.{IsAscii-nil, IsAscii-cons}
use Rattle.std.specs.Fmt.{decimal}
use Rattle.std.specs.List.{list_all}
use Rattle.std.specs.Str.{IsAscii, IsUtf8}
use Rattle.cnb_toml.specs.Names.{is_id_byte, is_reserved, is_bp_id, is_bp_version, is_image_byte, is_first_byte}
use Rattle.cnb_toml.specs.Names.{has_image_bytes, is_target_name, IsJoinedNumbers}
use Rattle.cnb_toml.proofs.Versions.{version_numbers}
use Rattle.detect_record.specs.Lines.{named}
use Rattle.detect_record.proofs.CutLemmas.{lacks}

-- a byte of ASCII above the space
abbrev pub is_plain : ℕ → Bool
is_plain byte = nat_lt 32 byte && nat_lt byte 128

abbrev pub are_plain : List ℕ → Bool
are_plain bytes = list_all is_plain bytes

pub plain_by : (test : ℕ → Bool) → ((byte : ℕ) → test byte ≡ true → is_plain byte ≡ true) → (bytes : List ℕ)
    → list_all test bytes ≡ true → are_plain bytes ≡ true
plain_by test is_so [] h = refl
plain_by test is_so (byte ∷ bytes) h =
    let parts = and_parts (test byte) (list_all test bytes) h in
    and_from _ _ (is_so byte parts.0) (plain_by test is_so bytes parts.1)

pub plain_append : (front back : List ℕ) → are_plain front ≡ true → are_plain back ≡ true
    → are_plain (front ++ back) ≡ true
plain_append front back first second = rw (list_all-append is_plain front back, first, second) refl

-- ---- what plain bytes lack

other_than : (mark byte : ℕ) → mark ≤ 32 → is_plain byte ≡ true → not (byte == mark) ≡ true
other_than mark byte low is = grind (arith, nat_tests)

pub plain_lacks : (mark : ℕ) → mark ≤ 32 → (bytes : List ℕ) → are_plain bytes ≡ true → lacks mark bytes ≡ true
plain_lacks mark low [] h = refl
plain_lacks mark low (byte ∷ bytes) h =
    let parts = and_parts (is_plain byte) (are_plain bytes) h in
    and_from _ _ (other_than mark byte low parts.0) (plain_lacks mark low bytes parts.1)

below : (byte : ℕ) → is_plain byte ≡ true → byte < 128
below byte is = grind (arith, nat_tests)

plain_ascii : (bytes : List ℕ) → are_plain bytes ≡ true → IsAscii bytes
plain_ascii [] h = IsAscii-nil
plain_ascii (byte ∷ bytes) h =
    let parts = and_parts (is_plain byte) (are_plain bytes) h in
    IsAscii-cons byte bytes (below byte parts.0) (plain_ascii bytes parts.1)

pub plain_text : (bytes : List ℕ) → are_plain bytes ≡ true → IsUtf8 bytes
plain_text bytes h = IsUtf8-from_ascii bytes (plain_ascii bytes h)

-- ---- plain texts

digit_is_plain : (n : ℕ) → n < 10 → is_plain (48 + n) ≡ true
digit_is_plain n small = grind (arith, nat_tests)

pub plain_decimal : (n : ℕ) → n < 2 ^ 64 → are_plain (decimal n) ≡ true
plain_decimal =
    decimal_by_steps (λ n digits. are_plain digits ≡ true) (λ n small. rw (digit_is_plain n small) refl)
    (λ n digits large is. plain_append digits ((48 + n % 10) ∷ []) is (rw (digit_is_plain (n % 10) (omega arith)) refl))

id_byte : (byte : ℕ) → is_id_byte byte ≡ true → is_plain byte ≡ true
id_byte byte is = grind (arith, nat_tests)

pub plain_id : (id : List ℕ) → is_bp_id id ≡ true → are_plain id ≡ true
plain_id id is =
    let front = and_parts (nat_lt 0 (length id) && nat_le (length id) 128 && list_all is_id_byte id)
    (not (is_reserved id)) is in
    let bytes = and_parts (nat_lt 0 (length id) && nat_le (length id) 128) (list_all is_id_byte id) front.0 in
    plain_by is_id_byte id_byte id bytes.1

pub plain_version : (version : List ℕ) → is_bp_version version ≡ true → are_plain version ≡ true
plain_version version is =
    let numbers : IsJoinedNumbers version = (version_numbers version).0 is in
    let (major, minor, patch, fits-major, fits-minor, fits-patch, same) = numbers in
    rw same (plain_append (decimal major) (46 ∷ (decimal minor ++ (46 ∷ decimal patch)))
    (plain_decimal major fits-major)
    (plain_append (decimal minor) (46 ∷ decimal patch) (plain_decimal minor fits-minor)
    (plain_decimal patch fits-patch)))

image_byte : (byte : ℕ) → is_image_byte byte ≡ true → is_plain byte ≡ true
image_byte byte is = grind (arith, nat_tests)

first_byte : (byte : ℕ) → is_first_byte byte ≡ true → is_plain byte ≡ true
first_byte byte is = grind (arith, nat_tests)

plain_image : (name : List ℕ) → has_image_bytes name ≡ true → are_plain name ≡ true
plain_image [] is = refl
plain_image (first ∷ rest) is =
    let parts = and_parts (is_first_byte first) (list_all is_image_byte rest) is in
    and_from _ _ (first_byte first parts.0) (plain_by is_image_byte image_byte rest parts.1)

pub plain_target : (name : List ℕ) → is_target_name name ≡ true → are_plain name ≡ true
plain_target name is = plain_image name (and_parts (nat_le (length name) 64) (has_image_bytes name) is).1

-- ---- what isn't text is no name

none_if : (test : Bool) (text : List ℕ) → (test ≡ true → ⊥) → cond test (Some text) None ≡ None
none_if true text h = absurd (h refl)
none_if false text h = refl

pub no_id : (text : List ℕ) → (IsUtf8 text → ⊥) → named is_bp_id text ≡ None
no_id text h = none_if (is_bp_id text) text (λ is. h (plain_text text (plain_id text is)))

pub no_version : (text : List ℕ) → (IsUtf8 text → ⊥) → named is_bp_version text ≡ None
no_version text h = none_if (is_bp_version text) text (λ is. h (plain_text text (plain_version text is)))

pub no_target_name : (text : List ℕ) → (IsUtf8 text → ⊥) → named is_target_name text ≡ None
no_target_name text h = none_if (is_target_name text) text (λ is. h (plain_text text (plain_target text is)))
