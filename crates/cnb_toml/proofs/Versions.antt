-- Versions are three numbers joined by dots, and fit to be parts of paths.
use Rattle.std.proofs.Common.{◌≡◌, ◌↔◌, ℕ, ◌+◌, ◌<◌, ◌≤◌, ◌^◌, ◌%◌, ◌==◌, nat_lt, nat_le, true, false, IsTrue, List, []}
use Rattle.std.proofs.Common.{◌∷◌, ◌++◌, length, refl, sym, ap, ◌∙◌, arith, Result, Ok, Err, length-append, append-nil}
use Rattle.std.proofs.lemmas.Bool.{and_parts}
use Rattle.std.proofs.lemmas.Bool.Decides.{nat_tests}
use Rattle.std.proofs.lemmas.Fmt.{decimal_by_steps, decimal_nonempty, length-decimal-le}
use Rattle.std.proofs.lemmas.List.Folds.{list_all-append}
use Rattle.std.specs.Fmt.{decimal}
use Rattle.std.specs.List.{list_all}
use Rattle.std.specs.Str.{bytes_eq}
use Rattle.cnb_world.specs.Path.{is_part, is_part_byte}
use Rattle.semver.specs.Parse.{Parts, version_parts}
use Rattle.semver.specs.Grammar.{IsValid}
use Rattle.semver.specs.Identifiers.{parts_text}
use Rattle.semver.specs.declared.error.Error.{Error}
use Rattle.semver.proofs.Grammar.{version_parts-sound, version_parts-complete}
use Rattle.cnb_toml.specs.Names.{is_release, is_bp_version, joined_numbers, IsJoinedNumbers}

digit_is_part : (n : ℕ) → n < 10 → is_part_byte (48 + n) ≡ true
digit_is_part n small = grind (arith, nat_tests)

decimal_has_part_bytes : (n : ℕ) → n < 2 ^ 64 → list_all is_part_byte (decimal n) ≡ true
decimal_has_part_bytes =
    decimal_by_steps (λ n digits. list_all is_part_byte digits ≡ true) (λ n small. rw (digit_is_part n small) refl)
    (λ n digits large is. rw (
      list_all-append is_part_byte digits ((48 + n % 10) ∷ []),
      is,
      digit_is_part (n % 10)
          (omega arith),
    ) refl)

not_dot : (text : List ℕ) → 2 < length text → bytes_eq text (46 ∷ []) ≡ false
not_dot [] long = absurd (omega arith)
not_dot (a ∷ []) long = absurd (omega arith)
not_dot (a ∷ b ∷ []) long = absurd (omega arith)
not_dot (a ∷ b ∷ c ∷ text) long = grind (arith, nat_tests)

not_dots : (text : List ℕ) → 2 < length text → bytes_eq text (46 ∷ 46 ∷ []) ≡ false
not_dots [] long = absurd (omega arith)
not_dots (a ∷ []) long = absurd (omega arith)
not_dots (a ∷ b ∷ []) long = absurd (omega arith)
not_dots (a ∷ b ∷ c ∷ text) long = grind (arith, nat_tests)

part_of : (text : List ℕ) → 2 < length text → length text ≤ 255 → list_all is_part_byte text ≡ true
    → IsTrue (is_part text)
part_of text long short bytes =
    let some : nat_lt 0 (length text) ≡ true = grind (arith, nat_tests) in
    let few : nat_le (length text) 255 ≡ true = grind (arith, nat_tests) in
    rw (some, few, not_dot text long, not_dots text long, bytes) refl

numbers_length : (a b c : ℕ) → length (joined_numbers a b c)
    ≡ length (decimal a) + length (decimal b) + length (decimal c) + 2
numbers_length a b c = omega (
  arith,
  length-append (decimal a)
      (46 ∷ (decimal b ++ (46 ∷ decimal c))),
  length-append (decimal b) (46 ∷ decimal c),
)

numbers_bytes : (a b c : ℕ) → a < 2 ^ 64 → b < 2 ^ 64 → c < 2 ^ 64 → list_all is_part_byte (joined_numbers a b c) ≡ true
numbers_bytes a b c fits-a fits-b fits-c =
    rw (
      list_all-append is_part_byte (decimal a) (46 ∷ (decimal b ++ (46 ∷ decimal c))),
      decimal_has_part_bytes a
          fits-a,
      list_all-append is_part_byte (decimal b) (46 ∷ decimal c),
      decimal_has_part_bytes b fits-b,
      decimal_has_part_bytes c fits-c,
    ) refl

numbers_are_part : (a b c : ℕ) → a < 2 ^ 64 → b < 2 ^ 64 → c < 2 ^ 64 → IsTrue (is_part (joined_numbers a b c))
numbers_are_part a b c fits-a fits-b fits-c =
    let most-a = length-decimal-le 20 a (omega arith) (omega arith) fits-a in
    let most-b = length-decimal-le 20 b (omega arith) (omega arith) fits-b in
    let most-c = length-decimal-le 20 c (omega arith) (omega arith) fits-c in
    let some-a = decimal_nonempty a fits-a in
    let some-b = decimal_nonempty b fits-b in
    let same = numbers_length a b c in
    part_of (joined_numbers a b c) (omega arith) (omega arith) (numbers_bytes a b c fits-a fits-b fits-c)

none_left : (text : List ℕ) → (length text == 0) ≡ true → text ≡ []
none_left [] none = refl
none_left (b ∷ text) none = absurd (grind (arith, nat_tests))

-- what a release's parts are as text
release_text : (parts : Parts) → IsTrue (is_release (Ok parts))
    → joined_numbers parts.0 parts.1 parts.2 ≡ parts_text parts
release_text parts is =
    let (pre, build) = and_parts (length parts.3 == 0) (length parts.4 == 0) is in
    rw (none_left parts.3 pre, none_left parts.4 build, append-nil) refl

numbers_of : (text : List ℕ) (read : Result Parts Error) → version_parts text ≡ read → IsTrue (is_release read)
    → IsJoinedNumbers text
numbers_of text (Ok parts) same is =
    let (whole, valid) = version_parts-sound text parts same in
    (parts.0, parts.1, parts.2, valid.0, valid.1, valid.2, sym (release_text parts is ∙ whole))
numbers_of text (Err error) same is = absurd (cc is)

numbers_read : (text : List ℕ) → IsJoinedNumbers text → IsTrue (is_bp_version text)
numbers_read text (major, minor, patch, fits-major, fits-minor, fits-patch, same) =
    let parts : Parts = (major, minor, patch, [], []) in
    ap (λ all. is_release (version_parts all)) (same ∙ release_text parts refl)
    ∙ ap is_release (version_parts-complete parts (fits-major, fits-minor, fits-patch, refl, refl))

-- a version is exactly three numbers joined by dots
pub version_numbers : (text : List ℕ) → IsTrue (is_bp_version text) ↔ IsJoinedNumbers text
version_numbers text = (λ is. numbers_of text (version_parts text) refl is, numbers_read text)

release_is_part : (text : List ℕ) (parts : Parts) → (parts_text parts ≡ text) × IsValid parts
    → IsTrue (is_release (Ok parts)) → IsTrue (is_part text)
release_is_part text parts (same, valid) is =
    rw (← same, ← release_text parts is) (numbers_are_part parts.0 parts.1 parts.2 valid.0 valid.1 valid.2)

read_is_part : (text : List ℕ) (read : Result Parts Error) → version_parts text ≡ read → IsTrue (is_release read)
    → IsTrue (is_part text)
read_is_part text (Ok parts) same is = release_is_part text parts (version_parts-sound text parts same) is
read_is_part text (Err error) same is = absurd (cc is)

-- a version is fit to be a part of a path
pub version_is_part : (text : List ℕ) → IsTrue (is_bp_version text) → IsTrue (is_part text)
version_is_part text is = read_is_part text (version_parts text) refl is
