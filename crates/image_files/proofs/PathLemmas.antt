-- Names of documents are parts of paths, and the paths of documents are paths.
use Rattle.std.proofs.Common.{◌≡◌, ◌∙◌, refl, ℕ, ◌+◌, ◌<◌, ◌≤◌, ◌==◌, nat_lt, nat_le, true, false, not, IsTrue, List}
use Rattle.std.proofs.Common.{[], ◌∷◌, length, codes, arith, length-append}
use Rattle.std.specs.Prelude.{◌&&◌}
use Rattle.std.specs.List.{list_all}
use Rattle.std.specs.Str.{bytes_eq}
use Rattle.std.proofs.lemmas.Bool.{and_parts, leb-true}
use Rattle.std.proofs.lemmas.Bool.Decides.{nat_tests}
use Rattle.std.proofs.lemmas.List.Folds.{list_all-append}
use Rattle.cnb_world.specs.Path.{beside, is_part, is_part_byte}
use Rattle.cnb_toml.specs.Names.{has_image_bytes, is_first_byte, is_image_byte, is_image_name}
use Rattle.image_files.specs.Paths.{document_name}

part_bytes : (name : List ℕ) → IsTrue (is_part name) → list_all is_part_byte name ≡ true
part_bytes name h =
    (and_parts (nat_lt 0 (length name) && nat_le (length name) 255 && not (bytes_eq name (46 ∷ []))
    && not (bytes_eq name (46 ∷ 46 ∷ []))) (list_all is_part_byte name) h).1

not_dot : (text : List ℕ) → 2 < length text → bytes_eq text (46 ∷ []) ≡ false
not_dot [] long = absurd (omega arith)
not_dot (a ∷ []) long = absurd (omega arith)
not_dot (a ∷ b ∷ []) long = absurd (omega arith)
not_dot (a ∷ b ∷ c ∷ text) long = grind (arith, nat_tests)

not_dots : (text : List ℕ) → 2 < length text → bytes_eq text (46 ∷ 46 ∷ []) ≡ false
not_dots [] long = absurd (omega arith)
not_dots (a ∷ []) long = absurd (omega arith)
not_dots (a ∷ b ∷ []) long = absurd (omega arith)
not_dots (a ∷ b ∷ c ∷ text) long = grind (arith, nat_tests)

long_part : (text : List ℕ) → 2 < length text → length text ≤ 255 → list_all is_part_byte text ≡ true
    → IsTrue (is_part text)
long_part text long short bytes =
    let some : nat_lt 0 (length text) ≡ true = grind (arith, nat_tests) in
    let few : nat_le (length text) 255 ≡ true = grind (arith, nat_tests) in
    rw (some, few, not_dot text long, not_dots text long, bytes) refl

pub document_length : (name : List ℕ) → length (document_name name) ≡ length name + 5
document_length name = length-append name (codes ".toml")

document_bytes : (name : List ℕ) → IsTrue (is_part name) → list_all is_part_byte (document_name name) ≡ true
document_bytes name part = rw (list_all-append is_part_byte name (codes ".toml"), part_bytes name part) refl

pub document_name_is_part : (name : List ℕ) → IsTrue (is_part name) → length name ≤ 200
    → IsTrue (is_part (document_name name))
document_name_is_part name part short =
    let size = document_length name in
    long_part (document_name name) (omega (arith, size)) (omega (arith, size)) (document_bytes name part)

pub document_beside_is_part : (name : List ℕ) → IsTrue (is_part name) → length name ≤ 200
    → IsTrue (is_part (beside (document_name name)))
document_beside_is_part name part short =
    let size = document_length name in
    let all : length (beside (document_name name)) ≡ length name + 9 = length-append (document_name name)
    (46 ∷ 110 ∷ 101 ∷ 119 ∷ []) ∙ omega (arith, size) in
    long_part (beside (document_name name)) (omega (arith, all)) (omega (arith, all))
    (rw (
      list_all-append is_part_byte (document_name name) (46 ∷ 110 ∷ 101 ∷ 119 ∷ []),
      document_bytes name
          part,
    ) refl)

image_byte_is_part : (b : ℕ) → is_image_byte b ≡ true → is_part_byte b ≡ true
image_byte_is_part b is = grind (arith, nat_tests)

first_byte_is_part : (b : ℕ) → is_first_byte b ≡ true → is_part_byte b ≡ true
first_byte_is_part b is = grind (arith, nat_tests)

first_byte_is_no_dot : (b : ℕ) → is_first_byte b ≡ true → (b == 46) ≡ false
first_byte_is_no_dot b is = grind (arith, nat_tests)

image_bytes : (name : List ℕ) → list_all is_image_byte name ≡ true → list_all is_part_byte name ≡ true
image_bytes [] is = refl
image_bytes (b ∷ name) is =
    let (first, rest) = and_parts (is_image_byte b) (list_all is_image_byte name) is in
    rw (image_byte_is_part b first, image_bytes name rest) refl

-- an image's name is a part of a path
pub record FitsPart (name : List ℕ) : Type 0 where
  pub part : IsTrue (is_part name)
  pub short : length name ≤ 128

pub image_name_fits : (name : List ℕ) → IsTrue (is_image_name name) → FitsPart name
image_name_fits [] is = let no : false ≡ true = (and_parts (nat_le 0 128) false is).1 in absurd (cc)
image_name_fits (b ∷ name) is =
    let (few, bytes) = and_parts (nat_le (length (b ∷ name)) 128) (has_image_bytes (b ∷ name)) is in
    let (first, rest) = and_parts (is_first_byte b) (list_all is_image_byte name) bytes in
    let short : length (b ∷ name) ≤ 128 = leb-true (length (b ∷ name)) 128 few in
    let some : nat_lt 0 (length (b ∷ name)) ≡ true = grind (arith, nat_tests) in
    let within : nat_le (length (b ∷ name)) 255 ≡ true = grind (arith, nat_tests) in
    record {
      part = rw (
        some,
        within,
        first_byte_is_no_dot b first,
        first_byte_is_part b first,
        image_bytes name
            rest,
      ) refl;
      short = short;
    }
