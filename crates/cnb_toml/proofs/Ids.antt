-- The folders of ids.
use Rattle.std.proofs.Common.{◌≡◌, ℕ, ◌==◌, nat_lt, nat_le, Bool, true, false, not, ◌||◌, IsTrue, List, [], ◌∷◌, length}
use Rattle.std.proofs.Common.{codes, refl, arith}
use Rattle.std.proofs.lemmas.Bool.{and_parts}
use Rattle.std.proofs.lemmas.Bool.Decides.{nat_tests}
use Rattle.std.proofs.lemmas.List.{length-map}
use Rattle.std.specs.List.{list_all}
use Rattle.std.specs.Str.{bytes_eq}
use Rattle.cnb_world.specs.Path.{is_part, is_part_byte}
use Rattle.cnb_toml.specs.Names.{is_id_byte, is_reserved, is_bp_id, folder_byte, folder_of}

byte_is_part : (b : ℕ) → is_id_byte b ≡ true → is_part_byte (folder_byte b) ≡ true
byte_is_part b is = grind (arith, nat_tests)

byte_is_dot : (b : ℕ) → (folder_byte b == 46) ≡ (b == 46)
byte_is_dot b = grind (arith, nat_tests)

same_byte : (a b : ℕ) → is_id_byte a ≡ true → is_id_byte b ≡ true → folder_byte a ≡ folder_byte b → a ≡ b
same_byte a b is-a is-b same = grind (arith, nat_tests)

have_part_bytes : (id : List ℕ) → list_all is_id_byte id ≡ true → list_all is_part_byte (folder_of id) ≡ true
have_part_bytes [] is = refl
have_part_bytes (b ∷ id) is =
    let (first, rest) = and_parts (is_id_byte b) (list_all is_id_byte id) is in
    rw (byte_is_part b first, have_part_bytes id rest) refl

is_dot : (id : List ℕ) → bytes_eq (folder_of id) (46 ∷ []) ≡ bytes_eq id (46 ∷ [])
is_dot [] = refl
is_dot (b ∷ []) = rw byte_is_dot refl
is_dot (b ∷ c ∷ id) = rw byte_is_dot refl

is_dots : (id : List ℕ) → bytes_eq (folder_of id) (46 ∷ 46 ∷ []) ≡ bytes_eq id (46 ∷ 46 ∷ [])
is_dots [] = refl
is_dots (b ∷ []) = rw byte_is_dot refl
is_dots (b ∷ c ∷ []) = simp byte_is_dot
is_dots (b ∷ c ∷ d ∷ id) = simp byte_is_dot

not_dots : (a b c d : Bool) → not (a || b || c || d) ≡ true → (c ≡ false) × (d ≡ false)
not_dots a b c d is = grind arith

-- the folder of an id is fit to be a part of a path
pub folder_is_part : (id : List ℕ) → IsTrue (is_bp_id id) → IsTrue (is_part (folder_of id))
folder_is_part id is =
    let (most, named) = and_parts _ (not (is_reserved id)) is in
    let (sized, bytes) = and_parts _ (list_all is_id_byte id) most in
    let (some, few) = and_parts (nat_lt 0 (length id)) (nat_le (length id) 128) sized in
    let (dot, dots) = not_dots (bytes_eq id (codes "app")) (bytes_eq id (codes "config")) (bytes_eq id (46 ∷ []))
    (bytes_eq id (46 ∷ 46 ∷ [])) named in
    let same : length (folder_of id) ≡ length id = length-map id folder_byte in
    let within : nat_le (length id) 255 ≡ true = grind (arith, nat_tests) in
    rw (same, some, within, is_dot id, dot, is_dots id, dots, have_part_bytes id bytes) refl

same_bytes : (a b : List ℕ) → list_all is_id_byte a ≡ true → list_all is_id_byte b ≡ true
    → folder_of a ≡ folder_of b → a ≡ b
same_bytes [] [] is-a is-b same = refl
same_bytes [] (y ∷ b) is-a is-b same = cc
same_bytes (x ∷ a) [] is-a is-b same = cc
same_bytes (x ∷ a) (y ∷ b) is-a is-b same =
    let (first-a, rest-a) = and_parts (is_id_byte x) (list_all is_id_byte a) is-a in
    let (first-b, rest-b) = and_parts (is_id_byte y) (list_all is_id_byte b) is-b in
    let first : folder_byte x ≡ folder_byte y = cc in
    let rest : folder_of a ≡ folder_of b = cc in
    rw (same_byte x y first-a first-b first, same_bytes a b rest-a rest-b rest) refl

-- distinct ids have distinct folders
pub folder_distinct : (id other : List ℕ) → IsTrue (is_bp_id id) → IsTrue (is_bp_id other)
    → folder_of other ≡ folder_of id → other ≡ id
folder_distinct id other is is-other same =
    let bytes = (and_parts _ (list_all is_id_byte id) (and_parts _ (not (is_reserved id)) is).0).1 in
    let bytes-other = (and_parts _ (list_all is_id_byte other) (and_parts _ (not (is_reserved other)) is-other).0).1 in
    same_bytes other id bytes-other bytes same
