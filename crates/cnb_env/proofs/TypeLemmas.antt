-- A process type is fit to be a part of a path.
use Rattle.std.proofs.Common.{◌≡◌, ℕ, nat_le, true, not, IsTrue, List, [], ◌∷◌, length, codes, refl, arith}
use Rattle.std.proofs.lemmas.Bool.{and_parts}
use Rattle.std.proofs.lemmas.Bool.Decides.{nat_tests}
use Rattle.std.specs.Prelude.{nat_lt}
use Rattle.std.specs.List.{list_all}
use Rattle.std.specs.Str.{bytes_eq}
use Rattle.cnb_world.specs.Path.{is_part, is_part_byte}
use Rattle.cnb_toml.specs.Names.{is_process_type, is_type_byte}

byte_is_part : (b : ℕ) → is_type_byte b ≡ true → is_part_byte b ≡ true
byte_is_part b is = grind (arith, nat_tests)

have_part_bytes : (kind : List ℕ) → list_all is_type_byte kind ≡ true → list_all is_part_byte kind ≡ true
have_part_bytes [] is = refl
have_part_bytes (b ∷ kind) is =
    let (first, rest) = and_parts (is_type_byte b) (list_all is_type_byte kind) is in
    rw (byte_is_part b first, have_part_bytes kind rest) refl

pub type_is_part : (kind : List ℕ) → IsTrue (is_process_type kind) → IsTrue (is_part kind)
type_is_part kind is =
    let (first, dots) = and_parts _ (not (bytes_eq kind (codes ".."))) is in
    let (second, dot) = and_parts _ (not (bytes_eq kind (codes "."))) first in
    let (sized, bytes) = and_parts _ (list_all is_type_byte kind) second in
    let (some, few) = and_parts (nat_le 1 (length kind)) (nat_le (length kind) 128) sized in
    let filled : nat_lt 0 (length kind) ≡ true = grind (arith, nat_tests) in
    let within : nat_le (length kind) 255 ≡ true = grind (arith, nat_tests) in
    rw (filled, within, dot, dots, have_part_bytes kind bytes) refl
