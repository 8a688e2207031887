-- How long paths are.
use Rattle.std.proofs.Common.{ℕ, ◌+◌, ◌≤◌, nat_le, nat_lt, Bool, true, false, not, IsTrue, List, [], ◌∷◌, ◌++◌, length}
use Rattle.std.proofs.Common.{arith, length-append}
use Rattle.std.specs.Prelude.{◌&&◌, if◌then◌else◌}
use Rattle.std.specs.List.{list_all}
use Rattle.std.specs.Str.{bytes_eq}
use Rattle.std.proofs.lemmas.Bool.{and_parts, leb-true}
use Rattle.cnb_world.specs.Path.{is_part, is_part_byte, joined}

joined_by : (root : Bool) (path name : List ℕ) → length ((if root then path else path ++ 47 ∷ []) ++ name)
    ≤ length path + 1 + length name
joined_by true path name = omega (arith, length-append path name)
joined_by false path name = omega (arith, length-append (path ++ 47 ∷ []) name, length-append path (47 ∷ []))

pub length_joined : (path name : List ℕ) → length (joined path name) ≤ length path + 1 + length name
length_joined path name = joined_by (bytes_eq path (47 ∷ [])) path name

pub part_within : (name : List ℕ) → IsTrue (is_part name) → length name ≤ 255
part_within name h =
    let (most, bytes) = and_parts (nat_lt 0 (length name) && nat_le (length name) 255
    && not (bytes_eq name (46 ∷ [])) && not (bytes_eq name (46 ∷ 46 ∷ []))) (list_all is_part_byte name) h in
    let (more, dots) = and_parts (nat_lt 0 (length name) && nat_le (length name) 255
    && not (bytes_eq name (46 ∷ []))) (not (bytes_eq name (46 ∷ 46 ∷ []))) most in
    let (sized, dot) = and_parts (nat_lt 0 (length name) && nat_le (length name) 255)
    (not (bytes_eq name (46 ∷ []))) more in
    let (some, few) = and_parts (nat_lt 0 (length name)) (nat_le (length name) 255) sized in
    leb-true (length name) 255 few
