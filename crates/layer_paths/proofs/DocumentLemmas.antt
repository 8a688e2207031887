-- The name of a layer's document is a part of a path.
use Rattle.std.proofs.Common.{◌≡◌, refl, ℕ, ◌+◌, ◌≤◌, true, not, ◌&&◌, IsTrue, nat_le, List, ◌++◌, length}
use Rattle.std.proofs.Common.{length-append, codes, arith}
use Rattle.std.specs.List.{list_all}
use Rattle.std.proofs.lemmas.Bool.{and_parts, leb-true}
use Rattle.std.proofs.lemmas.List.Folds.{list_all-append}
use Rattle.cnb_world.specs.Path.{is_part, is_part_byte}
use Rattle.cnb_toml.specs.Names.{is_layer_name, is_reserved_layer}
use Rattle.cnb_env.proofs.PlanNameLemmas.{long_part, part_bytes}

pub document_is_part : (layer : List ℕ) → IsTrue (is_layer_name layer) → IsTrue (is_part layer)
    → IsTrue (is_part (layer ++ codes ".toml"))
document_is_part layer named part =
    let (most, free) = and_parts (nat_le (length layer) 200 && is_part layer) (not (is_reserved_layer layer)) named in
    let (few, again) = and_parts (nat_le (length layer) 200) (is_part layer) most in
    let short : length layer ≤ 200 = leb-true (length layer) 200 few in
    let whole : length (layer ++ codes ".toml") ≡ length layer + 5 = length-append layer (codes ".toml") in
    let bytes : list_all is_part_byte (layer ++ codes ".toml")
    ≡ true = rw (list_all-append is_part_byte layer (codes ".toml"), part_bytes layer part) refl in
    long_part (layer ++ codes ".toml") (omega arith) (omega arith) bytes
