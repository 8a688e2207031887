-- The names of layers are fit to be parts of paths.
use Rattle.std.proofs.Common.{ℕ, not, nat_le, ◌&&◌, IsTrue, List, length}
use Rattle.std.proofs.lemmas.Bool.{and_parts}
use Rattle.cnb_world.specs.Path.{is_part}
use Rattle.cnb_toml.specs.Names.{is_reserved_layer, is_layer_name}

pub layer_name_is_part : (name : List ℕ) → IsTrue (is_layer_name name) → IsTrue (is_part name)
layer_name_is_part name is = (and_parts (nat_le (length name) 200) (is_part name)
    (and_parts (nat_le (length name) 200 && is_part name) (not (is_reserved_layer name)) is).0).1
