use Rattle.std.specs.Str.{bytes_eq}
use Rattle.cnb_toml.specs.Distinct.{HasKeysOf}
use Rattle.hex.specs.Hex.{encode_lower}
use Rattle.store_prune.proofs.digits.all_digits.Given as goal

abbrev pub invariant-loop-digest : goal.invariant-loop-digest
invariant-loop-digest l = HasKeysOf bytes_eq encode_lower l.yielded l.seen
