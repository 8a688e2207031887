use Rattle.std.proofs.Common.{◌≡◌}
use Rattle.std.specs.Str.{bytes_eq}
use Rattle.cnb_toml.specs.Distinct.{HasKeysOf}
use Rattle.hex.specs.Hex.{encode_lower}
use Rattle.store_prune.specs.Digests.{distinct}
use Rattle.store_prune.proofs.digits.distinct.Given as goal

abbrev pub invariant-loop-digest : goal.invariant-loop-digest
invariant-loop-digest l = record {
  found : l.found ≡ distinct l.yielded;
  seen : HasKeysOf bytes_eq encode_lower l.found l.seen;
}
