use Rattle.std.proofs.Common.{◌≡◌, not, take}
use Rattle.std.specs.HashSet.{contains}
use Rattle.std.specs.List.{filter}
use Rattle.std.specs.Str.{bytes_eq}
use Rattle.hex.specs.Hex.{encode_lower}
use Rattle.store_prune.proofs.digits.those_unless.Given as goal

abbrev pub invariant-loop-digest : goal.invariant-loop-digest
invariant-loop-digest l = l.found ≡ filter (λ one. not (contains bytes_eq l.named (encode_lower one)))
    (take l.digest-index l.digests)
