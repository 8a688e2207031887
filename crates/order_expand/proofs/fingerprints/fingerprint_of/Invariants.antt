use Rattle.std.proofs.Common.{◌≡◌, ◌<◌, take, fold}
use Rattle.order_expand.specs.Fingerprints.{with_byte}
use Rattle.order_expand.proofs.fingerprints.fingerprint_of.Given as goal

-- the fingerprint of the bytes up to a place
abbrev pub invariant-loop-byte : goal.invariant-loop-byte
invariant-loop-byte l = (l.print ≡ fold with_byte 0 (take l.byte-index l.byte-items)) × (l.print < 65536)
