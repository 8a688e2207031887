use Rattle.std.proofs.Common.{◌≡◌, ◌∙◌, ap, fold, arith}
use Rattle.std.proofs.lemmas.List.{take_all}
use Rattle.order_expand.specs.Fingerprints.{with_byte, fingerprint}
use Rattle.order_expand.proofs.fingerprints.fingerprint_of.Goals as goal

pub returns : goal.returns
unfolding fingerprint
returns c =
    let bytes = c.as_bytes-byte-items.result.now in
    let same : bytes ≡ c.args.id.now = cc in
    c.loop-byte.invariant.0 ∙ ap (fold with_byte 0) (take_all c.loop-byte.byte-index bytes (omega arith) ∙ same)
