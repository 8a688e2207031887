use Rattle.std.proofs.Common.{◌≡◌, ◌∙◌, sym, ap, true, Ok}
use Rattle.hex.specs.Hex.{encode_lower}
use Rattle.tree_canon.specs.Digest.{is_digest_text}
use Rattle.tree_canon.proofs.DigestTexts.{digest_read}
use Rattle.tree_canon.proofs.digest.Digest.parse.Goals as goal

pub returns-in-Ok-clause-read : goal.returns-in-Ok-clause-read
returns-in-Ok-clause-read c =
    let digits : is_digest_text c.args.text.now ≡ true = sym
    (c.if-not-is_digest_text.ensures ∙ ap is_digest_text c.as_bytes.ensures.value) in
    let read = digest_read c.args.text.now digits in
    let same : Ok c.in-Ok.bytes ≡ Ok read.0 = sym c.in-Ok.is ∙ c.from_hex.ensures ∙ read.1 in
    let eq : c.in-Ok.bytes ≡ read.0 = cc in
    ap encode_lower eq ∙ sym read.2

pub returns-in-Err-clause-none : goal.returns-in-Err-clause-none
returns-in-Err-clause-none c =
    let digits : is_digest_text c.args.text.now ≡ true = sym
    (c.if-not-is_digest_text.ensures ∙ ap is_digest_text c.as_bytes.ensures.value) in
    let read = digest_read c.args.text.now digits in
    let same = sym c.in-Err.is ∙ c.from_hex.ensures ∙ read.1 in
    absurd cc
