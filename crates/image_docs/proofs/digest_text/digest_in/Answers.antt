use Rattle.std.proofs.Common.{◌∙◌, ap, sym}
use Rattle.image_docs.specs.DigestText.{digest_in, is_digest}
use Rattle.image_docs.specs.DigestTextLaws.{digest_read}
use Rattle.image_docs.proofs.digest_text.digest_in.Goals as goal

pub returns-in-Some : goal.returns-in-Some
returns-in-Some c =
    sym (ap digest_in (sym c.in-Some.ensures.read) ∙ digest_read c.in-Some.digest
    (sym (ap is_digest c.bytes.ensures) ∙ c.are_sized.ensures))
