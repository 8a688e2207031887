use Rattle.std.proofs.Common.{◌∙◌, ap, sym}
use Rattle.image_docs.specs.DigestText.{is_digest}
use Rattle.image_docs.proofs.digest_text.DigestTextWritten.write.Goals as goal

pub returns-clause-typed : goal.returns-clause-typed
returns-clause-typed c = sym (ap is_digest c.bytes.ensures) ∙ c.are_sized.ensures
