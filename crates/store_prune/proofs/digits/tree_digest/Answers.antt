use Rattle.std.proofs.Common.{refl, subst}
use Rattle.std.specs.Prelude.{IsTrue}
use Rattle.image_docs.specs.DigestText.{is_digest}
use Rattle.store_prune.proofs.NameLemmas.{digest_named, no_digest}
use Rattle.store_prune.proofs.digits.tree_digest.Goals as goal

pub returns-in-Some : goal.returns-in-Some
returns-in-Some c = digest_named c.args.name.now c.in-Some.digest c.in-Some.ensures.read
    (subst (λ bytes. IsTrue (is_digest bytes)) c.bytes.ensures c.are_sized.ensures)

pub returns-in-None : goal.returns-in-None
returns-in-None c = no_digest c.args.name.now (c.in-None.ensures.none.0 refl)
