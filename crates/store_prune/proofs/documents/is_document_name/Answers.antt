use Rattle.std.proofs.Common.{◌∙◌}
use Rattle.store_prune.proofs.NameLemmas.{ends_not, ends_so}
use Rattle.store_prune.proofs.documents.is_document_name.Goals as goal

pub returns-in-Some : goal.returns-in-Some
returns-in-Some c =
    let found = c.in-Some.ensures.cases in
    c.is_name.ensures ∙ ends_so c.args.name.now c.in-Some.name.now found.0 found.1.0 found.1.1 found.2

pub returns-in-None : goal.returns-in-None
returns-in-None c = ends_not c.args.name.now c.in-None.ensures.cases
