use Rattle.std.proofs.Common.{◌∙◌, ap, sym}
use Rattle.std.proofs.lemmas.Result.{err_from_is_err_and}
use Rattle.cnb_world.specs.Path.{joined}
use Rattle.store_prune.specs.Named.{is_document_name}
use Rattle.store_prune.proofs.ListLemmas.{name_added, name_passed}
use Rattle.store_prune.proofs.NamedSteps.{name_refused}
use Rattle.store_prune.proofs.documents.add_name.Goals as goal

pub returns-then-not-is_document_name : goal.returns-then-not-is_document_name
returns-then-not-is_document_name g c = record {
  steps = name_passed g.D.TableForm.value_in g.D.NamesTrees.digests_of _ _ _ _
      (ap is_document_name (sym c.as_str-word.ensures) ∙ sym c.is_document_name.ensures
      ∙ c.if-not-is_document_name.true);
}

pub returns-in_err-path : goal.returns-in_err-path
returns-in_err-path g c =
    let exit = err_from_is_err_and c.from_residual.result c.from_residual.ensures.1 in
    rw (exit.1, exit.2) (record {
      steps = name_refused g.D.TableForm.value_in g.D.NamesTrees.digests_of _ _ _ _
          (ap is_document_name (sym c.as_str-word.ensures) ∙ sym c.is_document_name.ensures
          ∙ c.if-not-is_document_name.false);
    })

pub returns : goal.returns
returns g c = record {
  steps = name_added g.D.TableForm.value_in g.D.NamesTrees.digests_of _ _ _ _ _ _ _
      (ap is_document_name (sym c.as_str-word.ensures) ∙ sym c.is_document_name.ensures
      ∙ c.if-not-is_document_name.false) (c.in_ok-path.ensures.0
      ∙ ap (joined c.args.folder.now) c.as_str-word.ensures) c.add_document.ensures.steps;
}
