use Rattle.std.proofs.lemmas.Result.{err_from_is_err_and}
use Rattle.steps.proofs.StepLemmas.{ended, went}
use Rattle.store_prune.specs.Named.{adds_document}
use Rattle.store_prune.proofs.ListLemmas.{added_there, nothing_added}
use Rattle.store_prune.proofs.documents.add_document.Goals as goal

pub returns-in_err-there : goal.returns-in_err-there
unfolding adds_document
returns-in_err-there g c =
    let exit = err_from_is_err_and c.from_residual.result c.from_residual.ensures.1 in
    rw (exit.1, exit.2) (record { steps = ended _ _ _ _ _ c.in_err-there.ensures.steps })

pub returns-then-not-there : goal.returns-then-not-there
unfolding adds_document
returns-then-not-there g c = record {
  steps = went _ _ _ _ _ _ _ c.in_ok-there.ensures.steps
      (nothing_added g.D.TableForm.value_in g.D.NamesTrees.digests_of _ _ _ _ c.if-not-there.true);
}

pub returns : goal.returns
unfolding adds_document
returns g c = record {
  steps = went _ _ _ _ _ _ _ c.in_ok-there.ensures.steps
      (added_there g.D.TableForm.value_in g.D.NamesTrees.digests_of _ _ _ _ _ _ c.if-not-there.false
      c.add_names_of.ensures.steps);
}
