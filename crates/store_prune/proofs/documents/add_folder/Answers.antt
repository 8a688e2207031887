use Rattle.std.proofs.lemmas.Result.{err_from_is_err_and}
use Rattle.steps.proofs.StepLemmas.{ended, went}
use Rattle.store_prune.specs.Named.{adds_folder}
use Rattle.store_prune.proofs.NamedSteps.{names_at}
use Rattle.store_prune.proofs.documents.add_folder.Goals as goal

pub returns-in_err-names : goal.returns-in_err-names
unfolding adds_folder
returns-in_err-names g c =
    let exit = err_from_is_err_and c.from_residual.result c.from_residual.ensures.1 in
    rw (exit.1, exit.2) (record { steps = ended _ _ _ _ _ c.in_err-names.ensures.steps })

pub returns : goal.returns
unfolding adds_folder
returns g c = record {
  steps = went _ _ _ _ _ _ _ c.in_ok-names.ensures.steps
      (names_at g.D.TableForm.value_in g.D.NamesTrees.digests_of _ _ _ _ _ _ _ c.as_slice.ensures
      c.add_names.ensures.steps);
}
