use Rattle.std.proofs.Common.{◌∙◌, ap, refl, sym, Ok}
use Rattle.std.proofs.lemmas.Result.{err_from_is_err_and}
use Rattle.steps.proofs.StepLemmas.{ended, given, no_memory, went}
use Rattle.store_prune.specs.Surveys.{pruned_of, surveys}
use Rattle.store_prune.specs.declared.fault.PruneFault.TheVariants.{Memory}
use Rattle.store_prune.proofs.surveying.survey.Goals as goal

pub returns-in_err-named : goal.returns-in_err-named
unfolding surveys
returns-in_err-named g c =
    let exit = err_from_is_err_and c.from_residual.result c.from_residual.ensures.1 in
    rw (exit.1, exit.2) (record { steps = ended _ _ _ _ _ c.in_err-named.ensures.steps })

pub returns-in_err-trees : goal.returns-in_err-trees
unfolding surveys
returns-in_err-trees g c =
    let exit = err_from_is_err_and c.from_residual-in_err-trees.result c.from_residual-in_err-trees.ensures.1 in
    rw (exit.1, exit.2) (record {
      steps = went _ _ _ _ _ _ _ c.in_ok-named.ensures.steps
          (ended _ _ _ _ _ c.in_err-trees.ensures.steps);
    })

pub returns-in_err-pruned : goal.returns-in_err-pruned
unfolding surveys
returns-in_err-pruned g c =
    let exit = err_from_is_err_and c.from_residual-in_err-pruned.result c.from_residual-in_err-pruned.ensures.1 in
    rw (exit.1, exit.2) (record {
      steps = went _ _ _ _ _ _ _ c.in_ok-named.ensures.steps
          (went _ _ _ _ _ _ _ c.in_ok-trees.ensures.steps (no_memory _ _ _ Memory refl));
    })

pub returns : goal.returns
unfolding surveys
returns g c = record {
  steps = went _ _ _ _ _ _ _ c.in_ok-named.ensures.steps
      (went _ _ _ _ _ _ _ c.in_ok-trees.ensures.steps
      (given _ _ _ _ (ap Ok (sym (c.in_ok-pruned.ensures ∙ ap
      (pruned_of c.in_ok-named.named) c.as_slice.ensures)))));
}
