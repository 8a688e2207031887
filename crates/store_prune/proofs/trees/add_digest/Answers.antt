use Rattle.std.proofs.Common.{ap, refl, sym, Ok}
use Rattle.std.proofs.lemmas.Result.{err_from_is_err_and}
use Rattle.steps.proofs.StepLemmas.{ended, given, no_memory, went}
use Rattle.store_prune.specs.Trees.{adds_digest}
use Rattle.store_prune.specs.declared.fault.PruneFault.TheVariants.{Memory}
use Rattle.store_prune.proofs.NamedSteps.{not_looked}
use Rattle.store_prune.proofs.TreeSteps.{looked_at}
use Rattle.store_prune.proofs.trees.add_digest.Goals as goal

pub returns-in_err-path : goal.returns-in_err-path
unfolding adds_digest
returns-in_err-path g c =
    let exit = err_from_is_err_and c.from_residual.result c.from_residual.ensures.1 in
    rw (exit.1, exit.2) (record { steps = ended _ _ _ _ _ (not_looked _ _) })

pub returns-in_err-there : goal.returns-in_err-there
unfolding adds_digest
returns-in_err-there g c =
    let exit = err_from_is_err_and c.from_residual-in_err-there.result c.from_residual-in_err-there.ensures.1 in
    rw (exit.1, exit.2) (record {
      steps = ended _ _ _ _ _
          (looked_at _ _ _ _ _ c.in_ok-path.ensures c.in_err-there.ensures.steps);
    })

pub returns-in_err-trees : goal.returns-in_err-trees
unfolding adds_digest
returns-in_err-trees g c =
    let exit = err_from_is_err_and c.from_residual-in_err-trees.result c.from_residual-in_err-trees.ensures.1 in
    rw (exit.1, exit.2) (record {
      steps = went _ _ _ _ _ _ _
          (looked_at _ _ _ _ _ c.in_ok-path.ensures c.in_ok-there.ensures.steps) (no_memory _ _ _ Memory refl);
    })

pub returns : goal.returns
unfolding adds_digest
returns g c = record {
  steps = went _ _ _ _ _ _ _
      (looked_at _ _ _ _ _ c.in_ok-path.ensures c.in_ok-there.ensures.steps)
      (given _ _ _ _ (ap Ok (sym c.in_ok-trees.ensures)));
}
