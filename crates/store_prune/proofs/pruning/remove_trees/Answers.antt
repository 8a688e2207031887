use Rattle.std.proofs.Common.{ap, refl, sym, Ok}
use Rattle.std.proofs.lemmas.Result.{err_from_is_err_and}
use Rattle.steps.proofs.StepLemmas.{ended, given, no_memory, went}
use Rattle.store_prune.specs.Prunes.{removes_trees}
use Rattle.store_prune.specs.declared.fault.PruneFault.TheVariants.{Memory}
use Rattle.store_prune.proofs.PruneSteps.{removed_at}
use Rattle.store_prune.proofs.pruning.remove_trees.Goals as goal

pub returns-in_err-paths : goal.returns-in_err-paths
unfolding removes_trees
returns-in_err-paths g c =
    let exit = err_from_is_err_and c.from_residual.result c.from_residual.ensures.1 in
    rw (exit.1, exit.2) (record { steps = ended _ _ _ _ _ (no_memory _ _ _ Memory refl) })

pub returns : goal.returns
unfolding removes_trees
returns g c = record {
  steps = went _ _ _ _ _ _ _ (given _ _ _ _ (ap Ok (sym c.in_ok-paths.ensures)))
      (removed_at _ _ _ _ _ c.as_slice.ensures c.remove_all.ensures.steps);
}
