use Rattle.std.proofs.lemmas.Result.{err_from_is_err_and}
use Rattle.steps.proofs.StepLemmas.{mapped, mapped_fault}
use Rattle.store_prune.proofs.verifying.check_next.Goals as goal

pub returns-in_err-check_tree : goal.returns-in_err-check_tree
returns-in_err-check_tree g c =
    let exit = err_from_is_err_and c.from_residual.result c.from_residual.ensures.1 in
    rw (exit.1, exit.2) (record { steps = mapped_fault _ _ _ _ _ c.in_err-check_tree.ensures.steps })

pub returns : goal.returns
returns g c = record { steps = mapped _ _ _ _ _ c.in_ok-check_tree.ensures.steps }
