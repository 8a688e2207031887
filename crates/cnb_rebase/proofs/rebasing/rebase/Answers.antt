use Rattle.std.proofs.lemmas.Result.{err_from_is_err_and}
use Rattle.steps.proofs.StepLemmas.{ended, mapped, mapped_fault, went}
use Rattle.cnb_rebase.specs.Rebases.{rebases}
use Rattle.cnb_rebase.proofs.rebasing.rebase.Goals as goal

pub returns-in_err-image-clause-steps : goal.returns-in_err-image-clause-steps
unfolding rebases
returns-in_err-image-clause-steps g c =
    let exit = err_from_is_err_and c.from_residual.result c.from_residual.ensures.1 in
    rw (exit.1, exit.2) (ended _ _ _ _ _ (mapped_fault _ _ _ _ _ c.in_err-image.ensures.step))

pub returns-in_err-put_on_run-clause-steps : goal.returns-in_err-put_on_run-clause-steps
unfolding rebases
returns-in_err-put_on_run-clause-steps g c =
    let exit = err_from_is_err_and c.from_residual-in_err-put_on_run.result
    c.from_residual-in_err-put_on_run.ensures.1 in
    rw (exit.1, exit.2) (went _ _ _ _ _ _ _ (mapped _ _ _ _ _ c.in_ok-image.ensures.step)
    c.in_err-put_on_run.ensures.steps)

pub returns-clause-steps : goal.returns-clause-steps
unfolding rebases
returns-clause-steps g c = went _ _ _ _ _ _ _ (mapped _ _ _ _ _ c.in_ok-image.ensures.step)
    c.in_ok-put_on_run.ensures.steps

pub returns-clause-readable : goal.returns-clause-readable
returns-clause-readable g c = c.in_ok-put_on_run.ensures.readable c.in_ok-image.ensures.readable
