use Rattle.std.proofs.lemmas.Result.{err_from_is_err_and}
use Rattle.steps.proofs.StepLemmas.{ended, mapped, mapped_fault, went}
use Rattle.cnb_rebase.specs.Rebases.{rebases_on}
use Rattle.cnb_rebase.proofs.ReadableLemmas.{put_readable, put_so}
use Rattle.cnb_rebase.proofs.rebasing.put_on_run.Goals as goal

pub returns-in_err-base-clause-steps : goal.returns-in_err-base-clause-steps
unfolding rebases_on
returns-in_err-base-clause-steps g c =
    let exit = err_from_is_err_and c.from_residual.result c.from_residual.ensures.1 in
    rw (exit.1, exit.2) (ended _ _ _ _ _ (mapped_fault _ _ _ _ _ c.in_err-base.ensures.step))

pub returns-clause-steps : goal.returns-clause-steps
unfolding rebases_on
returns-clause-steps g c = went _ _ _ _ _ _ _ (mapped _ _ _ _ _ c.in_ok-base.ensures.step)
    (put_so c.args.image.now c.rebased.new.image c.args.run.now c.in_ok-base.base c.rebased.result _
    c.rebased.ensures.answer c.rebased.ensures.cause)

pub returns-clause-readable : goal.returns-clause-readable
returns-clause-readable g c = put_readable c.args.image.now c.rebased.new.image c.args.run.now c.in_ok-base.base
    c.rebased.result c.named.ensures c.in_ok-base.ensures.readable c.rebased.ensures.answer
