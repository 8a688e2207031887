use Rattle.std.proofs.lemmas.Result.{err_from_is_err_and}
use Rattle.steps.proofs.StepLemmas.{ended, went}
use Rattle.cnb_rebase.specs.Rebases.{rebases_command}
use Rattle.cnb_rebase.proofs.StandLaws.{rebased_stands}
use Rattle.cnb_rebase.proofs.rebasing.rebase_command.Goals as goal

pub returns-in_err-image-clause-steps : goal.returns-in_err-image-clause-steps
unfolding rebases_command
returns-in_err-image-clause-steps g c =
    let exit = err_from_is_err_and c.from_residual.result c.from_residual.ensures.1 in
    rw (exit.1, exit.2) (ended _ _ _ _ _ c.in_err-image.ensures.steps)

pub returns-clause-steps : goal.returns-clause-steps
unfolding rebases_command
returns-clause-steps g c = went _ _ _ _ _ _ _ c.in_ok-image.ensures.steps c.save_rebased.ensures.steps

pub returns-clause-stands : goal.returns-clause-stands
returns-clause-stands g c = rebased_stands c.args.options.now c.save_rebased.result _ _ (returns-clause-steps g c)
