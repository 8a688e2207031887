use Rattle.std.proofs.lemmas.Result.{err_from_is_err_and}
use Rattle.steps.proofs.StepLemmas.{ended, went, yielded}
use Rattle.cnb_launch.specs.Commands.{launches_command}
use Rattle.cnb_launch.specs.declared.fault.LaunchFault.{LaunchFault}
use Rattle.cnb_launch.proofs.commands.launch_command.Goals as goal

pub returns-in_err-end : goal.returns-in_err-end
unfolding launches_command
returns-in_err-end g c =
    let exit = err_from_is_err_and c.from_residual.result c.from_residual.ensures.1 in
    rw (exit.1, exit.2) (record { steps = ended _ _ _ _ _ c.in_err-end.ensures.steps })

pub returns : goal.returns
unfolding launches_command
returns g c = record { steps = went _ _ _ _ _ _ _ c.in_ok-end.ensures.steps (yielded LaunchFault _ _) }
