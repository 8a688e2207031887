use Rattle.std.proofs.Common.{Ok, ap, refl, sym}
use Rattle.std.proofs.lemmas.Result.{err_from_is_err_and}
use Rattle.steps.proofs.StepLemmas.{ended, given, no_memory, went, yielded}
use Rattle.cnb_launch.specs.Commands.{unpacks_command}
use Rattle.cnb_launch.specs.declared.fault.LaunchFault.{LaunchFault}
use Rattle.cnb_launch.specs.declared.fault.LaunchFault.TheVariants.{Memory}
use Rattle.cnb_launch.proofs.commands.unpack_command.Goals as goal

pub returns-in_err-text : goal.returns-in_err-text
unfolding unpacks_command
returns-in_err-text g c =
    let exit = err_from_is_err_and c.from_residual.result c.from_residual.ensures.1 in
    rw (exit.1, exit.2) (record { steps = ended _ _ _ _ _ (no_memory _ _ _ Memory refl) })

pub returns-in_err-unpack : goal.returns-in_err-unpack
unfolding unpacks_command
returns-in_err-unpack g c =
    let exit = err_from_is_err_and c.from_residual-in_err-unpack.result c.from_residual-in_err-unpack.ensures.1 in
    rw (exit.1, exit.2) (record {
      steps = went _ _ _ _ _ _ _ (given _ _ _ _ (ap Ok (sym c.in_ok-text.ensures)))
          (ended _ _ _ _ _ c.in_err-unpack.ensures.steps);
    })

pub returns : goal.returns
unfolding unpacks_command
returns g c = record {
  steps = went _ _ _ _ _ _ _ (given _ _ _ _ (ap Ok (sym c.in_ok-text.ensures)))
      (went _ _ _ _ _ _ _ c.in_ok-unpack.ensures.steps (yielded LaunchFault _ _));
}
