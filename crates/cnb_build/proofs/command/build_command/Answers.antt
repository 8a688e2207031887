use Rattle.std.proofs.Common.{ap, refl, sym, Ok}
use Rattle.std.proofs.lemmas.Result.{err_from_is_err_and}
use Rattle.steps.proofs.StepLemmas.{ended, given, no_memory, went, yielded}
use Rattle.cnb_build.specs.declared.fault.BuildFault.{BuildFault}
use Rattle.cnb_build.specs.declared.fault.BuildFault.TheVariants.{Memory}
use Rattle.cnb_build.specs.Command.{commands_build}
use Rattle.cnb_build.proofs.command.build_command.Goals as goal

pub returns-in_err-given : goal.returns-in_err-given
unfolding commands_build
returns-in_err-given g c =
    let exit = err_from_is_err_and c.from_residual.result c.from_residual.ensures.1 in
    rw (exit.1, exit.2) (record { steps = ended _ _ _ _ _ c.in_err-given.ensures.step })

pub returns-in_err-text : goal.returns-in_err-text
unfolding commands_build
returns-in_err-text g c =
    let exit = err_from_is_err_and c.from_residual-in_err-text.result c.from_residual-in_err-text.ensures.1 in
    rw (exit.1, exit.2) (record {
      steps = went _ _ _ _ _ _ _ c.in_ok-given.ensures.step
          (ended _ _ _ _ _ (no_memory _ _ _ Memory refl));
    })

pub returns-in_err-build : goal.returns-in_err-build
unfolding commands_build
returns-in_err-build g c =
    let exit = err_from_is_err_and c.from_residual-in_err-build.result c.from_residual-in_err-build.ensures.1 in
    rw (exit.1, exit.2) (record {
      steps = went _ _ _ _ _ _ _ c.in_ok-given.ensures.step
          (went _ _ _ _ _ _ _ (given _ _ _ _ (ap Ok (sym c.in_ok-text.ensures)))
          (ended _ _ _ _ _ c.in_err-build.ensures.steps));
    })

pub returns : goal.returns
unfolding commands_build
returns g c =
    record {
      steps = went _ _ _ _ _ _ _ c.in_ok-given.ensures.step
          (went _ _ _ _ _ _ _ (given _ _ _ _ (ap Ok (sym c.in_ok-text.ensures)))
          (went _ _ _ _ _ _ _ c.in_ok-build.ensures.steps (yielded BuildFault _ _)));
    }
