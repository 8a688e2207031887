use Rattle.std.proofs.Common.{ap, refl, sym, Ok}
use Rattle.std.proofs.lemmas.Result.{err_from_is_err_and}
use Rattle.steps.proofs.StepLemmas.{ended, given, no_memory, went}
use Rattle.cnb_build.specs.declared.fault.BuildFault.TheVariants.{Memory}
use Rattle.cnb_create.specs.Creates.{builds_group}
use Rattle.cnb_create.proofs.building.build_all.Goals as goal

pub returns-in_err-files : goal.returns-in_err-files
unfolding builds_group
returns-in_err-files g c =
    let exit = err_from_is_err_and c.from_residual.result c.from_residual.ensures.1 in
    rw (exit.1, exit.2) (record { steps = ended _ _ _ _ _ c.in_err-files.ensures.step })

pub returns-in_err-frame : goal.returns-in_err-frame
unfolding builds_group
returns-in_err-frame g c =
    let exit = err_from_is_err_and c.from_residual-in_err-frame.result c.from_residual-in_err-frame.ensures.1 in
    rw (exit.1, exit.2) (record {
      steps = went _ _ _ _ _ _ _ c.in_ok-files.ensures.step
          (ended _ _ _ _ _ (no_memory _ _ _ Memory refl));
    })

pub returns-in_err-build : goal.returns-in_err-build
unfolding builds_group
returns-in_err-build g c =
    let exit = err_from_is_err_and c.from_residual-in_err-build.result c.from_residual-in_err-build.ensures.1 in
    rw (exit.1, exit.2) (record {
      steps = went _ _ _ _ _ _ _ c.in_ok-files.ensures.step
          (went _ _ _ _ _ _ _ (given _ _ _ _ (ap Ok (sym c.in_ok-frame.ensures.frame)))
          c.in_err-build.ensures.steps);
    })

pub returns : goal.returns
unfolding builds_group
returns g c = record {
  steps = went _ _ _ _ _ _ _ c.in_ok-files.ensures.step
      (went _ _ _ _ _ _ _ (given _ _ _ _ (ap Ok (sym c.in_ok-frame.ensures.frame))) c.in_ok-build.ensures.steps);
}
