use Rattle.std.proofs.lemmas.Result.{err_from_is_err_and}
use Rattle.steps.proofs.StepLemmas.{ended, went, yielded}
use Rattle.cnb_build.specs.declared.fault.BuildFault.{BuildFault}
use Rattle.cnb_build.specs.Builds.{prepares}
use Rattle.cnb_build.proofs.preparing.prepare.Goals as goal

pub returns-in_err-clear_env : goal.returns-in_err-clear_env
unfolding prepares
returns-in_err-clear_env g c =
    let exit = err_from_is_err_and c.from_residual.result c.from_residual.ensures.1 in
    rw (exit.1, exit.2) (record { step = ended _ _ _ _ _ c.in_err-clear_env.ensures.step })

pub returns-in_err-make_folder : goal.returns-in_err-make_folder
unfolding prepares
returns-in_err-make_folder g c =
    let exit = err_from_is_err_and c.from_residual-in_err-make_folder.result
    c.from_residual-in_err-make_folder.ensures.1 in
    rw (exit.1, exit.2) (record {
      step = went _ _ _ _ _ _ _ c.in_ok-clear_env.ensures.step
          (ended _ _ _ _ _ c.in_err-make_folder.ensures.step);
    })

pub returns-in_err-write_plan : goal.returns-in_err-write_plan
unfolding prepares
returns-in_err-write_plan g c =
    let exit = err_from_is_err_and c.from_residual-in_err-write_plan.result
    c.from_residual-in_err-write_plan.ensures.1 in
    rw (exit.1, exit.2) (record {
      step = went _ _ _ _ _ _ _ c.in_ok-clear_env.ensures.step
          (went _ _ _ _ _ _ _ c.in_ok-make_folder.ensures.step
          (ended _ _ _ _ _ c.in_err-write_plan.ensures.step));
    })

pub returns : goal.returns
unfolding prepares
returns g c =
    record {
      step = went _ _ _ _ _ _ _ c.in_ok-clear_env.ensures.step
          (went _ _ _ _ _ _ _ c.in_ok-make_folder.ensures.step
          (went _ _ _ _ _ _ _ c.in_ok-write_plan.ensures.step (yielded BuildFault _ _)));
    }
