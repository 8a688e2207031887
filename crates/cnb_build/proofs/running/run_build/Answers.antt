use Rattle.std.proofs.lemmas.Result.{err_from_is_err_and}
use Rattle.steps.proofs.StepLemmas.{answered, ended, went}
use Rattle.cnb_build.specs.Builds.{runs_build}
use Rattle.cnb_build.proofs.running.run_build.Goals as goal

pub returns-in_err-env : goal.returns-in_err-env
unfolding runs_build
returns-in_err-env g c =
    let exit = err_from_is_err_and c.from_residual.result c.from_residual.ensures.1 in
    rw (exit.1, exit.2) (record { step = ended _ _ _ _ _ c.in_err-env.ensures.step })

pub returns-in_err-end : goal.returns-in_err-end
unfolding runs_build
returns-in_err-end g c =
    let exit = err_from_is_err_and c.from_residual-in_err-end.result c.from_residual-in_err-end.ensures.1 in
    rw (exit.1, exit.2) (record {
      step = went _ _ _ _ _ _ _ c.in_ok-env.ensures.step
          (ended _ _ _ _ _ c.in_err-end.ensures.step);
    })

pub returns : goal.returns
unfolding runs_build
returns g c =
    record {
      step = went _ _ _ _ _ _ _ c.in_ok-env.ensures.step
          (went _ _ _ _ _ _ _ c.in_ok-end.ensures.step (answered _ _ _ _ c.passed.ensures.answer
          c.passed.ensures.cause));
    }
