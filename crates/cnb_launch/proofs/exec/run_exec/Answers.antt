use Rattle.std.proofs.Common.{Ok}
use Rattle.std.proofs.lemmas.Result.{err_from_is_err_and}
use Rattle.steps.proofs.StepLemmas.{answered, ended, went}
use Rattle.cnb_launch.specs.Exec.{runs_exec}
use Rattle.cnb_launch.proofs.ExecLemmas.{not_run, run_as, run_as_refused}
use Rattle.cnb_launch.proofs.exec.run_exec.Goals as goal

pub returns-in_err-job : goal.returns-in_err-job
unfolding runs_exec
returns-in_err-job g c =
    let exit = err_from_is_err_and c.from_residual.result c.from_residual.ensures.1 in
    rw (exit.1, exit.2) (record { step = ended _ _ _ _ _ (not_run _ _) })

pub returns-in_err-end : goal.returns-in_err-end
unfolding runs_exec
returns-in_err-end g c =
    let exit = err_from_is_err_and c.from_residual-in_err-end.result c.from_residual-in_err-end.ensures.1 in
    rw (exit.1, exit.2) (record {
      step = ended _ _ _ _ _
          (run_as_refused _ _ _ _ _ c.in_ok-job.ensures c.in_err-end.ensures.step);
    })

pub returns : goal.returns
unfolding runs_exec
returns g c =
    record {
      step = went _ _ _ _ _ _ _ (run_as _ _ _ _ (Ok _) c.in_ok-job.ensures c.in_ok-end.ensures.step)
          (answered _ _ _ _ c.after_exec.ensures.answer c.after_exec.ensures.given);
    }
