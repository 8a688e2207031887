use Rattle.std.proofs.lemmas.Result.{err_from_is_err_and}
use Rattle.steps.proofs.StepLemmas.{ended, went}
use Rattle.cnb_launch.specs.Planning.{launches}
use Rattle.cnb_launch.proofs.ExecLemmas.{not_run, run_as}
use Rattle.cnb_launch.proofs.LaunchLaws.{launch_keeps}
use Rattle.cnb_launch.proofs.planning.launch.Goals as goal

pub returns-in_err-plan-clause-steps : goal.returns-in_err-plan-clause-steps
unfolding launches
returns-in_err-plan-clause-steps g c =
    let exit = err_from_is_err_and c.from_residual.result c.from_residual.ensures.1 in
    rw (exit.1, exit.2) (ended _ _ _ _ _ c.in_err-plan.ensures.steps)

pub returns-in_err-job-clause-steps : goal.returns-in_err-job-clause-steps
unfolding launches
returns-in_err-job-clause-steps g c =
    let exit = err_from_is_err_and c.from_residual-in_err-job.result c.from_residual-in_err-job.ensures.1 in
    rw (exit.1, exit.2) (went _ _ _ _ _ _ _ c.in_ok-plan.ensures.steps (not_run _ _))

pub returns-clause-steps : goal.returns-clause-steps
unfolding launches
returns-clause-steps g c = went _ _ _ _ _ _ _ c.in_ok-plan.ensures.steps
    (run_as _ _ _ _ _ c.in_ok-job.ensures c.run_child.ensures.step)

pub returns-in_err-plan-clause-keeps : goal.returns-in_err-plan-clause-keeps
returns-in_err-plan-clause-keeps g c = λ path. launch_keeps path c.args.root.now c.args.call.now c.args.env.now _
    _ _ (returns-in_err-plan-clause-steps g c)

pub returns-in_err-job-clause-keeps : goal.returns-in_err-job-clause-keeps
returns-in_err-job-clause-keeps g c = λ path. launch_keeps path c.args.root.now c.args.call.now c.args.env.now _ _
    _ (returns-in_err-job-clause-steps g c)

pub returns-clause-keeps : goal.returns-clause-keeps
returns-clause-keeps g c = λ path. launch_keeps path c.args.root.now c.args.call.now c.args.env.now _ _ _
    (returns-clause-steps g c)
