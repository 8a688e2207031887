use Rattle.std.proofs.Common.{Ok, Err}
use Rattle.std.proofs.lemmas.Result.{err_from_is_err_and}
use Rattle.steps.proofs.StepLemmas.{ended, went, yielded}
use Rattle.cnb_launch.specs.Planning.{plans}
use Rattle.cnb_launch.specs.declared.fault.LaunchFault.{LaunchFault}
use Rattle.cnb_launch.proofs.PlanLemmas.{all_as}
use Rattle.cnb_launch.proofs.LaunchLaws.{plan_keeps}
use Rattle.cnb_launch.proofs.planning.plan_launch.Goals as goal

pub returns-in_err-prepared-clause-steps : goal.returns-in_err-prepared-clause-steps
unfolding plans
returns-in_err-prepared-clause-steps g c =
    let exit = err_from_is_err_and c.from_residual.result c.from_residual.ensures.1 in
    rw (exit.1, exit.2) (ended _ _ _ _ _ c.in_err-prepared.ensures.step)

pub returns-in_err-env-clause-steps : goal.returns-in_err-env-clause-steps
unfolding plans
returns-in_err-env-clause-steps g c =
    let exit = err_from_is_err_and c.from_residual-in_err-env.result c.from_residual-in_err-env.ensures.1 in
    rw (exit.1, exit.2) (went _ _ _ _ _ _ _ c.in_ok-prepared.ensures.step
    (ended _ _ _ _ _ (all_as _ _ _ _ _ _ (Err _) c.as_slice.ensures c.in_err-env.ensures.step)))

pub returns-clause-steps : goal.returns-clause-steps
unfolding plans
returns-clause-steps g c =
    went _ _ _ _ _ _ _ c.in_ok-prepared.ensures.step
    (went _ _ _ _ _ _ _ (all_as _ _ _ _ _ _ (Ok _) c.as_slice.ensures c.in_ok-env.ensures.step)
    (yielded LaunchFault _ _))

pub returns-in_err-prepared-clause-keeps : goal.returns-in_err-prepared-clause-keeps
returns-in_err-prepared-clause-keeps g c = λ path. plan_keeps path c.args.root.now c.args.call.now c.args.env.now
    _ _ _ (returns-in_err-prepared-clause-steps g c)

pub returns-in_err-env-clause-keeps : goal.returns-in_err-env-clause-keeps
returns-in_err-env-clause-keeps g c = λ path. plan_keeps path c.args.root.now c.args.call.now c.args.env.now _ _ _
    (returns-in_err-env-clause-steps g c)

pub returns-clause-keeps : goal.returns-clause-keeps
returns-clause-keeps g c = λ path. plan_keeps path c.args.root.now c.args.call.now c.args.env.now _ _ _
    (returns-clause-steps g c)
