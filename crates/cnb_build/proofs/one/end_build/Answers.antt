use Rattle.std.proofs.Common.{ap, refl, sym, Ok}
use Rattle.std.proofs.lemmas.Result.{err_from_is_err_and}
use Rattle.steps.proofs.StepLemmas.{ended, given, no_memory, went}
use Rattle.cnb_build.specs.declared.fault.BuildFault.TheVariants.{Memory}
use Rattle.cnb_build.specs.Builds.{ends_build}
use Rattle.cnb_build.proofs.one.end_build.Goals as goal

pub returns-in_err-pending-clause-step : goal.returns-in_err-pending-clause-step
unfolding ends_build
returns-in_err-pending-clause-step g c =
    let exit = err_from_is_err_and c.from_residual.result c.from_residual.ensures.1 in
    rw (exit.1, exit.2) (ended _ _ _ _ _ c.in_err-pending.ensures.step)

pub returns-in_err-layers-clause-step : goal.returns-in_err-layers-clause-step
unfolding ends_build
returns-in_err-layers-clause-step g c =
    let exit = err_from_is_err_and c.from_residual-in_err-layers.result c.from_residual-in_err-layers.ensures.1 in
    rw (exit.1, exit.2) (went _ _ _ _ _ _ _ c.in_ok-pending.ensures.step (ended _ _ _ _ _ c.in_err-layers.ensures.step))

pub returns-in_err-with_layers-clause-step : goal.returns-in_err-with_layers-clause-step
unfolding ends_build
returns-in_err-with_layers-clause-step g c =
    let exit = err_from_is_err_and c.from_residual-in_err-with_layers.result
    c.from_residual-in_err-with_layers.ensures.1 in
    rw (exit.1, exit.2) (went _ _ _ _ _ _ _ c.in_ok-pending.ensures.step
    (went _ _ _ _ _ _ _ c.in_ok-layers.ensures.step (no_memory _ _ _ Memory refl)))

pub returns-clause-step : goal.returns-clause-step
unfolding ends_build
returns-clause-step g c =
    went _ _ _ _ _ _ _ c.in_ok-pending.ensures.step
    (went _ _ _ _ _ _ _ c.in_ok-layers.ensures.step
    (given _ _ _ _ (ap Ok (sym c.in_ok-with_layers.ensures.built))))
