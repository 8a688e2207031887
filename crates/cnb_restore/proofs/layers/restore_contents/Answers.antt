use Rattle.std.proofs.Common.{ap, refl, sym, Ok}
use Rattle.std.proofs.lemmas.Result.{err_from_is_err_and}
use Rattle.steps.proofs.StepLemmas.{ended, given, no_memory, went}
use Rattle.cnb_restore.specs.Restores.{restores_contents}
use Rattle.cnb_restore.specs.declared.fault.RestoreFault.TheVariants.{Memory}
use Rattle.cnb_restore.proofs.layers.restore_contents.Goals as goal

pub returns-in_err-found-clause-step : goal.returns-in_err-found-clause-step
unfolding restores_contents
returns-in_err-found-clause-step g c =
    let exit = err_from_is_err_and c.from_residual.result c.from_residual.ensures.1 in
    rw (exit.1, exit.2) (ended _ _ _ _ _ c.in_err-found.ensures.step)

pub returns-in_err-counted-clause-step : goal.returns-in_err-counted-clause-step
unfolding restores_contents
returns-in_err-counted-clause-step g c =
    let exit = err_from_is_err_and c.from_residual-in_err-counted.result c.from_residual-in_err-counted.ensures.1 in
    rw (exit.1, exit.2) (went _ _ _ _ _ _ _ c.in_ok-found.ensures.step
    (ended _ _ _ _ _ (no_memory _ _ _ Memory refl)))

pub returns-clause-step : goal.returns-clause-step
unfolding restores_contents
returns-clause-step g c =
    went _ _ _ _ _ _ _ c.in_ok-found.ensures.step
    (went _ _ _ _ _ _ _ (given _ _ _ _ (ap Ok (sym c.in_ok-counted.ensures)))
    (c.restore_found.ensures.step _))
