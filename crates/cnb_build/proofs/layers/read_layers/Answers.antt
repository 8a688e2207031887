use Rattle.std.proofs.Common.{ap, refl, sym, Ok}
use Rattle.std.proofs.lemmas.Result.{err_from_is_err_and}
use Rattle.steps.proofs.StepLemmas.{ended, given, no_memory, went}
use Rattle.cnb_build.specs.declared.fault.BuildFault.TheVariants.{Memory}
use Rattle.cnb_build.specs.Layers.{reads_layers}
use Rattle.cnb_build.proofs.BuildSteps.{all_same}
use Rattle.cnb_build.proofs.layers.read_layers.Goals as goal

pub returns-in_err-names-clause-step : goal.returns-in_err-names-clause-step
unfolding reads_layers
returns-in_err-names-clause-step g c =
    let exit = err_from_is_err_and c.from_residual.result c.from_residual.ensures.1 in
    rw (exit.1, exit.2) (ended _ _ _ _ _ c.in_err-names.ensures.step)

pub returns-in_err-layers-clause-step : goal.returns-in_err-layers-clause-step
unfolding reads_layers
returns-in_err-layers-clause-step g c =
    let exit = err_from_is_err_and c.from_residual-in_err-layers.result c.from_residual-in_err-layers.ensures.1 in
    rw (exit.1, exit.2) (went _ _ _ _ _ _ _ c.in_ok-names.ensures.step (ended _ _ _ _ _ (no_memory _ _ _ Memory refl)))

pub returns-clause-step : goal.returns-clause-step
unfolding reads_layers
returns-clause-step g c =
    went _ _ _ _ _ _ _ c.in_ok-names.ensures.step
    (went _ _ _ _ _ _ _ (given _ _ _ _ (ap Ok (sym c.in_ok-layers.ensures)))
    (all_same _ _ _ _ _ _ _ c.as_slice.ensures c.read_each.ensures.step))
