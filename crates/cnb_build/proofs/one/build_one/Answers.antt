use Rattle.std.proofs.Common.{ap, refl, sym, Ok}
use Rattle.std.proofs.lemmas.Result.{err_from_is_err_and}
use Rattle.steps.proofs.StepLemmas.{ended, given, no_memory, went}
use Rattle.cnb_build.specs.declared.fault.BuildFault.TheVariants.{Memory}
use Rattle.cnb_build.specs.Builds.{builds_one}
use Rattle.cnb_build.proofs.one.build_one.Goals as goal

pub returns-in_err-places-clause-step : goal.returns-in_err-places-clause-step
unfolding builds_one
returns-in_err-places-clause-step g c =
    let exit = err_from_is_err_and c.from_residual.result c.from_residual.ensures.1 in
    rw (exit.1, exit.2) (ended _ _ _ _ _ (no_memory _ _ _ Memory refl))

pub returns-clause-step : goal.returns-clause-step
unfolding builds_one
returns-clause-step g c = went _ _ _ _ _ _ _ (given _ _ _ _ (ap Ok (sym c.in_ok-places.ensures.places)))
    c.build_at.ensures.step
