use Rattle.std.proofs.Common.{ap, refl, sym, Ok}
use Rattle.std.proofs.lemmas.Result.{err_from_is_err_and}
use Rattle.steps.proofs.StepLemmas.{ended, given, no_memory, went, yielded}
use Rattle.cnb_build.specs.declared.fault.BuildFault.{BuildFault}
use Rattle.cnb_build.specs.declared.fault.BuildFault.TheVariants.{Memory}
use Rattle.cnb_build.specs.Builds.{builds}
use Rattle.cnb_build.proofs.BuildSteps.{all_same}
use Rattle.cnb_build.proofs.KeepLaws.{kept_paths}
use Rattle.cnb_build.proofs.OutcomeLaws.{runs_builds}
use Rattle.cnb_build.proofs.group.build.Goals as goal

pub returns-in_err-base-clause-steps : goal.returns-in_err-base-clause-steps
unfolding builds
returns-in_err-base-clause-steps g c =
    let exit = err_from_is_err_and c.from_residual.result c.from_residual.ensures.1 in
    rw (exit.1, exit.2) (ended _ _ _ _ _ (no_memory _ _ _ Memory refl))

pub returns-in_err-_built-clause-steps : goal.returns-in_err-_built-clause-steps
unfolding builds
returns-in_err-_built-clause-steps g c =
    let exit = err_from_is_err_and c.from_residual-in_err-_built.result c.from_residual-in_err-_built.ensures.1 in
    rw (exit.1, exit.2) (went _ _ _ _ _ _ _ (given _ _ _ _ (ap Ok (sym c.in_ok-base.ensures)))
    (ended _ _ _ _ _ (all_same _ _ _ _ _ _ _ c.as_slice.ensures c.in_err-_built.ensures.step)))

pub returns-clause-steps : goal.returns-clause-steps
unfolding builds
returns-clause-steps g c =
    went _ _ _ _ _ _ _ (given _ _ _ _ (ap Ok (sym c.in_ok-base.ensures)))
    (went _ _ _ _ _ _ _ (all_same _ _ _ _ _ _ _ c.as_slice.ensures c.in_ok-_built.ensures.step)
    (yielded BuildFault _ _))

pub returns-in_err-base-clause-runs : goal.returns-in_err-base-clause-runs
returns-in_err-base-clause-runs g c = runs_builds _ _ _ _ _ _ (returns-in_err-base-clause-steps g c)

pub returns-in_err-_built-clause-runs : goal.returns-in_err-_built-clause-runs
returns-in_err-_built-clause-runs g c = runs_builds _ _ _ _ _ _ (returns-in_err-_built-clause-steps g c)

pub returns-clause-runs : goal.returns-clause-runs
returns-clause-runs g c = runs_builds _ _ _ _ _ _ (returns-clause-steps g c)

pub returns-in_err-base-clause-others : goal.returns-in_err-base-clause-others
returns-in_err-base-clause-others g c path apart = kept_paths _ _ _ _ _ _
    (returns-in_err-base-clause-steps g c) path apart

pub returns-in_err-_built-clause-others : goal.returns-in_err-_built-clause-others
returns-in_err-_built-clause-others g c path apart = kept_paths _ _ _ _ _ _
    (returns-in_err-_built-clause-steps g c) path apart

pub returns-clause-others : goal.returns-clause-others
returns-clause-others g c path apart = kept_paths _ _ _ _ _ _ (returns-clause-steps g c) path apart
