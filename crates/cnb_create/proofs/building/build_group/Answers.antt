use Rattle.std.proofs.lemmas.Result.{err_from_is_err_and}
use Rattle.steps.proofs.StepLemmas.{mapped, mapped_fault}
use Rattle.cnb_create.specs.declared.refusal.CreateRefusal.TheVariants.{Build}
use Rattle.cnb_create.proofs.building.build_group.Goals as goal

pub returns-in_err-build_all : goal.returns-in_err-build_all
returns-in_err-build_all g c =
    let exit = err_from_is_err_and c.from_residual.result c.from_residual.ensures.1 in
    rw (exit.1, exit.2) (record { steps = mapped_fault Build _ _ _ _ c.in_err-build_all.ensures.steps })

pub returns : goal.returns
returns g c = record { steps = mapped Build _ _ _ _ c.in_ok-build_all.ensures.steps }
