use Rattle.std.proofs.lemmas.Result.{err_from_is_err_and}
use Rattle.steps.proofs.StepLemmas.{mapped, mapped_fault}
use Rattle.cnb_launch.proofs.unpacking.lay_row.Goals as goal

pub returns-in_err-lay_stored : goal.returns-in_err-lay_stored
returns-in_err-lay_stored g c =
    let exit = err_from_is_err_and c.from_residual.result c.from_residual.ensures.1 in
    rw (exit.1, exit.2) (record { step = mapped_fault _ _ _ _ _ c.in_err-lay_stored.ensures.steps })

pub returns : goal.returns
returns g c = record { step = mapped _ _ _ _ _ c.in_ok-lay_stored.ensures.steps }
