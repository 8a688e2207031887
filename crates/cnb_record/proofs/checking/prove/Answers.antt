use Rattle.std.proofs.lemmas.Result.{err_from_is_err_and}
use Rattle.steps.proofs.StepLemmas.{ended, went}
use Rattle.cnb_record.specs.Checks.{proves}
use Rattle.cnb_record.proofs.checking.prove.Goals as goal

pub returns-in_err-ordered : goal.returns-in_err-ordered
unfolding proves
returns-in_err-ordered g c =
    let exit = err_from_is_err_and c.from_residual.result c.from_residual.ensures.1 in
    rw (exit.1, exit.2) (record { step = ended _ _ _ _ _ c.in_err-ordered.ensures.step })

pub returns : goal.returns
unfolding proves
returns g c = record { step = went _ _ _ _ _ _ _ c.in_ok-ordered.ensures.step c.follow.ensures.step }
