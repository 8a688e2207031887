use Rattle.std.proofs.Common.{refl, sym}
use Rattle.std.proofs.lemmas.Result.{err_from_is_err_and}
use Rattle.steps.proofs.StepLemmas.{ended, went}
use Rattle.cnb_record.specs.Checks.{compares_group, matches, reads_group}
use Rattle.cnb_record.proofs.CheckSteps.{not_read}
use Rattle.cnb_record.proofs.checking.compare_group.Goals as goal

pub returns-in_err-path : goal.returns-in_err-path
unfolding compares_group matches reads_group
returns-in_err-path g c =
    let exit = err_from_is_err_and c.from_residual.result c.from_residual.ensures.1 in
    rw (exit.1, exit.2) (record { step = ended _ _ _ _ _ (ended _ _ _ _ _ (not_read _ _ _ _)) })

pub returns-in_err-found : goal.returns-in_err-found
unfolding compares_group matches reads_group
returns-in_err-found g c =
    let exit = err_from_is_err_and c.from_residual-in_err-found.result c.from_residual-in_err-found.ensures.1 in
    rw (exit.1, exit.2, sym c.in_ok-path.ensures) (record { step = ended _ _ _ _ _ (c.in_err-found.ensures.step) })

pub returns : goal.returns
unfolding compares_group matches reads_group
returns g c = rw (sym c.in_ok-path.ensures) (record
    { step = went _ _ _ _ _ _ _ (c.in_ok-found.ensures.step) (refl, c.match_group.ensures) })
