use Rattle.std.proofs.lemmas.Result.{err_from_is_err_and}
use Rattle.steps.proofs.StepLemmas.{ended, went}
use Rattle.cnb_record.specs.Checks.{checks}
use Rattle.cnb_record.proofs.CheckLaws.{comes_to_check}
use Rattle.cnb_record.proofs.checking.check.Goals as goal

pub returns-in_err-proved-clause-steps : goal.returns-in_err-proved-clause-steps
unfolding checks
returns-in_err-proved-clause-steps g c =
    let exit = err_from_is_err_and c.from_residual.result c.from_residual.ensures.1 in
    rw (exit.1, exit.2) (ended _ _ _ _ _ c.in_err-proved.ensures.step)

pub returns-clause-steps : goal.returns-clause-steps
unfolding checks
returns-clause-steps g c = went _ _ _ _ _ _ _ c.in_ok-proved.ensures.step c.compare.ensures.step

pub returns-in_err-proved-clause-outcome : goal.returns-in_err-proved-clause-outcome
returns-in_err-proved-clause-outcome g c = comes_to_check c.args.options.now _ _ _
    (returns-in_err-proved-clause-steps g c)

pub returns-clause-outcome : goal.returns-clause-outcome
returns-clause-outcome g c = comes_to_check c.args.options.now _ _ _ (returns-clause-steps g c)
