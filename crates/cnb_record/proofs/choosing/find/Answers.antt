use Rattle.std.proofs.lemmas.Result.{err_from_is_err_and}
use Rattle.steps.proofs.StepLemmas.{ended, went, within_spawners}
use Rattle.cnb_record.specs.Choosing.{finds}
use Rattle.cnb_record.proofs.ChoosingLemmas.{written_with}
use Rattle.cnb_record.proofs.choosing.find.Goals as goal

pub returns-in_err-found-clause-steps : goal.returns-in_err-found-clause-steps
unfolding finds
returns-in_err-found-clause-steps g c =
    let exit = err_from_is_err_and c.from_residual.result c.from_residual.ensures.1 in
    rw (exit.1, exit.2) (λ world. ended _ _ _ _ _ (within_spawners _ world _ _ _ c.in_err-found.ensures.step))

pub returns-clause-steps : goal.returns-clause-steps
unfolding finds
returns-clause-steps g c = λ world. went _ _ _ _ _ _ _ (within_spawners _ world _ _ _ c.in_ok-found.ensures.step)
    (c.with_record.ensures.step _)

pub returns-clause-written : goal.returns-clause-written
returns-clause-written g c = written_with c.with_record.result c.in_ok-found.found.chosen
    c.with_record.ensures.chosen c.in_ok-found.ensures.written
