use Rattle.std.proofs.lemmas.Result.{err_from_is_err_and}
use Rattle.steps.proofs.StepLemmas.{ended, went}
use Rattle.shelf_set.proofs.CacheLemmas.{within}
use Rattle.cnb_export.specs.Command.{exports_command}
use Rattle.cnb_export.proofs.CommandLaws.{given_distinct}
use Rattle.cnb_export.proofs.StandLaws.{stands_where_done}
use Rattle.cnb_export.proofs.command.export_command.Goals as goal

pub returns-in_err-given-clause-steps : goal.returns-in_err-given-clause-steps
unfolding exports_command
returns-in_err-given-clause-steps g c =
    let exit = err_from_is_err_and c.from_residual.result c.from_residual.ensures.1 in
    rw (exit.1, exit.2) (ended _ _ _ _ _ (within _ _ _ _ _ c.in_err-given.ensures.step))

pub export_given-requires-clause-group : goal.export_given-requires-clause-group
export_given-requires-clause-group g c = given_distinct _ _ _ _ c.in_ok-given.ensures.step

pub returns-clause-steps : goal.returns-clause-steps
unfolding exports_command
returns-clause-steps g c = went _ _ _ _ _ _ _ (within _ _ _ _ _ c.in_ok-given.ensures.step) c.export_given.ensures.steps

pub returns-clause-stands : goal.returns-clause-stands
returns-clause-stands g c = stands_where_done _ _ _ _ (returns-clause-steps g c)
