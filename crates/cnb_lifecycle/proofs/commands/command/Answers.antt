use Rattle.std.proofs.lemmas.Result.{err_from_is_err_and}
use Rattle.cnb_lifecycle.specs.Commands.{command_in}
use Rattle.cnb_lifecycle.proofs.CommandLemmas.{api_refused, served, words_cause, words_refused}
use Rattle.cnb_lifecycle.proofs.commands.command.Goals as goal

pub returns-in_err-asked-clause-command : goal.returns-in_err-asked-clause-command
unfolding command_in
returns-in_err-asked-clause-command c =
    let exit = err_from_is_err_and c.from_residual.result c.from_residual.ensures.1 in
    rw (exit.1, exit.2) (words_refused _ _ _ c.in_err-asked.ensures.words)

pub returns-in_err-asked-clause-cause : goal.returns-in_err-asked-clause-cause
returns-in_err-asked-clause-cause c =
    let exit = err_from_is_err_and c.from_residual.result c.from_residual.ensures.1 in
    rw (exit.1, exit.2) (words_cause _)

pub returns-in-Err-clause-command : goal.returns-in-Err-clause-command
unfolding command_in
returns-in-Err-clause-command c = api_refused _ _ _ _ c.in_ok-asked.ensures.words c.in-Err.ensures.command

pub returns-in-Err-clause-cause : goal.returns-in-Err-clause-cause
returns-in-Err-clause-cause c = c.in-Err.ensures.cause

pub returns-in-Ok-clause-command : goal.returns-in-Ok-clause-command
unfolding command_in
returns-in-Ok-clause-command c = served _ _ _ _ c.in_ok-asked.ensures.words c.in-Ok.ensures.command
