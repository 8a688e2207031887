use Rattle.std.proofs.lemmas.Result.{err_from_is_err_and}
use Rattle.steps.proofs.StepLemmas.{ended, went}
use Rattle.cnb_rebase.specs.Shows.{shows_command}
use Rattle.cnb_rebase.proofs.showing.show_command.Goals as goal

pub returns-in_err-image : goal.returns-in_err-image
unfolding shows_command
returns-in_err-image g c =
    let exit = err_from_is_err_and c.from_residual.result c.from_residual.ensures.1 in
    rw (exit.1, exit.2) (record { steps = ended _ _ _ _ _ c.in_err-image.ensures.step })

pub returns : goal.returns
unfolding shows_command
returns g c = record { steps = went _ _ _ _ _ _ _ c.in_ok-image.ensures.step (c.shown.ensures _) }
