use Rattle.std.proofs.lemmas.Result.{err_from_is_err_and}
use Rattle.cnb_lifecycle.specs.PhaseFaults.{of_launch}
use Rattle.cnb_lifecycle.specs.declared.answer.Answer.TheVariants.{Launched}
use Rattle.cnb_lifecycle.proofs.TellingLemmas.{told, told_fault}
use Rattle.cnb_lifecycle.proofs.launching.run_launch.Goals as goal

pub returns-in_err-code : goal.returns-in_err-code
returns-in_err-code g c =
    let exit = err_from_is_err_and c.from_residual.result c.from_residual.ensures.1 in
    rw (exit.1, exit.2) (record { steps = told_fault Launched of_launch _ _ _ _ c.in_err-code.ensures.steps })

pub returns : goal.returns
returns g c = record { steps = told Launched of_launch _ _ _ _ c.in_ok-code.ensures.steps }
