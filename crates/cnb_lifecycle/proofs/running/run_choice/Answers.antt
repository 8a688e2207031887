use Rattle.std.proofs.lemmas.Result.{err_from_is_err_and}
use Rattle.cnb_lifecycle.specs.declared.answer.Answer.TheVariants.{Printed}
use Rattle.cnb_lifecycle.proofs.TellingLemmas.{told, told_fault}
use Rattle.cnb_lifecycle.specs.Faults.{of_detect}
use Rattle.cnb_lifecycle.proofs.running.run_choice.Goals as goal

pub returns-in_err-text : goal.returns-in_err-text
returns-in_err-text g c =
    let exit = err_from_is_err_and c.from_residual.result c.from_residual.ensures.1 in
    rw (exit.1, exit.2) (record { steps = told_fault Printed of_detect _ _ _ _ c.in_err-text.ensures.steps })

pub returns : goal.returns
returns g c = record { steps = told Printed of_detect _ _ _ _ c.in_ok-text.ensures.steps }
