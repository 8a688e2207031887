use Rattle.std.proofs.lemmas.Result.{err_from_is_err_and}
use Rattle.cnb_layers.proofs.ReadSteps.{given_cause}
use Rattle.cnb_layers.proofs.reading.value_at.Goals as goal

pub returns-in_err-value-clause-cause : goal.returns-in_err-value-clause-cause
returns-in_err-value-clause-cause g c =
    let exit = err_from_is_err_and c.from_residual.result c.from_residual.ensures.1 in
    rw (exit.1, exit.2) (given_cause g.row.T.Denot c.in_err-value.field-0.0 c.in_err-value.ensures.files)
