use Rattle.std.proofs.lemmas.Result.{err_from_is_err_and}
use Rattle.steps.proofs.StepLemmas.{ended, went}
use Rattle.cnb_layers.specs.Reading.{reads_some}
use Rattle.cnb_layers.proofs.ReadSteps.{given_answer}
use Rattle.cnb_layers.proofs.reading.read_store_toml.Goals as goal

pub returns-in_err-found : goal.returns-in_err-found
unfolding reads_some
returns-in_err-found g c =
    let exit = err_from_is_err_and c.from_residual.result c.from_residual.ensures.1 in
    rw (exit.1, exit.2) (record { step = ended _ _ _ _ _ c.in_err-found.ensures.step })

pub returns : goal.returns
unfolding reads_some
returns g c =
    record {
      step = went _ _ _ _ _ _ _ c.in_ok-found.ensures.step
          (given_answer _ _ _ c.store_value.ensures.answer c.store_value.ensures.cause);
    }
