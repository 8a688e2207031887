use Rattle.std.proofs.lemmas.Result.{err_from_is_err_and}
use Rattle.steps.proofs.StepLemmas.{ended, went}
use Rattle.cnb_layers.specs.Layer.{reads_layer}
use Rattle.cnb_layers.proofs.ReadSteps.{given_answer}
use Rattle.cnb_layers.proofs.layer.read_layer_document.Goals as goal

pub returns-in_err-found : goal.returns-in_err-found
unfolding reads_layer
returns-in_err-found g c =
    let exit = err_from_is_err_and c.from_residual.result c.from_residual.ensures.1 in
    rw (exit.1, exit.2) (record { step = ended _ _ _ _ _ c.in_err-found.ensures.step })

pub returns : goal.returns
unfolding reads_layer
returns g c =
    record {
      step = went _ _ _ _ _ _ _ c.in_ok-found.ensures.step
          (given_answer _ _ _ c.layer_value.ensures.answer c.layer_value.ensures.cause);
    }
