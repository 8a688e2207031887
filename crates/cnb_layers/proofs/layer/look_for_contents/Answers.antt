use Rattle.std.proofs.lemmas.Result.{err_from_is_err_and}
use Rattle.steps.proofs.StepLemmas.{ended, went}
use Rattle.cnb_layers.specs.Layer.{looks_for_contents}
use Rattle.cnb_layers.proofs.ReadSteps.{given_answer}
use Rattle.cnb_layers.proofs.layer.look_for_contents.Goals as goal

pub returns-in_err-kind : goal.returns-in_err-kind
unfolding looks_for_contents
returns-in_err-kind g c =
    let exit = err_from_is_err_and c.from_residual.result c.from_residual.ensures.1 in
    rw (exit.1, exit.2) (record { step = ended _ _ _ _ _ c.in_err-kind.ensures.step })

pub returns : goal.returns
unfolding looks_for_contents
returns g c =
    record {
      step = went _ _ _ _ _ _ _ c.in_ok-kind.ensures.step
          (given_answer _ _ _ c.there_by.ensures.answer c.there_by.ensures.cause);
    }
