use Rattle.std.proofs.Common.{[], subst}
use Rattle.std.specs.Prelude.{unwrap_or}
use Rattle.cnb_toml.specs.Reading.{Answers}
use Rattle.run_docs.specs.Launch.{launch_in}
use Rattle.cnb_layers.proofs.ReadSteps.{answered_at, given_answer}
use Rattle.std.proofs.lemmas.Result.{err_from_is_err_and}
use Rattle.steps.proofs.StepLemmas.{ended, went}
use Rattle.cnb_layers.specs.Reading.{reads_as}
use Rattle.cnb_layers.proofs.reading.read_launch_toml.Goals as goal

pub returns-in_err-found : goal.returns-in_err-found
unfolding reads_as
returns-in_err-found g c =
    let exit = err_from_is_err_and c.from_residual.result c.from_residual.ensures.1 in
    rw (exit.1, exit.2) (record { step = ended _ _ _ _ _ c.in_err-found.ensures.step })

pub returns : goal.returns
unfolding reads_as
returns g c =
    record {
      step = went _ _ _ _ _ _ _ c.in_ok-found.ensures.step
          (given_answer _ _ _ (answered_at c.args.path.now c.read_launch.result
          (launch_in (unwrap_or c.in_ok-found.found [])) c.value_at.result
          (subst (λ bytes. Answers c.read_launch.result (launch_in bytes)) c.bytes_of.ensures c.read_launch.ensures)
          c.value_at.ensures.answer) c.value_at.ensures.cause);
    }
