use Rattle.std.proofs.Common.{subst, []}
use Rattle.std.proofs.lemmas.Result.{err_from_is_err_and}
use Rattle.std.specs.Prelude.{unwrap_or}
use Rattle.cnb_toml.specs.Reading.{Answers}
use Rattle.run_docs.specs.Store.{store_in}
use Rattle.steps.proofs.StepLemmas.{answered, ended, went}
use Rattle.cnb_build.specs.Reading.{reads_as}
use Rattle.cnb_build.proofs.BuildSteps.{answered_at}
use Rattle.cnb_build.proofs.leaving.read_store_toml.Goals as goal

pub returns-in_err-found : goal.returns-in_err-found
unfolding reads_as
returns-in_err-found g c =
    let exit = err_from_is_err_and c.from_residual.result c.from_residual.ensures.1 in
    rw (exit.1, exit.2) (record { step = ended _ _ _ _ _ c.in_err-found.ensures.step })

pub returns : goal.returns
unfolding reads_as
returns g c =
    let read = subst (λ bytes. Answers c.read_store.result (store_in bytes)) c.bytes_of.ensures c.read_store.ensures in
    record {
      step = went _ _ _ _ _ _ _ c.in_ok-found.ensures.step
          (answered _ _ _ _ (answered_at c.args.path.now c.read_store.result
          (store_in (unwrap_or c.in_ok-found.found [])) c.value_at.result read c.value_at.ensures.answer)
          c.value_at.ensures.cause);
    }
