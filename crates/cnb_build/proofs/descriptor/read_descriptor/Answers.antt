use Rattle.std.proofs.lemmas.Result.{err_from_is_err_and}
use Rattle.steps.proofs.StepLemmas.{answered, ended, went}
use Rattle.cnb_build.specs.Descriptor.{reads_descriptor}
use Rattle.cnb_build.proofs.descriptor.read_descriptor.Goals as goal

pub returns-in_err-found : goal.returns-in_err-found
unfolding reads_descriptor
returns-in_err-found g c =
    let exit = err_from_is_err_and c.from_residual.result c.from_residual.ensures.1 in
    rw (exit.1, exit.2) (record { step = ended _ _ _ _ _ c.in_err-found.ensures.step })

pub returns : goal.returns
unfolding reads_descriptor
returns g c = record {
  step = went _ _ _ _ _ _ _ c.in_ok-found.ensures.step
      (answered _ _ _ _ c.clears_in.ensures.answer c.clears_in.ensures.cause);
}
