use Rattle.std.proofs.lemmas.Result.{err_from_is_err_and}
use Rattle.steps.proofs.StepLemmas.{ended, went}
use Rattle.cnb_layers.specs.Buildpack.{exports_layers}
use Rattle.cnb_layers.proofs.ReadSteps.{all_same}
use Rattle.cnb_layers.proofs.buildpack.export_layers.Goals as goal

pub returns-in_err-names : goal.returns-in_err-names
unfolding exports_layers
returns-in_err-names g c =
    let exit = err_from_is_err_and c.from_residual.result c.from_residual.ensures.1 in
    rw (exit.1, exit.2) (record { step = ended _ _ _ _ _ c.in_err-names.ensures.step })

pub returns : goal.returns
unfolding exports_layers
returns g c =
    record {
      step = went _ _ _ _ _ _ _ c.in_ok-names.ensures.step
          (all_same _ _ _ _ _ _ _ c.as_slice.ensures c.export_each.ensures.step);
    }
