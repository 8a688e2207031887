use Rattle.std.proofs.Common.{ap, refl, sym, Ok}
use Rattle.std.proofs.lemmas.Result.{err_from_is_err_and}
use Rattle.steps.proofs.StepLemmas.{ended, given, no_memory, went}
use Rattle.tree_store.specs.declared.fault.StoreFault.TheVariants as stored
use Rattle.cnb_layers.specs.declared.fault.ExportFault.TheVariants.{Store}
use Rattle.cnb_layers.specs.Buildpack.{reads_launch}
use Rattle.cnb_layers.proofs.ReadSteps.{given_answer}
use Rattle.cnb_layers.proofs.buildpack.read_launch.Goals as goal

pub returns-in_err-path : goal.returns-in_err-path
unfolding reads_launch
returns-in_err-path g c =
    let exit = err_from_is_err_and c.from_residual.result c.from_residual.ensures.1 in
    rw (exit.1, exit.2) (record { step = ended _ _ _ _ _ (no_memory _ _ _ (Store stored.Memory) refl) })

pub returns-in_err-launch : goal.returns-in_err-launch
unfolding reads_launch
returns-in_err-launch g c =
    let exit = err_from_is_err_and c.from_residual-in_err-launch.result c.from_residual-in_err-launch.ensures.1 in
    rw (exit.1, exit.2) (record {
      step = went _ _ _ _ _ _ _ (given _ _ _ _ (ap Ok (sym c.in_ok-path.ensures.0)))
          (ended _ _ _ _ _ c.in_err-launch.ensures.step);
    })

pub returns : goal.returns
unfolding reads_launch
returns g c =
    record {
      step = went _ _ _ _ _ _ _ (given _ _ _ _ (ap Ok (sym c.in_ok-path.ensures.0)))
          (went _ _ _ _ _ _ _ c.in_ok-launch.ensures.step
          (given_answer _ _ _ c.one_default.ensures.answer c.one_default.ensures.cause));
    }
