use Rattle.std.proofs.Common.{ap, refl, sym, Ok}
use Rattle.std.proofs.lemmas.Result.{err_from_is_err_and}
use Rattle.steps.proofs.StepLemmas.{ended, given, no_memory, went}
use Rattle.tree_store.specs.declared.fault.StoreFault.TheVariants as stored
use Rattle.cnb_layers.specs.declared.fault.ExportFault.TheVariants.{Store}
use Rattle.cnb_layers.specs.Buildpack.{reads_store_document}
use Rattle.cnb_layers.proofs.buildpack.read_store_document.Goals as goal

pub returns-in_err-path : goal.returns-in_err-path
unfolding reads_store_document
returns-in_err-path g c =
    let exit = err_from_is_err_and c.from_residual.result c.from_residual.ensures.1 in
    rw (exit.1, exit.2) (record { step = ended _ _ _ _ _ (no_memory _ _ _ (Store stored.Memory) refl) })

pub returns : goal.returns
unfolding reads_store_document
returns g c =
    record {
      step = went _ _ _ _ _ _ _ (given _ _ _ _ (ap Ok (sym c.in_ok-path.ensures.0)))
          c.read_store_toml.ensures.step;
    }
