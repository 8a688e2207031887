use Rattle.std.proofs.Common.{ap, refl, sym, Ok}
use Rattle.std.proofs.lemmas.Result.{err_from_is_err_and}
use Rattle.steps.proofs.StepLemmas.{ended, given, no_memory, went}
use Rattle.tree_store.specs.declared.fault.StoreFault.TheVariants as stored
use Rattle.cnb_layers.specs.declared.fault.ExportFault.TheVariants.{Store}
use Rattle.cnb_layers.specs.Names.{reads_layer_names}
use Rattle.cnb_layers.proofs.names.read_layer_names.Goals as goal

pub returns-in_err-names : goal.returns-in_err-names
unfolding reads_layer_names
returns-in_err-names g c =
    let exit = err_from_is_err_and c.from_residual.result c.from_residual.ensures.1 in
    rw (exit.1, exit.2) (record { step = ended _ _ _ _ _ c.in_err-names.ensures.step })

pub returns-in_err-layers : goal.returns-in_err-layers
unfolding reads_layer_names
returns-in_err-layers g c =
    let exit = err_from_is_err_and c.from_residual-in_err-layers.result c.from_residual-in_err-layers.ensures.1 in
    rw (exit.1, exit.2) (record {
      step = went _ _ _ _ _ _ _ c.in_ok-names.ensures.step
          ((no_memory _ _ _ (Store stored.Memory) refl));
    })

pub returns : goal.returns
unfolding reads_layer_names
returns g c =
    record {
      step = went _ _ _ _ _ _ _ c.in_ok-names.ensures.step
          ((given _ _ _ _ (ap Ok (sym c.in_ok-layers.ensures))));
    }
