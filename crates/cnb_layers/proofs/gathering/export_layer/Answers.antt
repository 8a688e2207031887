use Rattle.std.proofs.Common.{◌∙◌, ap, refl, sym, Ok}
use Rattle.std.proofs.lemmas.Result.{err_from_is_err_and}
use Rattle.steps.proofs.StepLemmas.{ended, given, no_memory, went}
use Rattle.tree_store.specs.declared.fault.StoreFault.TheVariants as stored
use Rattle.cnb_layers.specs.declared.fault.ExportFault.TheVariants.{Store}
use Rattle.cnb_layers.specs.Gathering.{exports_layer, with_kept}
use Rattle.cnb_layers.proofs.gathering.export_layer.Goals as goal

pub returns-in_err-kept : goal.returns-in_err-kept
unfolding exports_layer
returns-in_err-kept g c =
    let exit = err_from_is_err_and c.from_residual.result c.from_residual.ensures.1 in
    rw (exit.1, exit.2) (record { step = ended _ _ _ _ _ c.in_err-kept.ensures.step })

pub returns-in_err-all-in-Some : goal.returns-in_err-all-in-Some
unfolding exports_layer
returns-in_err-all-in-Some g c =
    let exit = err_from_is_err_and c.from_residual-in_err-all-in-Some.result
    c.from_residual-in_err-all-in-Some.ensures.1 in
    rw (exit.1, exit.2) (record {
      step = went _ _ _ _ _ _ _ c.in_ok-kept.ensures.step
          (no_memory _ _ _ (Store stored.Memory) refl);
    })

pub returns-in_ok-all-in-Some : goal.returns-in_ok-all-in-Some
unfolding exports_layer
returns-in_ok-all-in-Some g c =
    record {
      step = went _ _ _ _ _ _ _ c.in_ok-kept.ensures.step
          (given _ _ _ _ (ap Ok (sym (c.in_ok-all-in-Some.ensures
          ∙ ap (with_kept c.args.gathered) (sym c.in-Some.is)))));
    }

pub returns-in-None : goal.returns-in-None
unfolding exports_layer
returns-in-None g c =
    record {
      step = went _ _ _ _ _ _ _ c.in_ok-kept.ensures.step
          (given _ _ _ _ (ap Ok (ap (with_kept c.args.gathered) c.in-None.is)));
    }
