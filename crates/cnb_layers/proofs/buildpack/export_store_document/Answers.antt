use Rattle.std.proofs.Common.{ap, refl, sym, Ok}
use Rattle.std.proofs.lemmas.Result.{err_from_is_err_and}
use Rattle.steps.proofs.StepLemmas.{ended, given, no_memory, went}
use Rattle.tree_store.specs.declared.fault.StoreFault.TheVariants as stored
use Rattle.cnb_layers.specs.declared.fault.ExportFault.TheVariants.{Store}
use Rattle.cnb_layers.specs.Buildpack.{exports_store_document}
use Rattle.cnb_layers.proofs.buildpack.export_store_document.Goals as goal

pub returns-in_err-store_document : goal.returns-in_err-store_document
unfolding exports_store_document
returns-in_err-store_document g c =
    let exit = err_from_is_err_and c.from_residual.result c.from_residual.ensures.1 in
    rw (exit.1, exit.2) (record { step = ended _ _ _ _ _ c.in_err-store_document.ensures.step })

pub returns-in_err-all : goal.returns-in_err-all
unfolding exports_store_document
returns-in_err-all g c =
    let exit = err_from_is_err_and c.from_residual-in_err-all.result c.from_residual-in_err-all.ensures.1 in
    rw (exit.1, exit.2) (record {
      step = went _ _ _ _ _ _ _ c.in_ok-store_document.ensures.step
          (no_memory _ _ _ (Store stored.Memory) refl);
    })

pub returns : goal.returns
unfolding exports_store_document
returns g c = record {
  step = went _ _ _ _ _ _ _ c.in_ok-store_document.ensures.step
      (given _ _ _ _ (ap Ok (sym c.in_ok-all.ensures)));
}
