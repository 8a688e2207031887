use Rattle.std.proofs.Common.{ap, refl, sym, Ok}
use Rattle.std.proofs.lemmas.Result.{err_from_is_err_and}
use Rattle.steps.proofs.StepLemmas.{ended, given, no_memory, went}
use Rattle.tree_store.specs.declared.fault.StoreFault.TheVariants as stored
use Rattle.cnb_layers.specs.declared.fault.ExportFault.TheVariants.{Store}
use Rattle.cnb_layers.specs.Buildpack.{exports_buildpack}
use Rattle.cnb_layers.proofs.buildpack.export_buildpack.Goals as goal

pub returns-in_err-folder : goal.returns-in_err-folder
unfolding exports_buildpack
returns-in_err-folder g c =
    let exit = err_from_is_err_and c.from_residual.result c.from_residual.ensures.1 in
    rw (exit.1, exit.2) (record { step = ended _ _ _ _ _ (no_memory _ _ _ (Store stored.Memory) refl) })

pub returns-in_err-documents : goal.returns-in_err-documents
unfolding exports_buildpack
returns-in_err-documents g c =
    let exit = err_from_is_err_and c.from_residual-in_err-documents.result c.from_residual-in_err-documents.ensures.1 in
    rw (exit.1, exit.2) (record {
      step = went _ _ _ _ _ _ _
          (given _ _ _ _ (ap Ok (sym c.in_ok-folder.ensures.path)))
          (ended _ _ _ _ _ c.in_err-documents.ensures.step);
    })

pub returns : goal.returns
unfolding exports_buildpack
returns g c =
    record {
      step = went _ _ _ _ _ _ _ (given _ _ _ _ (ap Ok (sym c.in_ok-folder.ensures.path)))
          (went _ _ _ _ _ _ _ c.in_ok-documents.ensures.step c.export_layers.ensures.step);
    }
