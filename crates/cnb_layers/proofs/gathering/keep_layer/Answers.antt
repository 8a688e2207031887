use Rattle.std.proofs.Common.{ap, refl, sym, Ok}
use Rattle.std.proofs.lemmas.Result.{err_from_is_err_and}
use Rattle.steps.proofs.StepLemmas.{ended, given, no_memory, went, yielded}
use Rattle.tree_store.specs.declared.fault.StoreFault.TheVariants as stored
use Rattle.cnb_layers.specs.declared.fault.ExportFault.{ExportFault}
use Rattle.cnb_layers.specs.declared.fault.ExportFault.TheVariants.{Store}
use Rattle.cnb_layers.specs.Gathering.{keeps_found, keeps_layer}
use Rattle.cnb_layers.proofs.ReadSteps.{same_for}
use Rattle.cnb_layers.proofs.gathering.keep_layer.Goals as goal

pub returns-in_err-document : goal.returns-in_err-document
unfolding keeps_layer
returns-in_err-document g c =
    let exit = err_from_is_err_and c.from_residual.result c.from_residual.ensures.1 in
    rw (exit.1, exit.2) (record { step = ended _ _ _ _ _ (no_memory _ _ _ (Store stored.Memory) refl) })

pub returns-in_err-doc : goal.returns-in_err-doc
unfolding keeps_layer
returns-in_err-doc g c =
    let exit = err_from_is_err_and c.from_residual-in_err-doc.result c.from_residual-in_err-doc.ensures.1 in
    rw (exit.1, exit.2) (record {
      step = went _ _ _ _ _ _ _ (given _ _ _ _ (ap Ok (sym c.in_ok-document.ensures)))
          (ended _ _ _ _ _ c.in_err-doc.ensures.step);
    })

pub returns-in-Some : goal.returns-in-Some
unfolding keeps_layer
returns-in-Some g c =
    record {
      step = went _ _ _ _ _ _ _ (given _ _ _ _ (ap Ok (sym c.in_ok-document.ensures)))
          (went _ _ _ _ _ _ _ c.in_ok-doc.ensures.step (same_for
          (keeps_found c.args.frame.now.store.now c.args.frame.now.previous.now c.args.frame.now.id.now
          c.args.frame.now.folder.now c.args.layer.now) _ _ _ _ _
          (sym c.in-Some.is) c.keep_documented.ensures.step));
    }

pub returns : goal.returns
unfolding keeps_layer
returns g c =
    record {
      step = went _ _ _ _ _ _ _ (given _ _ _ _ (ap Ok (sym c.in_ok-document.ensures)))
          (went _ _ _ _ _ _ _ c.in_ok-doc.ensures.step (same_for
          (keeps_found c.args.frame.now.store.now c.args.frame.now.previous.now c.args.frame.now.id.now
          c.args.frame.now.folder.now c.args.layer.now) _ _ _ _ _ (sym c.in-None.is) (yielded ExportFault _ _)));
    }
