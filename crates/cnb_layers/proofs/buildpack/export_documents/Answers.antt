use Rattle.std.proofs.lemmas.Result.{err_from_is_err_and}
use Rattle.steps.proofs.StepLemmas.{ended, went}
use Rattle.cnb_layers.specs.Buildpack.{exports_documents}
use Rattle.cnb_layers.specs.Patterns.{reads_slices}
use Rattle.cnb_layers.proofs.ReadSteps.{same_for}
use Rattle.cnb_layers.proofs.buildpack.export_documents.Goals as goal

pub returns-in_err-launch : goal.returns-in_err-launch
unfolding exports_documents
returns-in_err-launch g c =
    let exit = err_from_is_err_and c.from_residual.result c.from_residual.ensures.1 in
    rw (exit.1, exit.2) (record { step = ended _ _ _ _ _ c.in_err-launch.ensures.step })

pub returns-in_err-slices : goal.returns-in_err-slices
unfolding exports_documents
returns-in_err-slices g c =
    let exit = err_from_is_err_and c.from_residual-in_err-slices.result c.from_residual-in_err-slices.ensures.1 in
    rw (exit.1, exit.2) (record {
      step = went _ _ _ _ _ _ _ c.in_ok-launch.ensures.step
          (ended _ _ _ _ _ (same_for (reads_slices c.args.frame.now.id.now) _ _ _ _ _ c.as_slice.ensures
          (c.in_err-slices.ensures.step _)));
    })

pub returns : goal.returns
unfolding exports_documents
returns g c =
    record {
      step = went _ _ _ _ _ _ _ c.in_ok-launch.ensures.step
          (went _ _ _ _ _ _ _ (same_for (reads_slices c.args.frame.now.id.now) _ _ _ _ _ c.as_slice.ensures
          (c.in_ok-slices.ensures.step _)) c.export_store_document.ensures.step);
    }
