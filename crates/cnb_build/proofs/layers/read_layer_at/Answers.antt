use Rattle.std.proofs.lemmas.Result.{err_from_is_err_and}
use Rattle.steps.proofs.StepLemmas.{answered, ended, went}
use Rattle.cnb_build.specs.Layers.{reads_layer}
use Rattle.std.proofs.Common.{true}
use Rattle.cnb_world.specs.Tree.{item_at}
use Rattle.cnb_env.specs.Contents.{contents_of}
use Rattle.steps.specs.Causes.{Only}
use Rattle.cnb_build.proofs.BuildSteps.{not_read, reads_same}
use Rattle.cnb_build.proofs.layers.read_layer_at.Goals as goal

pub returns-in_err-path-clause-step : goal.returns-in_err-path-clause-step
unfolding reads_layer
returns-in_err-path-clause-step g c =
    let exit = err_from_is_err_and c.from_residual.result c.from_residual.ensures.1 in
    rw (exit.1, exit.2) (ended _ _ _ _ _ (not_read _ _ _ _))

pub returns-in_err-document-clause-step : goal.returns-in_err-document-clause-step
unfolding reads_layer
returns-in_err-document-clause-step g c =
    let exit = err_from_is_err_and c.from_residual-in_err-document.result c.from_residual-in_err-document.ensures.1 in
    rw (exit.1, exit.2) (ended _ _ _ _ _ (reads_same Only (λ path files. true)
    (λ path files. contents_of (item_at files path)) _ _ _ _ _ c.in_ok-path.ensures
    c.in_err-document.ensures.step))

pub returns-clause-step : goal.returns-clause-step
unfolding reads_layer
returns-clause-step g c =
    went _ _ _ _ _ _ _ (reads_same Only (λ path files. true)
    (λ path files. contents_of (item_at files path)) _ _ _ _ _ c.in_ok-path.ensures
    c.in_ok-document.ensures.step) (answered _ _ _ _ c.found_with.ensures.answer c.found_with.ensures.cause)
