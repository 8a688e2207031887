use Rattle.std.proofs.Common.{ap, refl, sym, Ok}
use Rattle.std.proofs.lemmas.Result.{err_from_is_err_and}
use Rattle.steps.proofs.StepLemmas.{ended, given, no_memory, went}
use Rattle.tree_store.specs.declared.fault.StoreFault.TheVariants as stored
use Rattle.cnb_layers.specs.declared.fault.ExportFault.TheVariants.{Store}
use Rattle.cnb_create.specs.Creates.{exports_image}
use Rattle.cnb_create.proofs.exporting.export_image.Goals as goal

pub returns-in_err-frame-clause-steps : goal.returns-in_err-frame-clause-steps
unfolding exports_image
returns-in_err-frame-clause-steps g c =
    let exit = err_from_is_err_and c.from_residual.result c.from_residual.ensures.1 in
    rw (exit.1, exit.2) (ended _ _ _ _ _ (no_memory _ _ _ (Store stored.Memory) refl))

pub returns-in_err-exported-clause-steps : goal.returns-in_err-exported-clause-steps
unfolding exports_image
returns-in_err-exported-clause-steps g c =
    let exit = err_from_is_err_and c.from_residual-in_err-exported.result c.from_residual-in_err-exported.ensures.1 in
    rw (exit.1, exit.2) (went _ _ _ _ _ _ _ (given _ _ _ _ (ap Ok (sym c.in_ok-frame.ensures.frame)))
    c.in_err-exported.ensures.steps)

pub returns-clause-steps : goal.returns-clause-steps
unfolding exports_image
returns-clause-steps g c = went _ _ _ _ _ _ _ (given _ _ _ _ (ap Ok (sym c.in_ok-frame.ensures.frame)))
    c.in_ok-exported.ensures.steps
