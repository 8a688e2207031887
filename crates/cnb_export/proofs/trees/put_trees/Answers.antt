use Rattle.std.proofs.Common.{ap, refl, sym, Ok}
use Rattle.std.proofs.lemmas.Result.{err_from_is_err_and}
use Rattle.steps.proofs.StepLemmas.{ended, given, mapped, mapped_fault, no_memory, went, yielded}
use Rattle.tree_store.specs.declared.fault.StoreFault.TheVariants as stored
use Rattle.cnb_layers.specs.declared.fault.ExportFault.TheVariants.{Store}
use Rattle.cnb_export.specs.Trees.{puts_process, puts_trees}
use Rattle.cnb_layers.specs.declared.fault.ExportFault.{ExportFault}
use Rattle.cnb_layers.proofs.ReadSteps.{same_for}
use Rattle.cnb_export.proofs.trees.put_trees.Goals as goal

pub returns-in_err-app : goal.returns-in_err-app
unfolding puts_trees
returns-in_err-app g c =
    let exit = err_from_is_err_and c.from_residual.result c.from_residual.ensures.1 in
    rw (exit.1, exit.2) (record { step = ended _ _ _ _ _ c.in_err-app.ensures.step })

pub returns-in_err-launcher : goal.returns-in_err-launcher
unfolding puts_trees
returns-in_err-launcher g c =
    let exit = err_from_is_err_and c.from_residual-in_err-launcher.result c.from_residual-in_err-launcher.ensures.1 in
    rw (exit.1, exit.2) (record {
      step = went _ _ _ _ _ _ _ c.in_ok-app.ensures.step
          (ended _ _ _ _ _ (mapped_fault Store _ _ _ c.in_err-launcher.field-0.0
          c.in_err-launcher.ensures.steps));
    })

pub returns-in_err-last : goal.returns-in_err-last
unfolding puts_trees
returns-in_err-last g c =
    let exit = err_from_is_err_and c.from_residual-in_err-last.result c.from_residual-in_err-last.ensures.1 in
    rw (exit.1, exit.2) (record {
      step = went _ _ _ _ _ _ _ c.in_ok-app.ensures.step
          (went _ _ _ _ _ _ _ (mapped Store _ _ _ _ c.in_ok-launcher.ensures.steps)
          (ended _ _ _ _ _ (no_memory _ _ _ (Store stored.Memory) refl)));
    })

pub returns-in_err-process : goal.returns-in_err-process
unfolding puts_trees
returns-in_err-process g c =
    let exit = err_from_is_err_and c.from_residual-in_err-process.result c.from_residual-in_err-process.ensures.1 in
    rw (exit.1, exit.2) (record {
      step = went _ _ _ _ _ _ _ c.in_ok-app.ensures.step
          (went _ _ _ _ _ _ _ (mapped Store _ _ _ _ c.in_ok-launcher.ensures.steps)
          (went _ _ _ _ _ _ _ (given _ _ _ _ (ap Ok (sym c.in_ok-last.ensures)))
          (ended _ _ _ _ _ (same_for (puts_process c.args.frame.now.store) _ _ _ _ _ c.as_slice.ensures
          c.in_err-process.ensures.step))));
    })

pub returns : goal.returns
unfolding puts_trees
returns g c =
    record {
      step = went _ _ _ _ _ _ _ c.in_ok-app.ensures.step
          (went _ _ _ _ _ _ _ (mapped Store _ _ _ _ c.in_ok-launcher.ensures.steps)
          (went _ _ _ _ _ _ _ (given _ _ _ _ (ap Ok (sym c.in_ok-last.ensures)))
          (went _ _ _ _ _ _ _ (same_for (puts_process c.args.frame.now.store) _ _ _ _ _ c.as_slice.ensures
          c.in_ok-process.ensures.step) (yielded ExportFault _ _))));
    }
