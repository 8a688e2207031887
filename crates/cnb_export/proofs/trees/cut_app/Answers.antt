use Rattle.std.proofs.Common.{ap, refl, sym, Ok}
use Rattle.std.proofs.lemmas.Result.{err_from_is_err_and}
use Rattle.steps.proofs.StepLemmas.{ended, given, mapped, mapped_fault, no_memory, went}
use Rattle.tree_store.specs.declared.fault.StoreFault.TheVariants as stored
use Rattle.cnb_layers.specs.declared.fault.ExportFault.TheVariants.{Store}
use Rattle.cnb_export.specs.Trees.{cuts_app}
use Rattle.cnb_export.proofs.trees.cut_app.Goals as goal

pub returns-in_err-tree : goal.returns-in_err-tree
unfolding cuts_app
returns-in_err-tree g c =
    let exit = err_from_is_err_and c.from_residual.result c.from_residual.ensures.1 in
    rw (exit.1, exit.2) (record {
      step = ended _ _ _ _ _
          (mapped_fault Store _ _ _ c.in_err-tree.field-0.0 c.in_err-tree.ensures.steps);
    })

pub returns-in_err-parts : goal.returns-in_err-parts
unfolding cuts_app
returns-in_err-parts g c =
    let exit = err_from_is_err_and c.from_residual-in_err-parts.result c.from_residual-in_err-parts.ensures.1 in
    rw (exit.1, exit.2) (record {
      step = went _ _ _ _ _ _ _ (mapped Store _ _ _ _ c.in_ok-tree.ensures.steps)
          (no_memory _ _ _ (Store stored.Memory) refl);
    })

pub returns : goal.returns
unfolding cuts_app
returns g c =
    record {
      step = went _ _ _ _ _ _ _ (mapped Store _ _ _ _ c.in_ok-tree.ensures.steps)
          (given _ _ _ _ (ap Ok (sym c.in_ok-parts.ensures.trees)));
    }
