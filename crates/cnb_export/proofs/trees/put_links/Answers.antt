use Rattle.std.proofs.lemmas.Result.{err_from_is_err_and}
use Rattle.steps.proofs.StepLemmas.{ended, given, given_fault, mapped, mapped_fault, went, yielded}
use Rattle.cnb_layers.specs.declared.fault.ExportFault.{ExportFault}
use Rattle.cnb_layers.specs.declared.fault.ExportFault.TheVariants.{Store}
use Rattle.cnb_export.specs.Trees.{puts_links}
use Rattle.cnb_export.proofs.trees.put_links.Goals as goal

pub returns-in_err-tree : goal.returns-in_err-tree
unfolding puts_links
returns-in_err-tree g c =
    let exit = err_from_is_err_and c.from_residual.result c.from_residual.ensures.1 in
    rw (exit.1, exit.2) (record {
      step = ended _ _ _ _ _
          (given_fault _ _ _ c.in_err-tree.field-0.0 c.in_err-tree.ensures.answer c.in_err-tree.ensures.cause);
    })

pub returns-in_err-digest : goal.returns-in_err-digest
unfolding puts_links
returns-in_err-digest g c =
    let exit = err_from_is_err_and c.from_residual-in_err-digest.result c.from_residual-in_err-digest.ensures.1 in
    rw (exit.1, exit.2) (record {
      step = went _ _ _ _ _ _ _ (given _ _ _ _ c.in_ok-tree.ensures.answer)
          (ended _ _ _ _ _ (mapped_fault Store _ _ _ c.in_err-digest.field-0.0 c.in_err-digest.ensures.steps));
    })

pub returns : goal.returns
unfolding puts_links
returns g c =
    record {
      step = went _ _ _ _ _ _ _ (given _ _ _ _ c.in_ok-tree.ensures.answer)
          (went _ _ _ _ _ _ _ (mapped Store _ _ _ _ c.in_ok-digest.ensures.steps) (yielded ExportFault _ _));
    }
