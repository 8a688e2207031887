use Rattle.std.proofs.Common.{◌≡◌, ◌∙◌, ap, refl, sym, ◌∷◌, ◌++◌, [], Ok}
use Rattle.std.proofs.lemmas.Result.{err_from_is_err_and}
use Rattle.steps.proofs.StepLemmas.{ended, given, mapped, mapped_fault, no_memory, went}
use Rattle.tree_store.specs.declared.fault.StoreFault.TheVariants as stored
use Rattle.cnb_layers.specs.declared.fault.ExportFault.TheVariants.{Store}
use Rattle.cnb_export.specs.Trees.{puts_whole}
use Rattle.cnb_export.proofs.trees.put_whole.Goals as goal

pub returns-in_err-digest : goal.returns-in_err-digest
unfolding puts_whole
returns-in_err-digest g c =
    let exit = err_from_is_err_and c.from_residual.result c.from_residual.ensures.1 in
    rw (exit.1, exit.2) (record {
      step = ended _ _ _ _ _
          (mapped_fault Store _ _ _ c.in_err-digest.field-0.0 c.in_err-digest.ensures.steps);
    })

pub returns-in_err-push : goal.returns-in_err-push
unfolding puts_whole
returns-in_err-push g c =
    let exit = err_from_is_err_and c.from_residual-in_err-push.result c.from_residual-in_err-push.ensures.1 in
    rw (exit.1, exit.2) (record {
      step = went _ _ _ _ _ _ _ (mapped Store _ _ _ _ c.in_ok-digest.ensures.steps)
          (no_memory _ _ _ (Store stored.Memory) refl);
    })

pub returns : goal.returns
unfolding puts_whole
returns g c =
    let one : c.push.new.self ≡ c.in_ok-digest.digest ∷ [] = c.in_ok-push.ensures.ok
    ∙ ap (λ digests. digests ++ c.in_ok-digest.digest ∷ []) c.new-digests.ensures in
    record {
      step = went _ _ _ _ _ _ _ (mapped Store _ _ _ _ c.in_ok-digest.ensures.steps)
          (given _ _ _ _ (ap Ok (sym one)));
    }
