use Rattle.std.proofs.Common.{◌∙◌, ap, length, map, refl, sym, Ok}
use Rattle.std.proofs.lemmas.Result.{err_from_is_err_and}
use Rattle.steps.proofs.StepLemmas.{ended, given, no_memory, went}
use Rattle.tree_store.specs.declared.fault.StoreFault.TheVariants.{Memory}
use Rattle.store_prune.specs.Digests.{distinct}
use Rattle.store_prune.specs.Verifies.{checks_image}
use Rattle.store_prune.specs.declared.fault.VerifyFault.TheVariants.{Store}
use Rattle.store_prune.proofs.VerifySteps.{checked_at, counted}
use Rattle.store_prune.proofs.verifying.check_image.Goals as goal

pub returns-in_err-digests : goal.returns-in_err-digests
unfolding checks_image
returns-in_err-digests g c =
    let exit = err_from_is_err_and c.from_residual.result c.from_residual.ensures.1 in
    rw (exit.1, exit.2) (record { steps = ended _ _ _ _ _ (no_memory _ _ _ (Store Memory) refl) })

pub returns-in_err-check_all : goal.returns-in_err-check_all
unfolding checks_image
returns-in_err-check_all g c =
    let exit = err_from_is_err_and c.from_residual-in_err-check_all.result c.from_residual-in_err-check_all.ensures.1 in
    let rows = c.in_ok-digests.ensures ∙ ap (λ rows. distinct (map (λ row. row.digest) rows)) c.as_slice.ensures in
    rw (exit.1, exit.2) (record {
      steps = went _ _ _ _ _ _ _ (given _ _ _ _ (ap Ok (sym rows)))
          (ended _ _ _ _ _ (checked_at _ _ _ _ _ _ c.as_slice-found.ensures c.in_err-check_all.ensures.steps));
    })

pub returns : goal.returns
unfolding checks_image
returns g c =
    let rows = c.in_ok-digests.ensures ∙ ap (λ rows. distinct (map (λ row. row.digest) rows)) c.as_slice.ensures in
    record {
      steps = went _ _ _ _ _ _ _ (given _ _ _ _ (ap Ok (sym rows)))
          (went _ _ _ _ _ _ _ (checked_at _ _ _ _ _ _ c.as_slice-found.ensures c.in_ok-check_all.ensures.steps)
          (counted _ _ _ (ap length c.as_slice-found.ensures)));
    }
