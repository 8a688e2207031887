use Rattle.std.proofs.Common.{ap, refl, sym, Ok}
use Rattle.std.proofs.lemmas.Result.{err_from_is_err_and}
use Rattle.steps.proofs.StepLemmas.{ended, given, no_memory, went}
use Rattle.tree_store.specs.declared.fault.StoreFault.TheVariants.{Memory}
use Rattle.cnb_rebase.specs.Bases.{puts_next}
use Rattle.cnb_rebase.proofs.making.put_next.Goals as goal

pub returns-in_err-digest : goal.returns-in_err-digest
unfolding puts_next
returns-in_err-digest g c =
    let exit = err_from_is_err_and c.from_residual.result c.from_residual.ensures.1 in
    rw (exit.1, exit.2) (record { step = (ended _ _ _ _ _ c.in_err-digest.ensures.steps) })

pub returns-in_err-push : goal.returns-in_err-push
unfolding puts_next
returns-in_err-push g c =
    let exit = err_from_is_err_and c.from_residual-in_err-push.result c.from_residual-in_err-push.ensures.1 in
    rw (exit.1, exit.2) (record {
      step = (went _ _ _ _ _ _ _ c.in_ok-digest.ensures.steps
          (no_memory _ _ _ Memory refl));
    })

pub returns : goal.returns
unfolding puts_next
returns g c = record {
  step = went _ _ _ _ _ _ _ c.in_ok-digest.ensures.steps
      (given _ _ _ _ (ap Ok (sym c.in_ok-push.ensures.ok)));
}
