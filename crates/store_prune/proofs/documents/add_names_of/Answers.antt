use Rattle.std.proofs.Common.{◌∙◌, ◌++◌, ap, refl, sym, Ok}
use Rattle.std.proofs.lemmas.Result.{err_from_is_err_and}
use Rattle.steps.proofs.StepLemmas.{ended, given, no_memory, went}
use Rattle.store_prune.specs.Named.{adds_where}
use Rattle.store_prune.specs.declared.fault.PruneFault.TheVariants.{Memory}
use Rattle.store_prune.proofs.documents.add_names_of.Goals as goal

pub returns-in_err-more : goal.returns-in_err-more
unfolding adds_where
returns-in_err-more g c =
    let exit = err_from_is_err_and c.from_residual.result c.from_residual.ensures.1 in
    rw (exit.1, exit.2) (record { steps = ended _ _ _ _ _ c.in_err-more.ensures.steps })

pub returns-in_err-push_all : goal.returns-in_err-push_all
unfolding adds_where
returns-in_err-push_all g c =
    let exit = err_from_is_err_and c.from_residual-in_err-push_all.result c.from_residual-in_err-push_all.ensures.1 in
    rw (exit.1, exit.2) (record { steps = went _ _ _ _ _ _ _ c.in_ok-more.ensures.steps (no_memory _ _ _ Memory refl) })

pub returns : goal.returns
unfolding adds_where
returns g c = record {
  steps = went _ _ _ _ _ _ _ c.in_ok-more.ensures.steps
      (given _ _ _ _ (ap Ok (sym (c.in_ok-push_all.ensures ∙ ap
      (λ more. c.args.named ++ more) c.as_slice.ensures))));
}
