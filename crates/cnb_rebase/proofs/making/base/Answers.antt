use Rattle.std.proofs.Common.{refl}
use Rattle.std.proofs.lemmas.Result.{err_from_is_err_and}
use Rattle.steps.proofs.StepLemmas.{ended, given, no_memory, went}
use Rattle.tree_store.specs.declared.fault.StoreFault.TheVariants.{Memory}
use Rattle.cnb_rebase.specs.Bases.{makes_base}
use Rattle.cnb_rebase.proofs.BaseLemmas.{run_doc}
use Rattle.cnb_rebase.proofs.ReadableLemmas.{folders_filled, made_readable}
use Rattle.cnb_rebase.proofs.making.base.Goals as goal

pub returns-in_err-rows-clause-steps : goal.returns-in_err-rows-clause-steps
unfolding makes_base
returns-in_err-rows-clause-steps g c =
    let exit = err_from_is_err_and c.from_residual.result c.from_residual.ensures.1 in
    rw (exit.1, exit.2) (ended _ _ _ _ _ c.in_err-rows.ensures.steps)

pub returns-in_err-os-clause-steps : goal.returns-in_err-os-clause-steps
unfolding makes_base
returns-in_err-os-clause-steps g c =
    let exit = err_from_is_err_and c.from_residual-in_err-os.result c.from_residual-in_err-os.ensures.1 in
    rw (exit.1, exit.2) (went _ _ _ _ _ _ _ c.in_ok-rows.ensures.steps (no_memory _ _ _ Memory refl))

pub returns-in_err-arch-clause-steps : goal.returns-in_err-arch-clause-steps
unfolding makes_base
returns-in_err-arch-clause-steps g c =
    let exit = err_from_is_err_and c.from_residual-in_err-arch.result c.from_residual-in_err-arch.ensures.1 in
    rw (exit.1, exit.2) (went _ _ _ _ _ _ _ c.in_ok-rows.ensures.steps (no_memory _ _ _ Memory refl))

pub returns-clause-steps : goal.returns-clause-steps
unfolding makes_base
returns-clause-steps g c = went _ _ _ _ _ _ _ c.in_ok-rows.ensures.steps
    (given _ _ _ _ (run_doc _ _ _ _ _ _ c.in_ok-os.ensures c.in_ok-arch.ensures c.new-env.ensures))

pub returns-clause-readable : goal.returns-clause-readable
returns-clause-readable g c = λ is-os is-arch some. made_readable _ _ _ _ _ _ c.in_ok-os.ensures
    c.in_ok-arch.ensures c.new-env.ensures is-os is-arch
    (folders_filled _ _ _ _ _ some c.in_ok-rows.ensures.steps)
