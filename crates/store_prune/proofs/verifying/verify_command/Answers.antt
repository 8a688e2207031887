use Rattle.std.proofs.Common.{ap, refl, sym, Ok}
use Rattle.std.proofs.lemmas.Result.{err_from_is_err_and}
use Rattle.steps.proofs.StepLemmas.{ended, given, no_memory, went}
use Rattle.store_prune.specs.Verifies.{verifies_command}
use Rattle.store_prune.specs.declared.fault.VerifyFault.TheVariants.{Store}
use Rattle.tree_store.specs.declared.fault.StoreFault.TheVariants.{Memory}
use Rattle.store_prune.proofs.VerifyLaws.{command_verifies}
use Rattle.store_prune.proofs.verifying.verify_command.Goals as goal

pub returns-in_err-count-clause-steps : goal.returns-in_err-count-clause-steps
unfolding verifies_command
returns-in_err-count-clause-steps g c =
    let exit = err_from_is_err_and c.from_residual.result c.from_residual.ensures.1 in
    rw (exit.1, exit.2) (ended _ _ _ _ _ c.in_err-count.ensures.steps)

pub returns-in_err-text-clause-steps : goal.returns-in_err-text-clause-steps
unfolding verifies_command
returns-in_err-text-clause-steps g c =
    let exit = err_from_is_err_and c.from_residual-in_err-text.result c.from_residual-in_err-text.ensures.1 in
    rw (exit.1, exit.2) (went _ _ _ _ _ _ _ c.in_ok-count.ensures.steps (no_memory _ _ _ (Store Memory) refl))

pub returns-clause-steps : goal.returns-clause-steps
unfolding verifies_command
returns-clause-steps g c = went _ _ _ _ _ _ _ c.in_ok-count.ensures.steps
    (given _ _ _ _ (ap Ok (sym c.in_ok-text.ensures)))

pub returns-in_err-count-clause-exactly : goal.returns-in_err-count-clause-exactly
returns-in_err-count-clause-exactly g c = command_verifies c.args.options.now _ _ _
    (returns-in_err-count-clause-steps g c)

pub returns-in_err-text-clause-exactly : goal.returns-in_err-text-clause-exactly
returns-in_err-text-clause-exactly g c = command_verifies c.args.options.now _ _ _
    (returns-in_err-text-clause-steps g c)

pub returns-clause-exactly : goal.returns-clause-exactly
returns-clause-exactly g c = command_verifies c.args.options.now _ _ _ (returns-clause-steps g c)
