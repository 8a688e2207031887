use Rattle.std.proofs.lemmas.Result.{err_from_is_err_and}
use Rattle.steps.proofs.StepLemmas.{ended, went}
use Rattle.store_prune.specs.Listing.{lists}
use Rattle.store_prune.proofs.ListLemmas.{listed_there, nothing_listed}
use Rattle.store_prune.proofs.listing.list_folder.Goals as goal

pub returns-in_err-there-clause-steps : goal.returns-in_err-there-clause-steps
unfolding lists
returns-in_err-there-clause-steps g c =
    let exit = err_from_is_err_and c.from_residual.result c.from_residual.ensures.1 in
    rw (exit.1, exit.2) (ended _ _ _ _ _ c.in_err-there.ensures.steps)

pub returns-then-not-there-clause-steps : goal.returns-then-not-there-clause-steps
unfolding lists
returns-then-not-there-clause-steps g c = went _ _ _ _ _ _ _ c.in_ok-there.ensures.steps
    (nothing_listed _ _ _ _ c.if-not-there.true c.new.ensures)

pub returns-clause-steps : goal.returns-clause-steps
unfolding lists
returns-clause-steps g c = went _ _ _ _ _ _ _ c.in_ok-there.ensures.steps
    (listed_there _ _ _ _ _ c.if-not-there.false c.list_there.ensures.steps)
