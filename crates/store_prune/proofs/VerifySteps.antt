-- Checks of what a list says, however it is told.
use Rattle.std.proofs.Common.{◌≡◌, refl, subst, ℕ, List, Result, Ok}
use Rattle.steps.specs.Outside.{Seen}
use Rattle.steps.specs.Steps.{yields}
use Rattle.store_prune.specs.Verifies.{checks_all}
use Rattle.store_prune.specs.declared.fault.VerifyFault.{VerifyFault}

pub checked_at : (store : List ℕ) (digests others : List (List ℕ)) (old new : Seen)
    (result : Result (Unit {0}) VerifyFault) → digests ≡ others → checks_all store digests old result new
    → checks_all store others old result new
checked_at store digests others old new result same h = subst (λ ds. checks_all store ds old result new) same h

-- what a call counts is the number that is yielded
pub counted : (number other : ℕ) (old : Seen) → number ≡ other → yields {E = VerifyFault} other old (Ok number) old
unfolding yields
counted number other old is = (is, refl)
