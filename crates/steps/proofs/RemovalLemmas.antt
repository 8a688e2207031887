-- Removals that were not begun.
use Rattle.std.proofs.Common.{◌≡◌, refl, sym, subst, ℕ, not, List, Err, inl}
use Rattle.steps.specs.Causes.{Cause, OutOfMemory, IsWriteCause}
use Rattle.steps.specs.Outside.{Seen}
use Rattle.steps.specs.Steps.{removes}
use Rattle.cnb_world.specs.Tree.{is_root}
use Rattle.steps.proofs.StepLemmas.{allowed_by, uncounted}

-- memory ran out before anything was removed
pub not_removed : {E : Type 0} (cause_of : E → Cause) (path : List ℕ) (old : Seen) (fault : E)
    → cause_of fault ≡ OutOfMemory → removes cause_of path old (Err fault) old
unfolding removes
not_removed cause_of path old fault is = (
  subst (IsWriteCause path) (sym is) tt,
  record { files = inl refl; runs = refl },
  allowed_by
      (λ files. not (is_root path)) old.files old.misused old.misused refl,
  uncounted old (cause_of fault) is,
)
