-- Removals of what a list says, however it is told.
use Rattle.std.proofs.Common.{◌≡◌, subst, ℕ, List, Result}
use Rattle.steps.specs.Outside.{Seen}
use Rattle.store_prune.specs.Prunes.{removes_all, removes_trees}
use Rattle.store_prune.specs.declared.fault.PruneFault.{PruneFault}

pub removed_at : (paths others : List (List ℕ)) (old new : Seen) (result : Result (Unit {0}) PruneFault)
    → paths ≡ others → removes_all paths old result new → removes_all others old result new
removed_at paths others old new result same h = subst (λ ps. removes_all ps old result new) same h

pub trees_at : (store : List ℕ) (digests others : List (List ℕ)) (old new : Seen)
    (result : Result (Unit {0}) PruneFault) → digests ≡ others → removes_trees store digests old result new
    → removes_trees store others old result new
trees_at store digests others old new result same h = subst (λ ds. removes_trees store ds old result new) same h
