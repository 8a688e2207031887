use Rattle.std.proofs.Common.{inl, inr, ℕ, List, ◌≡◌, ◌⊎◌, subst, sym}
use Rattle.tree_store.specs.Answers.{BlamesWithin}
use Rattle.tree_store.specs.declared.fault.StoreFault.{StoreFault}
use Rattle.tree_store.specs.Writing.{trees_of}
use Rattle.tree_store.proofs.Settled.{others_of_put, put_others, puts_cleared}
use Rattle.tree_store.proofs.Written.{others_stop}
use Rattle.tree_store.proofs.naming.put_or_clear.Goals as goal

blamed : (trees : List ℕ) (fault answered : StoreFault) → BlamesWithin trees fault → BlamesWithin trees answered
    ⊎ (answered ≡ fault) → BlamesWithin trees answered
blamed trees fault answered before (inl h) = h
blamed trees fault answered before (inr same) = subst (BlamesWithin trees) (sym same) before

pub returns-in-Err-clause-leaves : goal.returns-in-Err-clause-leaves
returns-in-Err-clause-leaves g c = put_others (others_stop {A = Unit {0}} {B = List ℕ}
    (c.cleared.ensures.cleared.others _ (others_of_put c.in-Err.ensures.leaves)))

pub returns-in-Err-clause-blames : goal.returns-in-Err-clause-blames
returns-in-Err-clause-blames g c = blamed (trees_of c.args.store.now) _ _ c.in-Err.ensures.blames
    c.cleared.ensures.blames

pub returns-in-Err-clause-puts : goal.returns-in-Err-clause-puts
returns-in-Err-clause-puts g c = λ before bytes h short. puts_cleared
    (c.in-Err.ensures.puts before bytes h short) c.cleared.ensures.cleared
