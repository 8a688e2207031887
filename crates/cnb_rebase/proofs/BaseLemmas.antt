-- A run image of the same words.
use Rattle.std.proofs.Common.{◌≡◌, subst, List, [], ℕ, Result, Ok}
use Rattle.cnb_world.specs.declared.env.Variable.{Variable}
use Rattle.image_docs.specs.declared.run_image.RunDoc.{RunDoc}
use Rattle.steps.specs.Outside.{Seen}
use Rattle.tree_store.specs.declared.fault.StoreFault.{StoreFault}
use Rattle.cnb_rebase.specs.Bases.{makes_base}

pub made_as : (store os os' arch arch' : List ℕ) (folders folders' : List (List ℕ)) (old : Seen)
    (result : Result RunDoc StoreFault) (new : Seen) → os ≡ os' → arch ≡ arch' → folders ≡ folders'
    → makes_base store os arch folders old result new → makes_base store os' arch' folders' old result new
made_as store os os' arch arch' folders folders' old result new e f h made =
    subst (λ o. makes_base store o arch' folders' old result new) e
    (subst (λ a. makes_base store os a folders' old result new) f
    (subst (λ t. makes_base store os arch t old result new) h made))

abbrev made : List ℕ → List ℕ → List (List ℕ) → List Variable → Result RunDoc StoreFault
made os arch rows env = Ok (record { os = os; arch = arch; rows = rows; env = env })

pub run_doc : (os os' arch arch' : List ℕ) (rows : List (List ℕ)) (env : List Variable) → os ≡ os' → arch ≡ arch'
    → env ≡ [] → made os' arch' rows [] ≡ made os arch rows env
run_doc os os' arch arch' rows env e f h = cc
