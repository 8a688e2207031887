-- Steps over tree files, however a name is told.
use Rattle.std.proofs.Common.{◌≡◌, subst, ℕ, Bool, List, Result}
use Rattle.steps.specs.Each.{for_each}
use Rattle.steps.specs.Outside.{Seen}
use Rattle.store_prune.specs.Listing.{lists, looks_for_file}
use Rattle.store_prune.specs.Trees.{adds_tree}
use Rattle.store_prune.specs.declared.fault.PruneFault.{PruneFault}

pub tree_at : (store name other : List ℕ) (trees : List (List ℕ)) (old new : Seen)
    (result : Result (List (List ℕ)) PruneFault) → name ≡ other → adds_tree store name trees old result new
    → adds_tree store other trees old result new
tree_at store name other trees old new result same h = subst (λ n. adds_tree store n trees old result new) same h

pub trees_at : (store : List ℕ) (names others trees : List (List ℕ)) (old new : Seen)
    (result : Result (List (List ℕ)) PruneFault) → names ≡ others
    → for_each (adds_tree store) names trees old result new
    → for_each (adds_tree store) others trees old result new
trees_at store names others trees old new result same h = subst
    (λ ns. for_each (adds_tree store) ns trees old result new) same h

pub looked_at : (path other : List ℕ) (old new : Seen) (result : Result Bool PruneFault) → path ≡ other
    → looks_for_file path old result new → looks_for_file other old result new
looked_at path other old new result same h = subst (λ p. looks_for_file p old result new) same h

pub listed_at : (folder other : List ℕ) (old new : Seen) (result : Result (List (List ℕ)) PruneFault)
    → folder ≡ other → lists folder old result new → lists other old result new
listed_at folder other old new result same h = subst (λ f. lists f old result new) same h
