-- The last name of entries.
use Rattle.std.proofs.Common.{◌≡◌, ℕ, ◌-◌, ◌∙◌, List, [], ◌∷◌, ◌++◌, length, Option, Some, None, arith, refl, ap, sym}
use Rattle.std.specs.Prelude.{slice_get, suc}
use Rattle.tree_canon.specs.declared.node.Named.{Named}
use Rattle.tree_canon.specs.CutTree.{last_from, last_name}

-- of entries with one more
pub last_from-push : (last : Option (List ℕ)) (es : List Named) (e : Named)
    → last_from last (es ++ e ∷ []) ≡ Some e.name
last_from-push last [] e = refl
last_from-push last (x ∷ xs) e = last_from-push (Some x.name) xs e

last_from-at : (last : Option (List ℕ)) (es : List Named) (e : Named) → slice_get es (length es - 1) ≡ Some e
    → last_from last es ≡ Some e.name
last_from-at last [] e is = absurd cc
last_from-at last (x ∷ []) e is = let same : x ≡ e = cc in ap (λ (n : Named). Some n.name) same
last_from-at last (x ∷ y ∷ ys) e is =
    let one : length (x ∷ y ∷ ys) - 1 ≡ suc (length (y ∷ ys) - 1) = omega arith in
    last_from-at (Some x.name) (y ∷ ys) e (ap (slice_get (x ∷ y ∷ ys)) (sym one) ∙ is)

-- at the last entry
pub last_name-at : (es : List Named) (e : Named) → slice_get es (length es - 1) ≡ Some e → last_name es ≡ Some e.name
last_name-at es e is = last_from-at None es e is
