-- Names in a folder: one name more, in front of the later ones.
use Rattle.std.proofs.Common.{◌≡◌, ℕ, ◌+◌, ◌<◌, List, [], ◌∷◌, IsTrue, length, drop, get_or, zero, suc, subst, ◌∙◌}
use Rattle.std.proofs.Common.{add-one, arith}
use Rattle.std.specs.List.{AllByRecursion}
use Rattle.std.specs.declared.cmp.Ordering.TheVariants.{Less}
use Rattle.std.specs.Ordering.{nat_cmp}
use Rattle.std.specs.Cmp.Lexicographic.{slice_cmp}
use Rattle.std.proofs.lemmas.Cmp.{nat_list_cmp_total}
use Rattle.cnb_world.specs.Calls.{AreNames}
use Rattle.cnb_world.specs.Path.{is_part}

-- what comes after a name comes after those before it
later : (x y : List ℕ) → slice_cmp nat_cmp x y ≡ Less → (zs : List (List ℕ))
    → AllByRecursion (λ z. slice_cmp nat_cmp y z ≡ Less) zs
    → AllByRecursion (λ z. slice_cmp nat_cmp x z ≡ Less) zs
later x y less [] all = tt
later x y less (z ∷ zs) all = (nat_list_cmp_total.trans x y z less all.0, later x y less zs all.1)

AreNames-cons : (x : List ℕ) (xs : List (List ℕ)) → IsTrue (is_part x)
    → (0 < length xs → slice_cmp nat_cmp x (get_or xs 0 []) ≡ Less) → AreNames xs → AreNames (x ∷ xs)
AreNames-cons x [] part less names = (part, tt, tt)
AreNames-cons x (y ∷ ys) part less names = let first : slice_cmp nat_cmp x y ≡ Less = less (omega arith)
    in (part, (first, later x y first ys names.1), names)

from : (names : List (List ℕ)) (at : ℕ) → at < length names → IsTrue (is_part (get_or names at []))
    → (suc at < length names → slice_cmp nat_cmp (get_or names at []) (get_or names (suc at) []) ≡ Less)
    → AreNames (drop (suc at) names) → AreNames (drop at names)
from [] at within part less later = absurd (omega arith)
from (x ∷ xs) zero within part less later = AreNames-cons x xs part (λ h. less (omega arith)) later
from (x ∷ xs) (suc k) within part less later = from xs k (omega arith) part (λ h. less (omega arith)) later

pub names_from : (names : List (List ℕ)) (at next : ℕ) → next ≡ at + 1 → at < length names
    → IsTrue (is_part (get_or names at [])) → (at + 1 < length names
    → slice_cmp nat_cmp (get_or names at []) (get_or names (at + 1) []) ≡ Less) → AreNames (drop next names)
    → AreNames (drop at names)
names_from names at next e within part less later = from names at within part
    (subst (λ n. n < length names → slice_cmp nat_cmp (get_or names at []) (get_or names n []) ≡ Less)
    (add-one at) less) (subst (λ n. AreNames (drop n names)) (e ∙ add-one at) later)
