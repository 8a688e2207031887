-- The folder of a layer's contents isn't `/`.
use Rattle.std.proofs.Common.{◌≡◌, refl, ap, arith, ℕ, Bool, true, false, cond, IsTrue, List, [], ◌∷◌, ◌++◌}
use Rattle.std.proofs.Common.{length-append}
use Rattle.std.specs.Str.{bytes_eq}
use Rattle.std.proofs.lemmas.Slice.Eq.{bytes_eq-Decides}
use Rattle.cnb_world.specs.Path.{is_part, joined}
use Rattle.cnb_world.specs.Tree.{is_root}
use Rattle.cnb_world.proofs.Folders.{not_longer}

-- a path of a name is longer than `/`
pub no_root : (folder name : List ℕ) → IsTrue (is_part name) → is_root (joined folder name) ≡ false
no_root folder [] part = absurd (cc)
no_root folder (c ∷ cs) part = by (bytes_eq folder (47 ∷ [])) refl
  where
    by : (v : Bool) → bytes_eq folder (47 ∷ []) ≡ v → is_root (cond v folder (folder ++ 47 ∷ []) ++ c ∷ cs) ≡ false
    by true e = ap (λ f. is_root (f ++ c ∷ cs)) ((bytes_eq-Decides folder (47 ∷ [])).0 e)
    by false e = not_longer ((folder ++ 47 ∷ []) ++ c ∷ cs) (47 ∷ [])
        (omega (arith, length-append (folder ++ 47 ∷ []) (c ∷ cs), length-append folder (47 ∷ [])))
