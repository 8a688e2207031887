-- Misuse over one step after another.
use Rattle.std.proofs.Common.{◌≡◌, ◌∙◌, refl, sym, subst, ℕ, Bool, true, false, arith, List, ◌∷◌, Option, Some, None}
use Rattle.std.specs.Prelude.{◌&&◌}
use Rattle.std.specs.List.{list_all}
use Rattle.std.specs.Option.{option_map}
use Rattle.cnb_world.specs.Calls.{MayMisuse}
use Rattle.cnb_world.specs.Tree.{Tree}

both_fit : (a b : Bool) (x y z : ℕ) → MayMisuse (Some a) x y → MayMisuse (Some b) y z → MayMisuse (Some (a && b)) x z
both_fit true true x y z h k = k ∙ h
both_fit true false x y z h k = omega arith
both_fit false true x y z h k = omega arith
both_fit false false x y z h k = omega arith

by_fit : (v : Bool) (x y : ℕ) → y ≡ x → MayMisuse (Some v) x y
by_fit true x y h = h
by_fit false x y h = omega arith

-- a count that stayed misuses nothing
pub no_misuse : (fit : Tree → Bool) (o : Option Tree) (x y : ℕ) → y ≡ x → MayMisuse (option_map fit o) x y
no_misuse fit None x y h = h
no_misuse fit (Some files) x y h = by_fit (fit files) x y h

module _ (one rest : Tree → Bool) where
  -- one step and the rest behind it
  pub both : (o o1 : Option Tree) (x y z : ℕ) → o1 ≡ o → MayMisuse (option_map one o) x y
      → MayMisuse (option_map rest o1) y z → MayMisuse (option_map (λ files. one files && rest files) o) x z
  both None o1 x y z e h k = let P : Option Tree → Type 0 = λ t. MayMisuse (option_map rest t) y z in subst P e k ∙ h
  both (Some files) o1 x y z e h k = let P : Option Tree → Type 0 = λ t. MayMisuse (option_map rest t) y z
      in both_fit (one files) (rest files) x y z h (subst P e k)

-- a step with one of a list, and with those behind it
module _ {X : Type 0} (fit : Tree → X → Bool) (one : X) (later whole : List X) (next : whole ≡ one ∷ later)
    (o o1 : Option Tree) (e : o1 ≡ o) where
  pub rest_fits : (x y z : ℕ) → MayMisuse (option_map (λ files. fit files one) o1) x y
      → MayMisuse (option_map (λ files. list_all (fit files) later) o) y z
      → MayMisuse (option_map (λ files. list_all (fit files) whole) o) x z
  rest_fits x y z h k =
      let P : Option Tree → Type 0 = λ t. MayMisuse (option_map (λ files. fit files one) t) x y in
      let Q : List X → Type 0 = λ ns. MayMisuse (option_map (λ files. list_all (fit files) ns) o) x z in
      subst Q (sym next) (both (λ files. fit files one) (λ files. list_all (fit files) later) o o x y z refl
      (subst P e h) k)

  pub one_fits : (x y : ℕ) → MayMisuse (option_map (λ files. fit files one) o1) x y
      → MayMisuse (option_map (λ files. list_all (fit files) whole) o) x y
  one_fits x y h = rest_fits x y y h (no_misuse (λ files. list_all (fit files) later) o y y refl)
