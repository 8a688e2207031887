-- Facts on each element of lists put together.
use Rattle.std.proofs.Common.{◌≡◌, List, [], ◌∷◌, ◌++◌, length, refl, arith}
use Rattle.std.specs.List.{AllByRecursion, AllZip}

module _ {A : Type 0} (P : A → Type 0) where
  pub all-append : (xs ys : List A) → AllByRecursion P xs → AllByRecursion P ys → AllByRecursion P (xs ++ ys)
  all-append [] ys p q = q
  all-append (x ∷ xs) ys p q = (p.0, all-append xs ys p.1 q)

  pub all_parts : (xs ys : List A) → AllByRecursion P (xs ++ ys) → AllByRecursion P xs × AllByRecursion P ys
  all_parts [] ys p = (tt, p)
  all_parts (x ∷ xs) ys p = let r = all_parts xs ys p.1 in ((p.0, r.0), r.1)

module _ {A B : Type 0} (R : A → B → Type 0) where
  pub zip-append : (xs xs' : List A) (ys ys' : List B) → AllZip R xs ys → AllZip R xs' ys'
      → AllZip R (xs ++ xs') (ys ++ ys')
  zip-append [] xs' [] ys' p q = q
  zip-append [] xs' (y ∷ ys) ys' p q = absurd p
  zip-append (x ∷ xs) xs' [] ys' p q = absurd p
  zip-append (x ∷ xs) xs' (y ∷ ys) ys' p q = (p.0, zip-append xs xs' ys ys' p.1 q)

pub zip_self : {A : Type 0} (R : A → A → Type 0) → ((x : A) → R x x) → (xs : List A) → AllZip R xs xs
zip_self R same [] = tt
zip_self R same (x ∷ xs) = (same x, zip_self R same xs)

pub empty : {A : Type 0} (xs : List A) → length xs ≡ 0 → xs ≡ []
empty [] e = refl
empty (x ∷ xs) e = absurd (omega arith)
