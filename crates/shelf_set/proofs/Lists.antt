-- Lists in which an item is moved.
use Rattle.std.proofs.Common.{◌≡◌, ℕ, List, [], ◌∷◌, ◌++◌, map, length, refl, sym, ap, ◌∙◌, arith, append_assoc}
use Rattle.std.proofs.lemmas.List.{map-append}
use Rattle.std.specs.List.{AllByRecursion}
use Rattle.shelf_set.specs.Turns.{MovesLast}

-- one list, split at one place
pub record SameSplit {X : Type 0} (a b : List X) (x y : X) (c d : List X) : Type 0 where
  pub front : a ≡ b
  pub item : x ≡ y
  pub back : c ≡ d

pub same_split : {X : Type 0} (a b : List X) (x y : X) (c d : List X) → a ++ x ∷ c ≡ b ++ y ∷ d
    → length a ≡ length b → SameSplit a b x y c d
same_split [] [] x y c d e h = record { front = refl; item = cc; back = cc }
same_split [] (z ∷ b) x y c d e h = absurd (omega (arith, h))
same_split (z ∷ a) [] x y c d e h = absurd (omega (arith, h))
same_split (z ∷ a) (w ∷ b) x y c d e h =
    let s = same_split a b x y c d (cc) (omega (arith, h)) in
    let same : z ≡ w = cc in
    record { front = ap (λ q. q ∷ a) same ∙ ap (λ r. w ∷ r) s.front; item = s.item; back = s.back }

-- where an item was moved to the end
pub moved : {X : Type 0} (l : List X) (at : ℕ) (new A : List X) (x : X) (B : List X) → MovesLast l at new
    → l ≡ A ++ x ∷ B → at ≡ length A → new ≡ A ++ (B ++ x ∷ [])
moved l at new A x B m is place =
    let s = same_split m.front A m.item x m.back B (sym m.entry ∙ is) (sym m.place ∙ place) in
    m.exit ∙ ap (λ f. f ++ (m.back ++ m.item ∷ [])) s.front ∙ ap (λ b. A ++ (b ++ m.item ∷ [])) s.back
    ∙ ap (λ y. A ++ (B ++ y ∷ [])) s.item

pub regroup3 : {X : Type 0} (A R E F : List X) (x : X) → A ++ (R ++ (E ++ (F ++ x ∷ []))) ≡ A
    ++ ((R ++ (E ++ F)) ++ x ∷ [])
regroup3 A R E F x = simp append_assoc

pub regroup2 : {X : Type 0} (A R F : List X) (x : X) → A ++ (R ++ (F ++ x ∷ [])) ≡ A ++ ((R ++ F) ++ x ∷ [])
regroup2 A R F x = simp append_assoc

pub map-last : {X Y : Type 0} (f : X → Y) (xs : List X) (x : X) → map f (xs ++ x ∷ []) ≡ map f xs ++ f x ∷ []
map-last f xs x = map-append f xs (x ∷ [])

pub onto : {X : Type 0} (xs : List X) (x : X) (ys : List X) → (xs ++ x ∷ []) ++ ys ≡ xs ++ x ∷ ys
onto xs x ys = append_assoc xs (x ∷ []) ys

pub all_both : {X : Type 0} (P : X → Type 0) (xs ys : List X) → AllByRecursion P xs → AllByRecursion P ys
    → AllByRecursion P (xs ++ ys)
all_both P [] ys a b = b
all_both P (x ∷ xs) ys a b = (a.0, all_both P xs ys a.1 b)
