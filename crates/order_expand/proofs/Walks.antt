-- Lists that are gone through one element after another.
use Rattle.std.proofs.Common.{◌≡◌, ℕ, ◌+◌, ◌<◌, List, [], ◌∷◌, ◌++◌, map, sym, ◌∙◌, ap, length, take, get_or}
use Rattle.std.proofs.Common.{append-nil}
use Rattle.std.specs.List.{flat_map}
use Rattle.std.proofs.lemmas.List.{take_more, map-append}
use Rattle.std.proofs.lemmas.Grind.{flat_map-append}

pub take_next : {X : Type 0} (xs : List X) (i : ℕ) (x : X) → i < length xs → x ≡ get_or xs i x
    → take (i + 1) xs ≡ take i xs ++ x ∷ []
take_next xs i x h e = take_more xs i x h ∙ ap (λ y. take i xs ++ y ∷ []) (sym e)

pub flat_map-snoc : {X A : Type 0} (f : X → List A) (xs : List X) (x : X)
    → flat_map f (xs ++ x ∷ []) ≡ flat_map f xs ++ f x
flat_map-snoc f xs x = flat_map-append f xs (x ∷ []) ∙ ap (λ ys. flat_map f xs ++ ys) (append-nil (f x))

pub flat_map_next : {X A : Type 0} (f : X → List A) (xs : List X) (i : ℕ) (x : X) (before : List A)
    → i < length xs → x ≡ get_or xs i x →
    before ≡ flat_map f (take i xs) → before ++ f x ≡ flat_map f (take (i + 1) xs)
flat_map_next f xs i x before h e so_far = ap (λ ys. ys ++ f x) so_far
    ∙ sym (ap (flat_map f) (take_next xs i x h e) ∙ flat_map-snoc f (take i xs) x)

pub flat_map_map_next : {X Y A : Type 0} (f : Y → List A) (g : X → Y) (xs : List X) (i : ℕ) (x : X)
    (before : List A) → i < length xs → x ≡ get_or xs i x →
    before ≡ flat_map f (map g (take i xs)) → before ++ f (g x) ≡ flat_map f (map g (take (i + 1) xs))
flat_map_map_next f g xs i x before h e so_far =
    ap (λ ys. ys ++ f (g x)) so_far
    ∙ sym (ap (λ ys. flat_map f (map g ys)) (take_next xs i x h e)
    ∙ (ap (flat_map f) (map-append g (take i xs) (x ∷ [])) ∙ flat_map-snoc f (map g (take i xs)) (g x)))
