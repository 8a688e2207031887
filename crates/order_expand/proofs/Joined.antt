-- Groups in front of others.
use Rattle.std.proofs.Common.{◌≡◌, List, [], ◌∷◌, ◌++◌, map, refl, sym, ◌∙◌, ap, append-nil, append_assoc}
use Rattle.std.specs.List.{fold}
use Rattle.std.proofs.lemmas.Grind.{flat_map-append}
use Rattle.std.proofs.lemmas.List.{map-append}
use Rattle.order_expand.specs.Begun.{joined}

pub map_map : {X Y Z : Type 0} (f : Y → Z) (g : X → Y) (xs : List X) → map f (map g xs) ≡ map (λ x. f (g x)) xs
map_map f g [] = refl
map_map f g (x ∷ xs) = ap (λ ys. f (g x) ∷ ys) (map_map f g xs)

pub map_same : {X : Type 0} (xs : List X) → map (λ x. x) xs ≡ xs
map_same [] = refl
map_same (x ∷ xs) = ap (λ ys. x ∷ ys) (map_same xs)

map_each : {X Y : Type 0} (f g : X → Y) → ((x : X) → f x ≡ g x) → (xs : List X) → map f xs ≡ map g xs
map_each f g e [] = refl
map_each f g e (x ∷ xs) = λ i. e x i ∷ map_each f g e xs i

pub fold-snoc : {A B : Type 0} (f : B → A → B) (a : B) (xs : List A) (x : A)
    → fold f a (xs ++ x ∷ []) ≡ f (fold f a xs) x
fold-snoc f a [] x = refl
fold-snoc f a (y ∷ ys) x = fold-snoc f (f a y) ys x

pub joined-append : {X : Type 0} (xs ys behind : List (List X))
    → joined (xs ++ ys) behind ≡ joined xs behind ++ joined ys behind
joined-append xs ys behind = flat_map-append (λ front. map (λ group. front ++ group) behind) xs ys

pub joined-one : {X : Type 0} (behind : List (List X)) → joined ([] ∷ []) behind ≡ behind
joined-one behind = append-nil (map (λ group. [] ++ group) behind) ∙ map_same behind

pub joined-last : {X : Type 0} (xs : List (List X)) → joined xs ([] ∷ []) ≡ xs
joined-last [] = refl
joined-last (x ∷ xs) = λ i. append-nil x i ∷ joined-last xs i

joined-front : {X : Type 0} (front : List X) (xs behind : List (List X))
    → joined (map (λ group. front ++ group) xs) behind ≡ map (λ group. front ++ group) (joined xs behind)
joined-front front [] behind = refl
joined-front {X} front (x ∷ xs) behind =
    (λ i. map_each (λ (group : List X). (front ++ x) ++ group) (λ group. front ++ (x ++ group))
    (λ group. append_assoc front x group) behind i ++ joined-front front xs behind i)
    ∙ ((λ i. sym (map_map (λ (group : List X). front ++ group) (λ group. x ++ group) behind) i
    ++ map (λ group. front ++ group) (joined xs behind))
    ∙ sym (map-append (λ group. front ++ group) (map (λ group. x ++ group) behind) (joined xs behind)))

pub joined-assoc : {X : Type 0} (xs ys zs : List (List X)) → joined (joined xs ys) zs ≡ joined xs (joined ys zs)
joined-assoc [] ys zs = refl
joined-assoc (x ∷ xs) ys zs =
    joined-append (map (λ group. x ++ group) ys) (joined xs ys) zs
    ∙ (λ i. joined-front x ys zs i ++ joined-assoc xs ys zs i)

pub joined-member : {X : Type 0} (member : X) (xs behind : List (List X))
    → joined (map (λ group. member ∷ group) xs) behind ≡ map (λ group. member ∷ group) (joined xs behind)
joined-member member xs behind = joined-front (member ∷ []) xs behind

-- a member moves from the front of the groups to the end of the members
pub one_member_more : {X : Type 0} (members : List X) (member : X) (xs behind : List (List X)) →
    map (λ group. (members ++ member ∷ []) ++ group) (joined xs behind)
    ≡ map (λ group. members ++ group) (joined (map (λ group. member ∷ group) xs) behind)
one_member_more {X} members member xs behind =
    map_each (λ (group : List X). (members ++ member ∷ []) ++ group) (λ group. members ++ (member ∷ group))
    (λ group. append_assoc members (member ∷ []) group) (joined xs behind)
    ∙ (sym (map_map (λ (group : List X). members ++ group) (λ group. member ∷ group) (joined xs behind))
    ∙ ap (map (λ group. members ++ group)) (sym (joined-member member xs behind)))
