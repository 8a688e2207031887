-- The first element that passes a test, in a list and in a list of lists.
use Rattle.std.proofs.Common.{◌≡◌, ℕ, suc, ◌+◌, ◌<◌, Bor, Bool, true, false, cond, ◌||◌, List, [], ◌∷◌, ◌++◌, refl, sym}
use Rattle.std.proofs.Common.{◌∙◌, ap, length, take, drop, get_or, drop-cons}
use Rattle.std.specs.Prelude.{Option, Some, None, is_some}
use Rattle.std.specs.List.{find, flat_map, list_any}
use Rattle.std.specs.Option.{option_or, option_copied}
use Rattle.std.proofs.lemmas.Grind.{flat_map-append}
use Rattle.std.proofs.lemmas.List.{take-append-drop}
use Rattle.std.proofs.lemmas.List.Folds.{find-append}
use Rattle.order_expand.proofs.Walks.{take_next, flat_map-snoc}

abbrev pub joined : {X : Type 0} → List (List X) → List X
joined groups = flat_map (λ group. group) groups

find_behind : {X : Type 0} (p : X → Bool) (xs ys : List X) → find p xs ≡ None → find p (xs ++ ys) ≡ find p ys
find_behind p xs ys e = find-append p xs ys ∙ ap (λ o. option_or o (find p ys)) e

find_front : {X : Type 0} (p : X → Bool) (xs ys : List X) (x : X) → find p xs ≡ Some x → find p (xs ++ ys) ≡ Some x
find_front p xs ys x e = find-append p xs ys ∙ ap (λ o. option_or o (find p ys)) e

pub find_next : {X : Type 0} (p : X → Bool) (xs : List X) (i : ℕ) (x : X) → i < length xs → x ≡ get_or xs i x
    → find p (take i xs) ≡ None → p x ≡ false → find p (take (i + 1) xs) ≡ None
find_next p xs i x h e w n = ap (find p) (take_next xs i x h e)
    ∙ (find_behind p (take i xs) (x ∷ []) w ∙ ap (λ b. cond b (Some x) None) n)

split : {X : Type 0} (xs : List X) (i : ℕ) (x : X) → i < length xs → x ≡ get_or xs i x
    → xs ≡ take i xs ++ x ∷ drop (suc i) xs
split xs i x h e = sym (take-append-drop i xs)
    ∙ (ap (λ ys. take i xs ++ ys) (drop-cons xs i x h) ∙ ap (λ y. take i xs ++ y ∷ drop (suc i) xs) (sym e))

pub find_here : {X : Type 0} (p : X → Bool) (xs : List X) (i : ℕ) (x : X) → i < length xs → x ≡ get_or xs i x
    → find p (take i xs) ≡ None → p x ≡ true → Some x ≡ find p xs
find_here p xs i x h e w y =
    sym (ap (find p) (split xs i x h e) ∙ (find_behind p (take i xs) (x ∷ drop (suc i) xs) w
    ∙ ap (λ b. cond b (Some x) (find p (drop (suc i) xs))) y))

pub find_next_group : {X : Type 0} (p : X → Bool) (groups : List (List X)) (i : ℕ) (group : List X)
    → i < length groups → group ≡ get_or groups i group →
    find p (joined (take i groups)) ≡ None → find p group ≡ None → find p (joined (take (i + 1) groups)) ≡ None
find_next_group p groups i group h e w n =
    ap (λ gs. find p (joined gs)) (take_next groups i group h e)
    ∙ (ap (find p) (flat_map-snoc (λ g. g) (take i groups) group)
    ∙ (find_behind p (joined (take i groups)) group w ∙ n))

pub find_in_group : {X : Type 0} (p : X → Bool) (groups : List (List X)) (i : ℕ) (group : List X) (x : X)
    → i < length groups → group ≡ get_or groups i group →
    find p (joined (take i groups)) ≡ None → find p group ≡ Some x → Some x ≡ find p (joined groups)
find_in_group p groups i group x h e w f =
    sym (ap (λ gs. find p (joined gs)) (split groups i group h e)
    ∙ (ap (find p) (flat_map-append (λ g. g) (take i groups) (group ∷ drop (suc i) groups))
    ∙ (find_behind p (joined (take i groups)) (group ++ joined (drop (suc i) groups)) w
    ∙ find_front p group (joined (drop (suc i) groups)) x f)))

any_or : {X : Type 0} (b : Bool) (x : X) (o : Option X) (c : Bool) → c ≡ is_some o
    → (b || c) ≡ is_some (cond b (Some x) o)
any_or true x o c e = refl
any_or false x o c e = e

-- whether one passes
pub any_found : {X : Type 0} (p : X → Bool) (xs : List X) → list_any p xs ≡ is_some (find p xs)
any_found p [] = refl
any_found p (x ∷ xs) = any_or (p x) x (find p xs) (list_any p xs) (any_found p xs)

or_found : {X : Type 0} (o q : Option X) → (is_some o || is_some q) ≡ is_some (option_or o q)
or_found None q = refl
or_found (Some x) q = refl

pub any_found_in_groups : {X : Type 0} (p : X → Bool) (groups : List (List X))
    → list_any (list_any p) groups ≡ is_some (find p (joined groups))
any_found_in_groups p [] = refl
any_found_in_groups p (group ∷ groups) =
    (λ i. any_found p group i || any_found_in_groups p groups i)
    ∙ (or_found (find p group) (find p (joined groups)) ∙ sym
    (ap is_some (find-append p group (joined groups))))

pub is_some-copied : {X : Type 0} (o : Option (Bor X)) → is_some o ≡ is_some (option_copied o)
is_some-copied None = refl
is_some-copied (Some x) = refl
