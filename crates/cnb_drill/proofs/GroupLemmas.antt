-- The drill's listed groups.
use Rattle.std.proofs.Common.{◌≡◌, ◌∙◌, refl, sym, ap, ℕ, suc, ◌+◌, ◌<◌, Bool, true, cond, not, List, [], ◌∷◌, ◌++◌}
use Rattle.std.proofs.Common.{map, arith, append-nil}
use Rattle.std.specs.List.{flat_map, filter, list_all}
use Rattle.std.proofs.lemmas.Bool.{and_from, and_parts, ne_eqb, and_left}
use Rattle.std.proofs.lemmas.List.{map-append}
use Rattle.bp_docs.specs.declared.descriptor.Entry.{Entry}
use Rattle.order_expand.specs.declared.member.Member.{Member}
use Rattle.order_expand.specs.Groups.{named, in_front_of, expanded, raw_groups, distinct, same_id, listed_groups}
use Rattle.order_expand.proofs.Levels.{raw_groups_suc}
use Rattle.detect_core.proofs.AskingLemmas.{map-map}
use Rattle.cnb_drill.proofs.Members.{digit_member, tail_member, members}
use Rattle.cnb_drill.specs.Buildpacks.{eight, entry_of, composite_key, tail_key}
use Rattle.cnb_drill.specs.Order.{drill_catalog, drill_order}
use Rattle.cnb_drill.proofs.WordLemmas.{words, in_front}

-- each digit's component in front of each of these groups
abbrev pub column_in_front : ℕ → List (List Member) → List (List Member)
column_in_front column groups = flat_map (λ digit. map (λ group. digit_member column digit ∷ group) groups) eight

abbrev below : List (List Entry) → List (List Member)
below = raw_groups 16 drill_catalog

Fronts : ℕ → Type 0
Fronts column = (groups : List (List Member)) →
    in_front_of below (entry_of (composite_key column)) (named drill_catalog (entry_of (composite_key column)))
    groups ≡ column_in_front column groups

front_0 : Fronts 0
unfolding Fronts raw_groups drill_catalog
front_0 groups = append-nil (column_in_front 0 groups)

front_1 : Fronts 1
unfolding Fronts raw_groups drill_catalog
front_1 groups = append-nil (column_in_front 1 groups)

front_2 : Fronts 2
unfolding Fronts raw_groups drill_catalog
front_2 groups = append-nil (column_in_front 2 groups)

front_3 : Fronts 3
unfolding Fronts raw_groups drill_catalog
front_3 groups = append-nil (column_in_front 3 groups)

-- one entry more in front
front : (column : ℕ) → Fronts column → (entries : List Entry) (groups : List (List Member))
    → expanded below drill_catalog entries ≡ groups →
    expanded below drill_catalog (entry_of (composite_key column) ∷ entries) ≡ column_in_front column groups
unfolding Fronts
front column f entries groups e =
    ap (in_front_of below (entry_of (composite_key column))
    (named drill_catalog (entry_of (composite_key column)))) e ∙ f groups

last : expanded below drill_catalog (entry_of tail_key ∷ []) ≡ (tail_member ∷ []) ∷ []
unfolding drill_catalog
last = refl

map-flat_map : {X Y Z : Type 0} (h : Y → Z) (f : X → List Y) (xs : List X)
    → map h (flat_map f xs) ≡ flat_map (λ x. map h (f x)) xs
map-flat_map h f [] = refl
map-flat_map h f (x ∷ xs) = map-append h (f x) (flat_map f xs) ∙ ap (λ ys. map h (f x) ++ ys) (map-flat_map h f xs)

flat_map-same : {X Y : Type 0} (f g : X → List Y) → ((x : X) → f x ≡ g x) → (xs : List X)
    → flat_map f xs ≡ flat_map g xs
flat_map-same f g each [] = refl
flat_map-same f g each (x ∷ xs) = λ i. each x i ++ flat_map-same f g each xs i

column-words : (column places : ℕ) → column_in_front column (map (members (column + 1)) (words places))
    ≡ map (members column) (words (suc places))
column-words column places =
    flat_map-same (λ digit. map (λ group. digit_member column digit ∷ group)
    (map (members (column + 1)) (words places))) (λ digit. map (members column)
    (in_front digit (words places)))
    (λ digit. map-map (λ group. digit_member column digit ∷ group) (members (column + 1)) (words places)
    ∙ sym (map-map (members column) (λ word. digit ∷ word) (words places))) eight
    ∙ sym (map-flat_map (members column) (λ digit. in_front digit (words places)) eight)

abbrev from_3 : List Entry
from_3 = entry_of (composite_key 3) ∷ entry_of tail_key ∷ []

abbrev from_2 : List Entry
from_2 = entry_of (composite_key 2) ∷ from_3

abbrev from_1 : List Entry
from_1 = entry_of (composite_key 1) ∷ from_2

expanded_3 : expanded below drill_catalog from_3 ≡ map (members 3) (words 1)
expanded_3 = front 3 front_3 (entry_of tail_key ∷ []) (map (members 4) (words 0)) last ∙ column-words 3 0

expanded_2 : expanded below drill_catalog from_2 ≡ map (members 2) (words 2)
expanded_2 = front 2 front_2 from_3 (map (members 3) (words 1)) expanded_3 ∙ column-words 2 1

expanded_1 : expanded below drill_catalog from_1 ≡ map (members 1) (words 3)
expanded_1 = front 1 front_1 from_2 (map (members 2) (words 2)) expanded_2 ∙ column-words 1 2

expanded_0 : expanded below drill_catalog (entry_of (composite_key 0) ∷ from_1) ≡ map (members 0) (words 4)
expanded_0 = front 0 front_0 from_1 (map (members 1) (words 3)) expanded_1 ∙ column-words 0 3

pub raw_drill : raw_groups 17 drill_catalog drill_order ≡ map (members 0) (words 4)
unfolding drill_order
raw_drill =
    raw_groups_suc 16 drill_catalog drill_order
    ∙ (append-nil (expanded below drill_catalog (entry_of (composite_key 0) ∷ from_1)) ∙ expanded_0)

filter_all : {X : Type 0} (p : X → Bool) (xs : List X) → list_all p xs ≡ true → filter p xs ≡ xs
filter_all p [] h = refl
filter_all p (x ∷ xs) h =
    let parts = and_parts (p x) (list_all p xs) h in
    (λ i. cond (parts.0 i) (x ∷ filter p xs) (filter p xs)) ∙ ap (λ ys. x ∷ ys) (filter_all p xs parts.1)

-- members of other columns have other ids
other_column : (column digit later other : ℕ) → column < later
    → not (same_id (digit_member column digit) (digit_member later other)) ≡ true
other_column column digit later other h =
    ap not (and_left _ _ (ne_eqb (48 + column) (48 + later) (λ e. omega arith)))

others : (column digit later : ℕ) (digits : List ℕ) → column < later
    → list_all (λ m. not (same_id (digit_member column digit) m)) (members later digits) ≡ true
others column digit later [] h = refl
others column digit later (other ∷ digits) h =
    and_from _ _ (other_column column digit later other h) (others column digit (later + 1) digits (omega arith))

own_ids : (column : ℕ) (digits : List ℕ) → distinct same_id (members column digits) ≡ members column digits
own_ids column [] = refl
own_ids column (digit ∷ digits) =
    ap (λ ms. digit_member column digit ∷ ms)
    (ap (filter (λ m. not (same_id (digit_member column digit) m))) (own_ids (column + 1) digits)
    ∙ filter_all (λ m. not (same_id (digit_member column digit) m)) (members (column + 1) digits)
    (others column digit (column + 1) digits (omega arith)))

map-same : {X Y : Type 0} (f g : X → Y) → ((x : X) → f x ≡ g x) → (xs : List X) → map f xs ≡ map g xs
map-same f g each [] = refl
map-same f g each (x ∷ xs) = λ i. each x i ∷ map-same f g each xs i

-- the groups are all lists of four digits, in lexicographic order
pub listed_drill : listed_groups drill_catalog drill_order ≡ map (members 0) (words 4)
unfolding listed_groups
listed_drill =
    ap (map (distinct same_id)) raw_drill
    ∙ (map-map (distinct same_id) (members 0) (words 4) ∙ map-same (λ word. distinct same_id (members 0 word))
    (members 0) (own_ids 0) (words 4))
