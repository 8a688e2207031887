-- Each file and each link of an application is in one of its trees.
use Rattle.std.proofs.Common.{◌≡◌, ℕ, zero, suc, ◌+◌, ◌<◌, ◌≤◌, ◌∙◌, Bool, true, false, cond, List, [], ◌∷◌, ◌++◌, map}
use Rattle.std.proofs.Common.{length, Option, Some, None, refl, sym, ap, subst, arith, nat_eq}
use Rattle.std.specs.List.{filter_map, cons_option, range_with_len}
use Rattle.std.proofs.lemmas.Bool.{eqb-true, eq-eqb, ne_eqb}
use Rattle.std.proofs.lemmas.List.Elements.{filter_map-append}
use Rattle.tree_canon.specs.declared.node.Node.{Node}
use Rattle.tree_canon.specs.Fits.{fits}
use Rattle.tree_store.specs.Overlay.{items_of, given_at}
use Rattle.app_slices.specs.Slots.{Slices, Slot, slots, same_slot}
use Rattle.app_slices.specs.Slices.{tree_of, slices_of}
use Rattle.app_slices.specs.Laying.{InOne}
use Rattle.app_slices.proofs.Sharing.{IsSlotOf, SharesItem, SharesGiven, part_items, node_shares}

-- what is taken of a slot's number: an item where it is this one
abbrev if_same : {X : Type 0} → X → Slot → Slot → Option X
if_same x k w = cond (same_slot k w) (Some x) None

none_before : {X : Type 0} (x : X) (a n : ℕ) → filter_map (if_same x None) (map Some (range_with_len a n)) ≡ []
none_before x a zero = refl
none_before x a (suc n) = none_before x (a + 1) n

none_behind : {X : Type 0} (x : X) (j a n : ℕ) → j < a → filter_map (if_same x (Some j))
    (map Some (range_with_len a n)) ≡ []
none_behind x j a zero lt = refl
none_behind x j a (suc n) lt =
    ap (λ v. cons_option (cond v (Some x) None) (filter_map (if_same x (Some j))
    (map Some (range_with_len (a + 1) n)))) (ne_eqb j a (λ e. let no : j ≡ a = e in absurd (omega arith)))
    ∙ none_behind x j (a + 1) n (omega arith)

one_within : {X : Type 0} (x : X) (j a n : ℕ) → a ≤ j → j < a + n
    → filter_map (if_same x (Some j)) (map Some (range_with_len a n)) ≡ x ∷ []
one_within x j a zero le lt = absurd (omega arith)
one_within x j a (suc n) le lt = by (nat_eq j a) refl (one_within x j (a + 1) n)
  where
    by_order : (j ≡ a → ⊥) → a + 1 ≤ j
    by_order other = omega arith

    by : (v : Bool) → nat_eq j a ≡ v → (a + 1 ≤ j → j < a + 1 + n
        → filter_map (if_same x (Some j)) (map Some (range_with_len (a + 1) n)) ≡ x ∷ [])
        → filter_map (if_same x (Some j)) (map Some (range_with_len a (suc n))) ≡ x ∷ []
    by true e later =
        ap (λ v. cons_option (cond v (Some x) None) (filter_map (if_same x (Some j))
        (map Some (range_with_len (a + 1) n)))) e
        ∙ ap (λ xs. x ∷ xs) (none_behind x j (a + 1) n (let is : j ≡ a = eqb-true j a e in omega arith))
    by false e later =
        ap (λ v. cons_option (cond v (Some x) None) (filter_map (if_same x (Some j))
        (map Some (range_with_len (a + 1) n)))) e
        ∙ later (by_order (λ is. let no : false ≡ true = sym e ∙ eq-eqb j a is in cc)) (omega arith)

-- one slot is this one
pub one_slot : {X : Type 0} (slices : Slices) (x : X) (k : Slot) → IsSlotOf slices k
    → filter_map (if_same x k) (slots slices) ≡ x ∷ []
one_slot slices x None is = filter_map-append (if_same x None) (map Some (range_with_len 0 (length slices)))
    (None ∷ []) ∙ ap (λ xs. xs ++ x ∷ []) (none_before x 0 (length slices))
one_slot slices x (Some j) is =
    filter_map-append (if_same x (Some j)) (map Some (range_with_len 0 (length slices))) (None ∷ [])
    ∙ ap (λ xs. xs ++ []) (one_within x j 0 (length slices) (omega arith)
    (let less : j < length slices = is in omega arith))

module _ (slices : Slices) (app : Node) (fit : fits app 0 ≡ true) where
  given_by : (root path : List ℕ) (ws : List Slot) → filter_map (λ tree. given_at (items_of tree root) path)
      (filter_map (tree_of slices app) ws) ≡ filter_map (λ w. given_at
      (part_items (tree_of slices app w) root) path) ws
  given_by root path [] = refl
  given_by root path (w ∷ ws) = by (tree_of slices app w) (given_by root path ws)
    where
      by : (o : Option Node) → filter_map (λ tree. given_at (items_of tree root) path)
          (filter_map (tree_of slices app) ws) ≡ filter_map (λ w. given_at
          (part_items (tree_of slices app w) root) path) ws
          → filter_map (λ tree. given_at (items_of tree root) path)
          (cons_option o (filter_map (tree_of slices app) ws)) ≡ cons_option
          (given_at (part_items o root) path) (filter_map
          (λ w. given_at (part_items (tree_of slices app w) root) path) ws)
      by None rest = rest
      by (Some n) rest = ap (cons_option (given_at (items_of n root) path)) rest

  pub in_one : InOne (slices_of slices app) app
  unfolding slices_of
  in_one root path x given plain = given_by root path (slots slices)
      ∙ ap (λ f. filter_map f (slots slices)) (λ i. λ w. shared.2 w i) ∙ one_slot slices x shared.0 shared.1
    where
      shared : SharesItem slices false x (λ w. given_at (part_items (tree_of slices app w) root) path)
      shared = subst (λ v. SharesItem slices v x (λ w. given_at (part_items (tree_of slices app w) root) path)) plain
          (subst (λ o. SharesGiven slices o (λ w. given_at (part_items (tree_of slices app w) root) path)) given
          (node_shares slices app None [] root path 0 tt fit).given)
