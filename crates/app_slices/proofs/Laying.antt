-- Laying the trees of an application one after another leaves what the application leaves.
use Rattle.std.proofs.Common.{◌≡◌, ℕ, zero, suc, ◌+◌, ◌<◌, ◌≤◌, ◌∙◌, Bool, true, false, cond, not, ◌&&◌, List, [], ◌∷◌}
use Rattle.std.proofs.Common.{◌++◌, map, length, Option, Some, None, refl, sym, ap, subst, arith, ◌⊎◌, inl, inr, nat_eq}
use Rattle.std.proofs.Common.{length-append, append-nil}
use Rattle.std.specs.Prelude.{ltb}
use Rattle.std.specs.List.{list_any, starts_with, fold, filter_map, cons_option, range_with_len}
use Rattle.std.specs.Str.{bytes_eq}
use Rattle.std.specs.FinMap.{get}
use Rattle.std.proofs.lemmas.Bool.{and_parts, false_from_ne_true, ltb-true, ltb-false, eqb-true}
use Rattle.std.proofs.lemmas.Slice.Eq.{bytes_eq-Decides}
use Rattle.cnb_world.specs.Path.{joined}
use Rattle.cnb_world.specs.Tree.{Tree, is_folder, is_root, folders_above, folder_made}
use Rattle.cnb_world.specs.declared.world.Item.{Item}
use Rattle.cnb_world.specs.declared.world.Item.TheVariants as item
use Rattle.cnb_world.proofs.Folders.{get-with_folders}
use Rattle.cnb_world.proofs.Trees.{same_tree}
use Rattle.tree_canon.specs.declared.node.Node.{Node}
use Rattle.tree_canon.specs.declared.node.Named.{Named}
use Rattle.tree_canon.specs.declared.node.Node.TheVariants.{Folder}
use Rattle.tree_canon.specs.Fits.{fits}
use Rattle.tree_store.specs.Overlay.{Given, folder_at, items_of, items_under, given_at, is_replaced, stands, parts_of}
use Rattle.tree_store.specs.Overlay.{tree_laid}
use Rattle.tree_store.proofs.Overlays.{IsAway, laid_at, items_in, items_folder, node_away, get-lay}
use Rattle.tree_store.proofs.Places.{is_at_or_below, or_parts, or_from, below_child, below_length, shorter_away}
use Rattle.tree_store.proofs.Places.{made_length}
use Rattle.app_slices.specs.Slots.{Slices, Slot, slots, same_slot}
use Rattle.app_slices.specs.Slices.{folder_part, tree_of, slices_of}
use Rattle.app_slices.specs.Laying.{LaysAs}
use Rattle.app_slices.proofs.Parts.{kept, part_folder, folder_entries_fit}
use Rattle.app_slices.proofs.Sharing.{IsSlotOf, same_itself, SaySame, away_none, away_append, say_first, say_later}
use Rattle.app_slices.proofs.Sharing.{folder_elsewhere, SharesItem, SharesGiven, SharesReplaced, Shares, shares_same}
use Rattle.app_slices.proofs.Sharing.{part_items, entries_below, node_shares}

-- ---- the slots of slices

abbrev IsIn : List Slot → Slot → Type 0
IsIn [] k = ⊥
IsIn (w ∷ ws) k = (w ≡ k) ⊎ IsIn ws k

in_last : (ws : List Slot) (k : Slot) → IsIn (ws ++ k ∷ []) k
in_last [] k = inl refl
in_last (w ∷ ws) k = inr (in_last ws k)

in_first : (ws more : List Slot) (k : Slot) → IsIn ws k → IsIn (ws ++ more) k
in_first [] more k h = absurd h
in_first (w ∷ ws) more k (inl is) = inl is
in_first (w ∷ ws) more k (inr h) = inr (in_first ws more k h)

in_range : (a n k : ℕ) → a ≤ k → k < a + n → IsIn (map Some (range_with_len a n)) (Some k)
in_range a zero k le lt = absurd (omega arith)
in_range a (suc n) k le lt = by (ltb a k) refl (in_range (a + 1) n k)
  where
    by : (v : Bool) → ltb a k ≡ v → (a + 1 ≤ k → k < a + 1 + n
        → IsIn (map Some (range_with_len (a + 1) n)) (Some k)) → IsIn (map Some (range_with_len a (suc n)))
        (Some k)
    by true more later = let less : a < k = ltb-true a k more in inr (later (omega arith) (omega arith))
    by false same later = let most : k ≤ a = ltb-false a k same in inl (ap Some (let is : a ≡ k = omega arith in is))

in_slots : (slices : Slices) (k : Slot) → IsSlotOf slices k → IsIn (slots slices) k
in_slots slices None is = in_last (map Some (range_with_len 0 (length slices))) None
in_slots slices (Some k) is = in_first (map Some (range_with_len 0 (length slices))) (None ∷ []) (Some k)
    (in_range 0 (length slices) k (omega arith) (omega (arith, is)))

-- ---- lists of items laid one after another, at one path

module _ (q : List ℕ) (parts : Slot → List Given) where
  abbrev laid_all : Option Item → List Slot → Option Item
  laid_all old ws = fold (λ left w. laid_at (parts w) q left) old ws

  abbrev AreSome : Item → Type 0
  AreSome x = (w : Slot) → (given_at (parts w) q ≡ None) ⊎ (given_at (parts w) q ≡ Some x)

  abbrev AreNone : Type 0
  AreNone = (w : Slot) → given_at (parts w) q ≡ None

  abbrev NoneReplaces : Type 0
  NoneReplaces = (w : Slot) → is_replaced (parts w) q ≡ false

  stays_some : (x : Item) (o : Option Item) (r : Bool) → (o ≡ None) ⊎ (o ≡ Some x) → r ≡ false
      → stands o r (Some x) ≡ Some x
  stays_some x o r (inl none) f = λ i. stands (none i) (f i) (Some x)
  stays_some x o r (inr some) f = ap (λ t. stands t r (Some x)) some

  keeps : (ws : List Slot) (x : Item) → AreSome x → NoneReplaces → laid_all (Some x) ws ≡ Some x
  keeps [] x each none = refl
  keeps (w ∷ ws) x each none = ap (λ o. laid_all o ws)
      (stays_some x (given_at (parts w) q) (is_replaced (parts w) q) (each w) (none w)) ∙ keeps ws x each none

  comes : (ws : List Slot) (x : Item) (k : Slot) (old : Option Item) → AreSome x → NoneReplaces → IsIn ws k
      → given_at (parts k) q ≡ Some x → laid_all old ws ≡ Some x
  comes [] x k old each none h gives = absurd h
  comes (w ∷ ws) x k old each none (inl is) gives = ap (λ o. laid_all (stands o (is_replaced (parts w) q) old) ws)
      (ap (λ j. given_at (parts j) q) is ∙ gives) ∙ keeps ws x each none
  comes (w ∷ ws) x k old each none (inr h) gives = comes ws x k (laid_at (parts w) q old) each none h gives

  none_stays : (o : Option Item) (r : Bool) → o ≡ None → stands o r None ≡ None
  none_stays o true e = ap (λ t. stands t true None) e
  none_stays o false e = ap (λ t. stands t false None) e

  nothing_comes : (ws : List Slot) → AreNone → laid_all None ws ≡ None
  nothing_comes [] each = refl
  nothing_comes (w ∷ ws) each = ap (λ o. laid_all o ws)
      (none_stays (given_at (parts w) q) (is_replaced (parts w) q) (each w)) ∙ nothing_comes ws each

  goes : (ws : List Slot) (k : Slot) (old : Option Item) → AreNone → IsIn ws k → is_replaced (parts k) q ≡ true
      → laid_all old ws ≡ None
  goes [] k old each h replaces = absurd h
  goes (w ∷ ws) k old each (inl is) replaces = ap (λ o. laid_all o ws)
      (λ i. stands (each w i) ((ap (λ j. is_replaced (parts j) q) is ∙ replaces) i) old) ∙ nothing_comes ws each
  goes (w ∷ ws) k old each (inr h) replaces = goes ws k (laid_at (parts w) q old) each h replaces

  all_stays : (ws : List Slot) (old : Option Item) → AreNone → NoneReplaces → laid_all old ws ≡ old
  all_stays [] old each none = refl
  all_stays (w ∷ ws) old each none = ap (λ o. laid_all o ws) (λ i. stands (each w i) (none w i) old)
      ∙ all_stays ws old each none

  -- what the parts say of a path, where something is given there
  some_of : (slices : Slices) (v : Bool) (x : Item) → SharesItem slices v x (λ w. given_at (parts w) q)
      → AreSome x × ((k : Slot) × IsSlotOf slices k × (given_at (parts k) q ≡ Some x))
  some_of slices true x s = (s.0, s.1)
  some_of slices false x (k, is, each) = (
    λ w. by (same_slot k w) (each w),
    (k, is, each k ∙ ap (λ v. cond v (Some x) None) (same_itself k)),
  )
    where
      by : (v : Bool) {o : Option Item} → o ≡ cond v (Some x) None → (o ≡ None) ⊎ (o ≡ Some x)
      by true e = inr e
      by false e = inl e

  by_cases : (slices : Slices) (whole : List Given) (old : Option Item) → Shares slices whole parts q
      → (o : Option Item) (r : Bool) → given_at whole q ≡ o → is_replaced whole q ≡ r
      → SharesGiven slices o (λ w. given_at (parts w) q) → SharesReplaced slices r (λ w. is_replaced (parts w) q)
      → laid_all old (slots slices) ≡ stands o r old
  by_cases slices whole old s (Some x) true given replaced sg sr = let no : true ≡ false = sym replaced
      ∙ s.clean x given in absurd (cc)
  by_cases slices whole old s (Some x) false given replaced sg sr = let p = some_of slices
      (is_folder (Some x)) x sg in comes (slots slices) x p.1.0 old p.0 sr (in_slots slices p.1.0 p.1.1) p.1.2
  by_cases slices whole old s None true given replaced sg sr = goes (slots slices) sr.0 old sg
      (in_slots slices sr.0 sr.1) sr.2
  by_cases slices whole old s None false given replaced sg sr = all_stays (slots slices) old sg sr

  pub parts_lay : (slices : Slices) (whole : List Given) (old : Option Item) → Shares slices whole parts q
      → laid_all old (slots slices) ≡ laid_at whole q old
  parts_lay slices whole old s = by_cases slices whole old s (given_at whole q)
      (is_replaced whole q) refl refl s.given s.replaced

-- ---- the way to a place

under_away : (parts : List (List ℕ)) (node : Node) (path q : List ℕ) → is_at_or_below path q ≡ false
    → IsAway (items_under node parts path) q
under_away [] node path q h = node_away node path q h
under_away (part ∷ parts) node path q h = away_append (folder_at path) (items_under node parts (joined path part)) q
    (folder_elsewhere path q (or_parts (bytes_eq q path) (starts_with nat_eq q (joined path [])) h).0)
    (under_away parts node (joined path part) q (below_child path part q h))

longer_part : (path part : List ℕ) → is_root path ≡ false → length path < length (joined path part)
longer_part path part plain =
    let is : joined path part ≡ (path ++ 47 ∷ []) ++ part = ap (λ v. (cond v path (path ++ 47 ∷ [])) ++ part) plain in
    let one : length ((path ++ 47 ∷ []) ++ part) ≡ length (path ++ 47 ∷ []) + length part = length-append
    (path ++ 47 ∷ []) part in
    let two : length (path ++ 47 ∷ []) ≡ length path + 1 = length-append path (47 ∷ []) in
    let size : length (joined path part) ≡ length ((path ++ 47 ∷ []) ++ part) = ap length is in
    omega arith

-- what is behind a folder on the way says nothing of its path
rest_away : (parts : List (List ℕ)) (node : Node) (path part : List ℕ) → is_root path ≡ false
    → IsAway (items_under node parts (joined path part)) path
rest_away parts node path part plain = under_away parts node (joined path part) path
    (shorter_away (joined path part) path (longer_part path part plain))

abbrev under_items : Option Node → List (List ℕ) → List ℕ → List Given
under_items None parts root = []
under_items (Some n) parts root = items_under n parts root

items_are : (o : Option Node) (root : List ℕ) → part_items o root ≡ under_items o [] root
items_are None root = refl
items_are (Some n) root = refl

-- items that say nothing of a path, or that a folder is there
abbrev SaysFolder : List ℕ → List Given → Type 0
SaysFolder q items = ((given_at items q ≡ None) ⊎ (given_at items q ≡ Some item.Folder)) × (is_replaced items q ≡ false)

folder_nowhere : (path q : List ℕ) → is_root path ≡ true → IsAway (folder_at path) q
folder_nowhere path q root = subst (λ v. IsAway (cond v [] ((path, item.Folder) ∷ [])) q) (sym root) (away_none q)

module _ (slices : Slices) (es : List Named) (fit : fits (Folder es) 0 ≡ true) where
  abbrev trees : Slot → Option Node
  trees w = tree_of slices (Folder es) w

  -- the rest always has a tree
  rest_tree : (t : Node) × (tree_of slices (Folder es) None ≡ Some t)
  rest_tree = let found = by (kept slices None None [] es) in (found.0, part_folder slices None None [] es ∙ found.1)
    where
      by : (ks : List Named) → (t : Node) × (folder_part true ks ≡ Some t)
      by [] = (Folder [], refl)
      by (k ∷ ks) = (Folder (k ∷ ks), refl)

  way_shares : (parts : List (List ℕ)) (root q : List ℕ) → Shares slices (items_under (Folder es) parts root)
      (λ w. under_items (tree_of slices (Folder es) w) parts root) q
  way_shares [] root q = subst (λ ours. Shares slices (items_of (Folder es) root) ours q)
      (λ i. λ w. items_are (tree_of slices (Folder es) w) root i)
      (node_shares slices (Folder es) None [] root q 0 tt fit)
  way_shares (part ∷ parts) root q = by (is_root root) refl (bytes_eq q root) refl
      (way_shares parts (joined root part) q)
    where
      past : (o : Option Node) → IsAway (folder_at root) q → SaySame q (under_items o parts (joined root part))
          (under_items o (part ∷ parts) root)
      past None away = (refl, refl)
      past (Some n) away = say_later q (folder_at root) (items_under n parts (joined root part)) away

      later : IsAway (folder_at root) q → Shares slices (items_under (Folder es) parts (joined root part))
          (λ w. under_items (tree_of slices (Folder es) w) parts (joined root part)) q
          → Shares slices (items_under (Folder es) (part ∷ parts) root)
          (λ w. under_items (tree_of slices (Folder es) w) (part ∷ parts) root) q
      later away rest = shares_same slices (items_under (Folder es) parts (joined root part))
          (items_under (Folder es) (part ∷ parts) root)
          (λ w. under_items (tree_of slices (Folder es) w) parts (joined root part))
          (λ w. under_items (tree_of slices (Folder es) w) (part ∷ parts) root) q
          (say_later q (folder_at root) (items_under (Folder es) parts (joined root part)) away)
          (λ w. past (tree_of slices (Folder es) w) away) rest

      one : List Given
      one = (root, item.Folder) ∷ []

      top : Option Node → List Given
      top None = []
      top (Some n) = one

      here_away : (n : Node) → is_root root ≡ false → bytes_eq q root ≡ true
          → IsAway (items_under n parts (joined root part)) q
      here_away n plain here = subst (IsAway (items_under n parts (joined root part)))
          (sym ((bytes_eq-Decides q root).0 here)) (rest_away parts n root part plain)

      first : (n : Node) → is_root root ≡ false → bytes_eq q root ≡ true
          → SaySame q one (items_under n (part ∷ parts) root)
      first n plain here = subst (λ v. SaySame q one (cond v [] one ++ items_under n parts (joined root part)))
          (sym plain) (say_first q one (items_under n parts (joined root part)) (here_away n plain here))

      first_of_all : (o : Option Node) → is_root root ≡ false → bytes_eq q root ≡ true
          → SaySame q (top o) (under_items o (part ∷ parts) root)
      first_of_all None plain here = (refl, refl)
      first_of_all (Some n) plain here = first n plain here

      given_here : bytes_eq q root ≡ true → given_at one q ≡ Some item.Folder
      given_here here = ap (λ v. cond v (Some item.Folder) None) here

      each : bytes_eq q root ≡ true → (o : Option Node) → (given_at (top o) q ≡ None)
          ⊎ (given_at (top o) q ≡ Some item.Folder)
      each here None = inl refl
      each here (Some n) = inr (given_here here)

      never : (o : Option Node) → is_replaced (top o) q ≡ false
      never None = refl
      never (Some n) = refl

      top_shares : bytes_eq q root ≡ true → Shares slices one (λ w. top (tree_of slices (Folder es) w)) q
      top_shares here = record {
        given = subst (λ o. SharesGiven slices o (λ w. given_at (top (tree_of slices (Folder es) w)) q))
            (sym (given_here here)) (
              (λ w. each here (tree_of slices (Folder es) w)),
              (None, tt, ap (λ o. given_at (top o) q) rest_tree.1 ∙ given_here here),
            );
        replaced = λ w. never (tree_of slices (Folder es) w);
        clean = λ x e. refl;
      }

      by : (v : Bool) → is_root root ≡ v → (s : Bool) → bytes_eq q root ≡ s
          → Shares slices (items_under (Folder es) parts (joined root part))
          (λ w. under_items (tree_of slices (Folder es) w) parts (joined root part)) q
          → Shares slices (items_under (Folder es) (part ∷ parts) root)
          (λ w. under_items (tree_of slices (Folder es) w) (part ∷ parts) root) q
      by true plain s here rest = later (folder_nowhere root q plain) rest
      by false plain false other rest = later (folder_elsewhere root q other) rest
      by false plain true here rest = shares_same slices one (items_under (Folder es) (part ∷ parts) root)
          (λ w. top (tree_of slices (Folder es) w)) (λ w. under_items (tree_of slices (Folder es) w)
          (part ∷ parts) root) q
          (first (Folder es) plain here) (λ w. first_of_all (tree_of slices (Folder es) w) plain here) (top_shares here)

  -- ---- the folders that are made first

  -- at these the application gives nothing but a folder
  above_says : (parts : List (List ℕ)) (root q : List ℕ) → list_any (bytes_eq q) (folders_above root ++ root ∷ [])
      ≡ true → is_root q ≡ false
      → SaysFolder q (items_under (Folder es) parts root)
  above_says parts root q made plain = by (bytes_eq q root) refl
    where
      folder_first : (rest : List Given) → bytes_eq q root ≡ true → IsAway rest q
          → SaysFolder q (folder_at root ++ rest)
      folder_first rest here away = subst (λ v. SaysFolder q (cond v [] ((root, item.Folder) ∷ []) ++ rest))
          (sym (ap is_root (sym ((bytes_eq-Decides q root).0 here)) ∙ plain))
          (inr (ap (λ v. cond v (Some item.Folder) (given_at rest q)) here), away.stays)

      at_root : (parts : List (List ℕ)) → bytes_eq q root ≡ true → SaysFolder q (items_under (Folder es) parts root)
      at_root [] here = subst (SaysFolder q) (sym (items_folder es root))
          (folder_first (items_in es root) here (subst (IsAway (items_in es root))
          (sym ((bytes_eq-Decides q root).0 here)) (entries_below es None 1 root (folder_entries_fit es 0 fit))))
      at_root (part ∷ parts) here = folder_first (items_under (Folder es) parts (joined root part)) here
          (subst (IsAway (items_under (Folder es) parts (joined root part))) (sym same)
          (rest_away parts (Folder es) root part (ap is_root (sym same) ∙ plain)))
        where
          same : q ≡ root
          same = (bytes_eq-Decides q root).0 here

      by : (v : Bool) → bytes_eq q root ≡ v → SaysFolder q (items_under (Folder es) parts root)
      by true here = at_root parts here
      by false other = let away = under_away parts (Folder es) root q
          (or_from (bytes_eq q root) (starts_with nat_eq q (joined root [])) other
          (not_inside (is_root root) refl)) in (inl away.none, away.stays)
        where
          short : length q ≤ length root
          short = made_length root q made

          not_inside : (v : Bool) → is_root root ≡ v → starts_with nat_eq q (joined root []) ≡ false
          not_inside true e = false_from_ne_true _ (λ h. absurd
              (let no : true ≡ false = sym (slash q (ap (λ r. starts_with nat_eq q (joined r []))
              (sym ((bytes_eq-Decides root (47 ∷ [])).0 e)) ∙ h)
              (let one : length root ≡ 1 = ap length ((bytes_eq-Decides root (47 ∷ [])).0 e)
              in let le : length q ≤ length root = short in omega arith)) ∙ plain in cc))
            where
              slash : (q : List ℕ) → starts_with nat_eq q (47 ∷ []) ≡ true → length q ≤ 1 → is_root q ≡ true
              slash [] h le = absurd (cc)
              slash (c ∷ []) h le = ap (λ x. is_root (x ∷ []))
                  (sym (eqb-true 47 c (and_parts (nat_eq 47 c) (starts_with nat_eq [] []) h).0))
              slash (c ∷ d ∷ q) h le = absurd (omega arith)
          not_inside false e = false_from_ne_true _ (λ h. absurd
              (let more : length root + 1 ≤ length q = below_length q root
              (sym (ap (starts_with nat_eq q) (ap (λ v. (cond v root (root ++ 47 ∷ [])) ++ []) e
              ∙ append-nil (root ++ 47 ∷ []))) ∙ h) in let le : length q ≤ length root = short in omega arith))

  -- ---- path by path

  abbrev made : List ℕ → List ℕ → Option Item → Option Item
  made root q old = cond (list_any (bytes_eq q) (folders_above root ++ root ∷ []) && not (is_root q))
      (Some item.Folder) old

  get-tree_laid : (root place : List ℕ) (node : Node) (files : Tree) (q : List ℕ)
      → get (tree_laid root place node files) q ≡ laid_at (items_under node (parts_of place) root) q
      (made root q (get files q))
  unfolding tree_laid
  get-tree_laid root place node files q =
      get-lay (items_under node (parts_of place) root) (folder_made root files) q
      ∙ ap (laid_at (items_under node (parts_of place) root) q)
      (get-with_folders (folders_above root ++ root ∷ []) files q)

  -- a tree that may not be, laid at one path
  abbrev one_laid : List (List ℕ) → List ℕ → List ℕ → Option Item → Option Node → Option Item
  one_laid parts root q old None = old
  one_laid parts root q old (Some n) = laid_at (items_under n parts root) q (made root q old)

  get-fold : (root place q : List ℕ) (ts : List Node) (files : Tree)
      → get (fold (λ left tree. tree_laid root place tree left) files ts) q
      ≡ fold (λ old n. laid_at (items_under n (parts_of place) root) q (made root q old)) (get files q) ts
  get-fold root place q [] files = refl
  get-fold root place q (t ∷ ts) files =
      get-fold root place q ts (tree_laid root place t files)
      ∙ ap (λ o. fold (λ old n. laid_at (items_under n (parts_of place) root) q (made root q old)) o ts)
      (get-tree_laid root place t files q)

  fold_some : (parts : List (List ℕ)) (root q : List ℕ) (ws : List Slot) (old : Option Item)
      → fold (λ old n. laid_at (items_under n parts root) q (made root q old)) old (filter_map trees ws)
      ≡ fold (λ old w. one_laid parts root q old (trees w)) old ws
  fold_some parts root q [] old = refl
  fold_some parts root q (w ∷ ws) old = by (tree_of slices (Folder es) w) (fold_some parts root q ws)
    where
      by : (o : Option Node) → ((old : Option Item)
          → fold (λ old n. laid_at (items_under n parts root) q (made root q old)) old (filter_map trees ws)
          ≡ fold (λ old w. one_laid parts root q old (trees w)) old ws)
          → fold (λ old n. laid_at (items_under n parts root) q (made root q old)) old
          (cons_option o (filter_map trees ws)) ≡ fold (λ old w. one_laid parts root q old (trees w))
          (one_laid parts root q old o) ws
      by None rest = rest old
      by (Some n) rest = rest (laid_at (items_under n parts root) q (made root q old))

  -- where no folder is made
  elsewhere : (parts : List (List ℕ)) (root q : List ℕ) (old : Option Item)
      → (list_any (bytes_eq q) (folders_above root ++ root ∷ []) && not (is_root q)) ≡ false
      → fold (λ old w. one_laid parts root q old (trees w)) old (slots slices)
      ≡ laid_at (items_under (Folder es) parts root) q (made root q old)
  elsewhere parts root q old other =
      ap (λ f. fold f old (slots slices)) (λ i. λ left w. one left (trees w) i)
      ∙ parts_lay q (λ w. under_items (trees w) parts root) slices (items_under (Folder es) parts root) old
      (way_shares parts root q)
      ∙ ap (λ v. laid_at (items_under (Folder es) parts root) q (cond v (Some item.Folder) old)) (sym other)
    where
      one : (left : Option Item) (o : Option Node) → one_laid parts root q left o
          ≡ laid_at (under_items o parts root) q left
      one left None = refl
      one left (Some n) = ap (λ v. laid_at (items_under n parts root) q (cond v (Some item.Folder) left)) other

  -- where one is
  at_made : (parts : List (List ℕ)) (root q : List ℕ) (old : Option Item)
      → (list_any (bytes_eq q) (folders_above root ++ root ∷ []) && not (is_root q)) ≡ true
      → fold (λ old w. one_laid parts root q old (trees w)) old (slots slices)
      ≡ laid_at (items_under (Folder es) parts root) q (made root q old)
  at_made parts root q old here =
      folder_comes (slots slices) old (in_slots slices None tt)
      ∙ sym (ap (λ v. laid_at (items_under (Folder es) parts root) q (cond v (Some item.Folder) old)) here
      ∙ says_stays _ _ says.0 says.1)
    where
      p : (list_any (bytes_eq q) (folders_above root ++ root ∷ []) ≡ true) × (is_root q ≡ false)
      p = by (is_root q) (and_parts (list_any (bytes_eq q) (folders_above root ++ root ∷ [])) (not (is_root q)) here)
        where
          by : (v : Bool) → (list_any (bytes_eq q) (folders_above root ++ root ∷ []) ≡ true) × (not v ≡ true)
              → (list_any (bytes_eq q) (folders_above root ++ root ∷ []) ≡ true) × (v ≡ false)
          by true h = absurd (let no : false ≡ true = h.1 in cc)
          by false h = (h.0, refl)

      says : SaysFolder q (items_under (Folder es) parts root)
      says = above_says parts root q p.0 p.1

      says_stays : (o : Option Item) (r : Bool) → (o ≡ None) ⊎ (o ≡ Some item.Folder) → r ≡ false
          → stands o r (Some item.Folder) ≡ Some item.Folder
      says_stays o r (inl none) f = λ i. stands (none i) (f i) (Some item.Folder)
      says_stays o r (inr some) f = ap (λ t. stands t r (Some item.Folder)) some

      given_each : (w : Slot) → (given_at (under_items (trees w) parts root) q ≡ None)
          ⊎ (given_at (under_items (trees w) parts root) q ≡ Some item.Folder)
      given_each = by (given_at (items_under (Folder es) parts root) q) says.0 (way_shares parts root q).given
        where
          by : (o : Option Item) → (o ≡ None) ⊎ (o ≡ Some item.Folder)
              → SharesGiven slices o (λ w. given_at (under_items (trees w) parts root) q)
              → (w : Slot) → (given_at (under_items (trees w) parts root) q ≡ None)
              ⊎ (given_at (under_items (trees w) parts root) q ≡ Some item.Folder)
          by o (inl e) s w = inl (subst (λ x. SharesGiven slices x
              (λ w. given_at (under_items (trees w) parts root) q)) e s w)
          by o (inr e) s w = (subst (λ x. SharesGiven slices x
              (λ w. given_at (under_items (trees w) parts root) q)) e s).0 w

      replaced_none : (w : Slot) → is_replaced (under_items (trees w) parts root) q ≡ false
      replaced_none = subst (λ v. SharesReplaced slices v (λ w. is_replaced (under_items (trees w) parts root) q))
          says.1 (way_shares parts root q).replaced

      some_folder : (left : Option Item) (n : Node) → (given_at (items_under n parts root) q ≡ None)
          ⊎ (given_at (items_under n parts root) q ≡ Some item.Folder)
          → is_replaced (items_under n parts root) q ≡ false
          → one_laid parts root q left (Some n) ≡ Some item.Folder
      some_folder left n given replaced = ap (λ v. laid_at (items_under n parts root) q
          (cond v (Some item.Folder) left)) here ∙ says_stays _ _ given replaced

      folder_stays : (o : Option Node) → (given_at (under_items o parts root) q ≡ None)
          ⊎ (given_at (under_items o parts root) q ≡ Some item.Folder)
          → is_replaced (under_items o parts root) q ≡ false
          → one_laid parts root q (Some item.Folder) o ≡ Some item.Folder
      folder_stays None given replaced = refl
      folder_stays (Some n) given replaced = some_folder (Some item.Folder) n given replaced

      all_folder : (ws : List Slot) → fold (λ old w. one_laid parts root q old (trees w)) (Some item.Folder) ws
          ≡ Some item.Folder
      all_folder [] = refl
      all_folder (w ∷ ws) = ap (λ o. fold (λ old w. one_laid parts root q old (trees w)) o ws)
          (folder_stays (trees w) (given_each w) (replaced_none w)) ∙ all_folder ws

      rest_folder : (w : Slot) (left : Option Item) → w ≡ None → one_laid parts root q left (trees w) ≡ Some item.Folder
      rest_folder w left e =
          ap (λ k. one_laid parts root q left (trees k)) e ∙ ap (one_laid parts root q left) rest_tree.1
          ∙ some_folder left rest_tree.0 (subst (λ o. (given_at (under_items o parts root) q ≡ None)
          ⊎ (given_at (under_items o parts root) q ≡ Some item.Folder)) rest_tree.1 (given_each None))
          (subst (λ o. is_replaced (under_items o parts root) q ≡ false) rest_tree.1 (replaced_none None))

      folder_comes : (ws : List Slot) (left : Option Item) → IsIn ws None
          → fold (λ old w. one_laid parts root q old (trees w)) left ws ≡ Some item.Folder
      folder_comes [] left h = absurd h
      folder_comes (w ∷ ws) left (inl e) = ap (λ o. fold (λ old w. one_laid parts root q old (trees w)) o ws)
          (rest_folder w left e) ∙ all_folder ws
      folder_comes (w ∷ ws) left (inr h) = folder_comes ws (one_laid parts root q left (trees w)) h

  each_path : (parts : List (List ℕ)) (root q : List ℕ) (old : Option Item)
      → fold (λ old w. one_laid parts root q old (trees w)) old (slots slices)
      ≡ laid_at (items_under (Folder es) parts root) q (made root q old)
  each_path parts root q old = by (list_any (bytes_eq q) (folders_above root ++ root ∷ []) && not (is_root q)) refl
    where
      by : (v : Bool) → (list_any (bytes_eq q) (folders_above root ++ root ∷ []) && not (is_root q)) ≡ v
          → fold (λ old w. one_laid parts root q old (trees w)) old (slots slices)
          ≡ laid_at (items_under (Folder es) parts root) q (made root q old)
      by true e = at_made parts root q old e
      by false e = elsewhere parts root q old e

  pub slices_lay : LaysAs (slices_of slices (Folder es)) (Folder es)
  unfolding slices_of
  slices_lay root place files = same_tree _ _ (λ q.
      get-fold root place q (filter_map trees (slots slices)) files
      ∙ fold_some (parts_of place) root q (slots slices) (get files q)
      ∙ each_path (parts_of place) root q (get files q)
      ∙ sym (get-tree_laid root place (Folder es) files q))
