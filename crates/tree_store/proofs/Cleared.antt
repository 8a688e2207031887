-- What was laid at a path where nothing was, and is removed again.
use Rattle.std.proofs.Common.{◌≡◌, ◌∙◌, refl, sym, ap, subst, arith, ℕ, ◌≤◌, ◌+◌, Bool, true, false, cond, not}
use Rattle.std.proofs.Common.{◌||◌, ◌&&◌, ◌==◌}
use Rattle.std.proofs.Common.{◌⊎◌, inl, inr, List, [], ◌∷◌, ◌++◌, length, drop, nat_eq, is_some, codes, Option, Some}
use Rattle.std.proofs.Common.{None}
use Rattle.std.specs.FinMap.{get, retain_keys}
use Rattle.std.specs.List.{list_all, list_any, starts_with}
use Rattle.std.proofs.lemmas.Bool.{and_from}
use Rattle.cnb_world.specs.Calls.{RemovesSome}
use Rattle.std.specs.Str.{bytes_eq}
use Rattle.std.proofs.lemmas.Slice.Eq.{bytes_eq-Decides}
use Rattle.cnb_world.proofs.Folders.{get-without, not_longer}
use Rattle.cnb_world.proofs.Trees.{bytes_eq-same, same_tree}
use Rattle.cnb_world.specs.Path.{parent_of}
use Rattle.cnb_world.specs.Tree.{IsTree, Tree, folders_above, folders_from, is_folder, is_root, is_within, item_at}
use Rattle.cnb_world.specs.Tree.{without}
use Rattle.cnb_world.specs.declared.world.Item.{Item}
use Rattle.cnb_world.specs.declared.world.Item.TheVariants as item
use Rattle.tree_canon.specs.declared.node.Node.{Node}
use Rattle.tree_store.specs.Around.{IsMadeAbove, KeepsAround}
use Rattle.tree_store.specs.Overlay.{is_folder_node}
use Rattle.tree_store.specs.Partly.{IsOldOrPart, LaidPartly, items_placed}
use Rattle.tree_store.specs.Steps.{can_lay}
use Rattle.tree_store.proofs.Apart.{above_begins}
use Rattle.tree_store.proofs.Partly.{kept_or_gone}
use Rattle.tree_store.proofs.Places.{below_length, or_right}
use Rattle.tree_store.proofs.Standing.{below_is, nothing_below, parent_below}

-- the folders above a path have names
above_some : (front rest q : List ℕ) → list_any (bytes_eq q) (folders_from front rest) ≡ true → bytes_eq q [] ≡ false
above_some front [] q h = absurd (cc)
above_some front (c ∷ cs) q h = by (c == 47) (bytes_eq front []) refl h (above_some (front ++ c ∷ []) cs q)
  where
    first : (v : Bool) → bytes_eq q front ≡ v → bytes_eq front [] ≡ false
        → (v || list_any (bytes_eq q) (folders_from (front ++ c ∷ []) cs)) ≡ true
        → (list_any (bytes_eq q) (folders_from (front ++ c ∷ []) cs) ≡ true → bytes_eq q [] ≡ false)
        → bytes_eq q [] ≡ false
    first true e some h later = ap (λ p. bytes_eq p []) ((bytes_eq-Decides q front).0 e) ∙ some
    first false e some h later = later h

    by : (s v : Bool) → bytes_eq front [] ≡ v → list_any (bytes_eq q)
        (cond (s && not v) (front ∷ folders_from (front ++ c ∷ []) cs) (folders_from (front ++ c ∷ []) cs)) ≡ true
        → (list_any (bytes_eq q) (folders_from (front ++ c ∷ []) cs) ≡ true → bytes_eq q [] ≡ false)
        → bytes_eq q [] ≡ false
    by true false e h later = first (bytes_eq q front) refl e h later
    by true true e h later = later h
    by false v e h later = later h

module _ (root : List ℕ) (files : Tree) (all : IsTree files)
    (there : is_folder (item_at files (parent_of root)) ≡ true) where
  -- where the folder of a path is there, each one above it is
  above_there : (q : List ℕ) → list_any (bytes_eq q) (folders_above root) ≡ true → is_folder (item_at files q) ≡ true
  above_there q above = by (is_folder (item_at files q)) refl
    where
      some : bytes_eq q [] ≡ false
      some = above_some [] root q above

      is : root ≡ q ++ 47 ∷ drop (length (q ++ 47 ∷ [])) root
      is = below_is q root (above_begins [] root q above)

      long : (q p : List ℕ) → bytes_eq q [] ≡ false → starts_with nat_eq p (q ++ 47 ∷ []) ≡ true → is_root p ≡ false
      long [] p filled h = absurd (cc)
      long (c ∷ q) p filled h = not_longer p (47 ∷ [])
          (let size : length (c ∷ q) + 1 ≤ length p = below_length p (c ∷ q) h in omega arith)

      nothing_there : is_folder (item_at files q) ≡ false → (p : List ℕ)
          → starts_with nat_eq p (q ++ 47 ∷ []) ≡ true → is_folder (item_at files p) ≡ false
      nothing_there absent p h = ap (λ v. is_folder (cond v (Some item.Folder) (get files p))) (long q p some h)
          ∙ ap is_folder (nothing_below files all.standing q some absent p h)

      never : is_folder (item_at files q) ≡ false → (parent_of (q ++ 47 ∷ drop (length (q ++ 47 ∷ [])) root) ≡ q)
          ⊎ (starts_with nat_eq (parent_of (q ++ 47 ∷ drop (length (q ++ 47 ∷ [])) root)) (q ++ 47 ∷ []) ≡ true) → ⊥
      never absent (inl at) = let e : false ≡ true = sym absent
          ∙ ap (λ p. is_folder (item_at files p)) (sym (ap parent_of is ∙ at)) ∙ there in cc
      never absent (inr at) = let e : false ≡ true = sym (nothing_there absent (parent_of root)
          (ap (λ p. starts_with nat_eq (parent_of p) (q ++ 47 ∷ [])) is ∙ at)) ∙ there in cc

      by : (v : Bool) → is_folder (item_at files q) ≡ v → v ≡ true
      by true e = refl
      by false e = absurd (never e (parent_below q (drop (length (q ++ 47 ∷ [])) root) some))

  -- a tree may be laid where nothing is
  pub can_lay_there : (tree : Node) → is_root root ≡ false → item_at files root ≡ None
      → can_lay root (codes "/") tree files ≡ true
  can_lay_there tree plain none = and_from _ _ (each (folders_above root) above_there)
      (ap (λ v. not v || is_folder_node tree) plain)
    where
      fit : List ℕ → Bool
      fit p = is_folder (item_at files p) || not (is_some (item_at files p))

      folder_fits : (o : Option Item) → is_folder o ≡ true → (is_folder o || not (is_some o)) ≡ true
      folder_fits o h = ap (λ v. v || not (is_some o)) h

      each : (ps : List (List ℕ)) → ((q : List ℕ) → list_any (bytes_eq q) ps ≡ true
          → is_folder (item_at files q) ≡ true) → list_all fit (ps ++ root ∷ []) ≡ true
      each [] h = and_from _ _ (ap (λ o. is_folder o || not (is_some o)) none) refl
      each (p ∷ ps) h = and_from _ _
          (folder_fits (item_at files p) (h p (ap (λ v. v || list_any (bytes_eq p) ps) (bytes_eq-same p))))
          (each ps (λ q is. h q (or_right (bytes_eq q p) _ is)))

  nothing_within : is_root root ≡ false → bytes_eq root [] ≡ false → item_at files root ≡ None → (q : List ℕ)
      → is_within root q ≡ true → get files q ≡ None
  nothing_within plain root_some none q e = inside (bytes_eq q root) (starts_with nat_eq q (root ++ 47 ∷ [])) refl refl
      (sym (ap (λ v. v || (bytes_eq q root || starts_with nat_eq q (root ++ 47 ∷ []))) plain) ∙ e)
    where
      inside : (v w : Bool) → bytes_eq q root ≡ v → starts_with nat_eq q (root ++ 47 ∷ []) ≡ w
          → (v || w) ≡ true → get files q ≡ None
      inside true w same under h = ap (get files) ((bytes_eq-Decides q root).0 same)
          ∙ sym (ap (λ v. cond v (Some item.Folder) (get files root)) plain) ∙ none
      inside false true same under h = nothing_below files all.standing root root_some (ap is_folder none) q under
      inside false false same under h = absurd (cc)

  -- what stands around the path is all that stands, and what was laid at it is gone
  pub cleared_again : (mid : Tree) → IsTree mid → is_root root ≡ false → bytes_eq root [] ≡ false
      → item_at files root ≡ None → KeepsAround root files mid → without root mid ≡ files
  cleared_again mid standing plain root_some none kept = same_tree (without root mid) files
      (λ q. get-without root mid q ∙ by q (is_within root q) refl)
    where
      outside : (t : Tree) → IsTree t → (q : List ℕ) → is_root q ≡ true → get t q ≡ None
      outside t tree q is = none_at (get t q) refl
        where
          none_at : (o : Option Item) → get t q ≡ o → o ≡ None
          none_at None e = refl
          none_at (Some x) e = let no : true ≡ false = sym is ∙ (tree.standing q (ap is_some e)).1.0 in absurd (cc)

      by : (q : List ℕ) (v : Bool) → is_within root q ≡ v → cond (not v) (get mid q) None ≡ get files q
      by q true e = sym (nothing_within plain root_some none q e)
      by q false e = at q (is_root q) refl (kept q e)
        where
          at : (q : List ℕ) (v : Bool) → is_root q ≡ v
              → (item_at mid q ≡ item_at files q) ⊎ IsMadeAbove root q files mid → get mid q ≡ get files q
          at q true is h = outside mid standing q is ∙ sym (outside files all q is)
          at q false is (inl same) = sym (ap (λ v. cond v (Some item.Folder) (get mid q)) is) ∙ same
              ∙ ap (λ v. cond v (Some item.Folder) (get files q)) is
          at q false is (inr made) = absurd (let no : true ≡ false = sym (above_there q made.above)
              ∙ ap is_folder made.before in cc)

  -- of what was laid a part is removed
  pub partly_removed : (tree : Node) (mid : Tree) (o : Option Tree) → is_root root ≡ false → bytes_eq root [] ≡ false
      → item_at files root ≡ None → LaidPartly root (items_placed root (codes "/") tree) (Some files) (Some mid)
      → RemovesSome (Some mid) o root → LaidPartly root (items_placed root (codes "/") tree) (Some files) o
  unfolding LaidPartly
  partly_removed tree mid o plain root_some none partly (inl same) = subst
      (LaidPartly root (items_placed root (codes "/") tree) (Some files)) (sym same) partly
  partly_removed tree mid o plain root_some none partly (inr (stays, is)) = subst
      (LaidPartly root (items_placed root (codes "/") tree) (Some files)) (sym is) (λ q at. by q at
      (kept_or_gone mid (λ p. not (is_within root p) || stays p) q))
    where
      now : Tree
      now = retain_keys mid (λ p. not (is_within root p) || stays p)

      by : (q : List ℕ) → is_within root q ≡ true → (item_at now q ≡ item_at mid q) ⊎ (item_at now q ≡ None)
          → IsOldOrPart (items_placed root (codes "/") tree) q (item_at files q) (item_at now q)
      by q at (inl same) = subst (IsOldOrPart (items_placed root (codes "/") tree) q (item_at files q)) (sym same)
          (partly q at)
      by q at (inr gone) = inl (gone ∙ sym (here (is_root q) refl))
        where
          here : (v : Bool) → is_root q ≡ v → item_at files q ≡ None
          here true e = absurd (let no : Some item.Folder ≡ None
              = sym (ap (λ v. cond v (Some item.Folder) (get now q)) e) ∙ gone in cc)
          here false e = ap (λ v. cond v (Some item.Folder) (get files q)) e
              ∙ nothing_within plain root_some none q at
