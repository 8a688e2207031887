-- What stands at a path once a folder, a document or a tree came to stand, and that nothing in a folder changes what
-- isn't there.
use Rattle.std.proofs.Common.{◌≡◌, ◌∙◌, refl, sym, ap, subst, ℕ, Bool, true, false, not, cond, ◌&&◌, ◌||◌, List, []}
use Rattle.std.proofs.Common.{◌∷◌, ◌++◌, ◌==◌, append-nil, append_assoc, codes, nat_eq, Option, Some, None}
use Rattle.std.proofs.lemmas.List.Folds.{list_any-append}
use Rattle.std.specs.FinMap.{get, remove}
use Rattle.std.specs.List.{list_any, starts_with}
use Rattle.std.specs.Option.{option_map}
use Rattle.std.specs.Str.{bytes_eq}
use Rattle.cnb_world.proofs.EffectLemmas.{same_path}
use Rattle.cnb_world.proofs.Folders.{get-with_folders, get-without}
use Rattle.cnb_world.proofs.Joins.{beside-joined}
use Rattle.cnb_world.proofs.Parents.{has_slash}
use Rattle.cnb_world.proofs.Trees.{get-insert_bytes, get-remove_bytes}
use Rattle.cnb_world.specs.Path.{beside, front_of, joined, parent_of}
use Rattle.cnb_world.specs.Tree.{Tree, folder_made, folders_above, folders_from, is_root, is_under, is_within, without}
use Rattle.cnb_world.specs.Whole.{written}
use Rattle.cnb_world.specs.declared.world.Item.{Item}
use Rattle.cnb_world.specs.declared.world.Item.TheVariants.{Folder, File}
use Rattle.image_files.specs.Paths.{document_name}
use Rattle.steps.specs.Keeping.{folder_paths}
use Rattle.tree_canon.specs.declared.node.Node.{Node}
use Rattle.tree_store.proofs.Overlays.{IsAway, get-lay, node_away}
use Rattle.tree_store.proofs.Places.{below_child, is_at_or_below, longer_front, or_parts, or_right, starts_itself}
use Rattle.tree_store.specs.Overlay.{given_at, is_replaced, items_of, stands, tree_laid}
use Rattle.cnb_restore.specs.RestoredFiles.{AreLeft, Part, with_contents, with_document, with_folder, with_part}
use Rattle.cnb_restore.specs.RestoredFiles.{with_parts, with_store}

-- ---- path by path

pub get-written : (path bytes q : List ℕ) (files : Tree)
    → get (written path bytes files) q ≡ with_document path bytes q (get files q)
get-written path bytes q files =
    let made : Tree = folder_made (parent_of path) files in
    get-insert_bytes (remove made (beside path)) path (File false bytes) q
    ∙ ap (cond (bytes_eq q path) (Some (File false bytes)))
    (get-remove_bytes made (beside path) q ∙ ap (cond (bytes_eq q (beside path)) None)
    (get-with_folders (folder_paths (parent_of path)) files q))

pub get-laid : (root : List ℕ) (tree : Node) (files : Tree) (q : List ℕ)
    → get (tree_laid root (codes "/") tree files) q ≡ with_contents root (Some tree) q (get files q)
unfolding tree_laid
get-laid root tree files q = get-lay (items_of tree root) (folder_made root files) q
    ∙ ap (stands (given_at (items_of tree root) q) (is_replaced (items_of tree root) q))
    (get-with_folders (folder_paths root) files q)

-- a folder that is made anew
pub get-anew : (folder : List ℕ) (files : Tree) (q : List ℕ) → get (folder_made folder (without folder files)) q
    ≡ with_folder folder q (cond (is_within folder q) None (get files q))
get-anew folder files q = get-with_folders (folder_paths folder) (without folder files) q
    ∙ ap (with_folder folder q) (get-without folder files q ∙ by (is_within folder q))
  where
    by : (v : Bool) → cond (not v) (get files q) None ≡ cond v None (get files q)
    by true = refl
    by false = refl

-- ---- files that are left, step by step

pub left_same : (o o1 : Option Tree) → o1 ≡ o → AreLeft (λ q found. found) o o1
left_same None o1 same = same
left_same (Some files) o1 same = (files, same, λ q. refl)

pub left_by : (found : List ℕ → Option Item → Option Item) (change : Tree → Tree) (o o1 : Option Tree)
    → ((files : Tree) (q : List ℕ) → get (change files) q ≡ found q (get files q)) → o1 ≡ option_map change o
    → AreLeft found o o1
left_by found change None o1 at is = is
left_by found change (Some files) o1 at is = (change files, is, at files)

pub left_then : (found more : List ℕ → Option Item → Option Item) (o o1 o2 : Option Tree) → AreLeft found o o1
    → AreLeft more o1 o2 → AreLeft (λ q old. more q (found q old)) o o2
left_then found more None o1 o2 is next = subst (λ (v : Option Tree). AreLeft more v o2) is next
left_then found more (Some files) o1 o2 (left, is, at) next =
    let (last, told, then) = subst (λ (v : Option Tree). AreLeft more v o2) is next in
    (last, told, λ q. then q ∙ ap (more q) (at q))

pub left_so : (found other : List ℕ → Option Item → Option Item) (o o1 : Option Tree)
    → ((q : List ℕ) (old : Option Item) → found q old ≡ other q old) → AreLeft found o o1 → AreLeft other o o1
left_so found other None o1 same is = is
left_so found other (Some files) o1 same (left, is, at) = (left, is, λ q. at q ∙ same q (get files q))

-- ---- folders above a path

or_later : (a b : Bool) → (a || b) ≡ true → a ≡ false → b ≡ true
or_later true b h e = absurd (cc)
or_later false b h e = h

or_first : (a b : Bool) → a ≡ true → (a || b) ≡ true
or_first true b h = refl
or_first false b h = absurd (cc)

starts_front : (front rest q : List ℕ) → list_any (bytes_eq q) (folders_from front rest) ≡ true
    → starts_with nat_eq q front ≡ true
starts_front front [] q h = absurd (cc)
starts_front front (c ∷ cs) q h = by (c == 47 && not (bytes_eq front [])) h
    (λ later. longer_front q front (c ∷ []) (starts_front (front ++ c ∷ []) cs q later))
  where
    Later : Type 0
    Later = list_any (bytes_eq q) (folders_from (front ++ c ∷ []) cs) ≡ true → starts_with nat_eq q front ≡ true

    here : (v : Bool) → bytes_eq q front ≡ v → (v || list_any (bytes_eq q) (folders_from (front ++ c ∷ []) cs)) ≡ true
        → Later → starts_with nat_eq q front ≡ true
    here true e h later = ap (λ x. starts_with nat_eq x front) (same_path q front e ∙ sym (append-nil front))
        ∙ starts_itself front []
    here false e h later = later h

    by : (v : Bool) → list_any (bytes_eq q) (cond v (front ∷ folders_from (front ++ c ∷ []) cs)
        (folders_from (front ++ c ∷ []) cs)) ≡ true → Later → starts_with nat_eq q front ≡ true
    by true h later = here (bytes_eq q front) refl h later
    by false h later = later h

-- of the folders above a name in a folder, one that is neither at the folder's path nor below it is above the folder
above_name : (front xs n q : List ℕ) → bytes_eq q (front ++ xs) ≡ false
    → starts_with nat_eq q ((front ++ xs) ++ 47 ∷ []) ≡ false
    → list_any (bytes_eq q) (folders_from front (xs ++ 47 ∷ n)) ≡ true
    → list_any (bytes_eq q) (folders_from front xs) ≡ true
above_name front [] n q other out h = absurd (by (not (bytes_eq front [])) h)
  where
    never : list_any (bytes_eq q) (folders_from (front ++ 47 ∷ []) n) ≡ true → ⊥
    never h = let no : true ≡ false = sym (starts_front (front ++ 47 ∷ []) n q h)
        ∙ ap (λ f. starts_with nat_eq q (f ++ 47 ∷ [])) (sym (append-nil front)) ∙ out in cc

    by : (v : Bool) → list_any (bytes_eq q) (cond v (front ∷ folders_from (front ++ 47 ∷ []) n)
        (folders_from (front ++ 47 ∷ []) n)) ≡ true → ⊥
    by true h = never (or_later (bytes_eq q front) _ h (ap (bytes_eq q) (sym (append-nil front)) ∙ other))
    by false h = never h
above_name front (c ∷ cs) n q other out h = by (c == 47 && not (bytes_eq front [])) h
    (above_name (front ++ c ∷ []) cs n q (ap (bytes_eq q) same ∙ other)
    (ap (λ f. starts_with nat_eq q (f ++ 47 ∷ [])) same ∙ out))
  where
    same : (front ++ c ∷ []) ++ cs ≡ front ++ c ∷ cs
    same = append_assoc front (c ∷ []) cs

    Later : Type 0
    Later = list_any (bytes_eq q) (folders_from (front ++ c ∷ []) (cs ++ 47 ∷ n)) ≡ true
        → list_any (bytes_eq q) (folders_from (front ++ c ∷ []) cs) ≡ true

    here : (v : Bool) → (v || list_any (bytes_eq q) (folders_from (front ++ c ∷ []) (cs ++ 47 ∷ n))) ≡ true → Later
        → (v || list_any (bytes_eq q) (folders_from (front ++ c ∷ []) cs)) ≡ true
    here true h later = refl
    here false h later = later h

    by : (v : Bool) → list_any (bytes_eq q) (cond v (front ∷ folders_from (front ++ c ∷ []) (cs ++ 47 ∷ n))
        (folders_from (front ++ c ∷ []) (cs ++ 47 ∷ n))) ≡ true → Later
        → list_any (bytes_eq q) (cond v (front ∷ folders_from (front ++ c ∷ []) cs)
        (folders_from (front ++ c ∷ []) cs)) ≡ true
    by true h later = here (bytes_eq q front) h later
    by false h later = later h

-- what is before the last slash of a path
pub front_more : (xs n : List ℕ) → front_of (xs ++ 47 ∷ n) ≡ xs ++ cond (has_slash n) (47 ∷ front_of n) []
front_more [] n = refl
front_more (c ∷ xs) n = ap (λ v. cond v (c ∷ front_of (xs ++ 47 ∷ n)) [])
    (list_any-append (λ b. b == 47) xs (47 ∷ n) ∙ or_right (has_slash xs) (has_slash (47 ∷ n)) refl)
    ∙ ap (λ r. c ∷ r) (front_more xs n)

-- a folder that stands already
stands_again : (made more root : Bool) (old : Option Item) → (more ≡ true → root ≡ false → made ≡ true)
    → cond (more && not root) (Some Folder) (cond (made && not root) (Some Folder) old)
    ≡ cond (made && not root) (Some Folder) old
stands_again made false root old h = refl
stands_again made true true old h = refl
stands_again made true false old h = sym (ap (λ v. cond (v && not false) (Some Folder) old) (h refl refl))

-- ---- what isn't in a folder

module _ (folder q : List ℕ) (out : is_within folder q ≡ false) where
  abbrev is_made : List ℕ → Bool
  is_made path = list_any (bytes_eq q) (folder_paths path)

  not_root : is_root folder ≡ false
  not_root = (or_parts (is_root folder) (is_under folder q) out).0

  not_under : (bytes_eq q folder ≡ false) × (starts_with nat_eq q (folder ++ 47 ∷ []) ≡ false)
  not_under = or_parts (bytes_eq q folder) _ (or_parts (is_root folder) (is_under folder q) out).1

  joined_is : (name : List ℕ) → joined folder name ≡ folder ++ 47 ∷ name
  joined_is name = ap (λ v. cond v folder (folder ++ 47 ∷ []) ++ name) not_root ∙ append_assoc folder (47 ∷ []) name

  away : (name : List ℕ) → is_at_or_below (joined folder name) q ≡ false
  away name = below_child folder name q
      (ap (λ f. bytes_eq q folder || starts_with nat_eq q f)
      (ap (λ v. cond v folder (folder ++ 47 ∷ []) ++ []) not_root ∙ append-nil (folder ++ 47 ∷ []))
      ∙ (or_parts (is_root folder) (is_under folder q) out).1)

  other : (name : List ℕ) → bytes_eq q (joined folder name) ≡ false
  other name = (or_parts (bytes_eq q (joined folder name)) _ (away name)).0

  made_folder : is_made folder ≡ (list_any (bytes_eq q) (folders_above folder) || (bytes_eq q folder || false))
  made_folder = list_any-append (bytes_eq q) (folders_above folder) (folder ∷ [])

  -- of the folders that are made for a name, one that isn't in the folder is made for the folder
  made_for : (name : List ℕ) → is_made (joined folder name) ≡ true → is_made folder ≡ true
  made_for name h = made_folder ∙ or_first _ _ (above_name [] folder name q not_under.0 not_under.1
      (ap (λ p. list_any (bytes_eq q) (folders_above p)) (sym (joined_is name))
      ∙ first (list_any (bytes_eq q) (folders_above (joined folder name))) (other name)
      (sym (list_any-append (bytes_eq q) (folders_above (joined folder name)) (joined folder name ∷ [])) ∙ h)))
    where
      first : (a : Bool) → bytes_eq q (joined folder name) ≡ false
          → (a || (bytes_eq q (joined folder name) || false)) ≡ true → a ≡ true
      first true e h = refl
      first false e h = let no : false ≡ true = sym (ap (λ v. v || false) e) ∙ h in absurd (cc)

  made_parent : (name : List ℕ) → is_made (parent_of (joined folder name)) ≡ true → is_root q ≡ false
      → is_made folder ≡ true
  made_parent name h plain = by (has_slash name)
      (ap front_of (joined_is name) ∙ front_more folder name) (bytes_eq (front_of (joined folder name)) []) h
    where
      never : (v : Bool) → v ≡ false → (v || false) ≡ true → ⊥
      never true e h = absurd (cc)
      never false e h = absurd (cc)

      by : (v : Bool) → front_of (joined folder name) ≡ folder ++ cond v (47 ∷ front_of name) [] → (root : Bool)
          → is_made (cond root (47 ∷ []) (front_of (joined folder name))) ≡ true → is_made folder ≡ true
      by v is true h = absurd (never (is_root q) plain h)
      by true is false h = made_for (front_of name)
          (ap is_made (joined_is (front_of name) ∙ sym is) ∙ h)
      by false is false h = ap is_made (sym (append-nil folder) ∙ sym is) ∙ h

  folder_outside : (name : List ℕ) (old : Option Item)
      → with_folder (joined folder name) q (with_folder folder q old) ≡ with_folder folder q old
  folder_outside name old = stands_again (is_made folder) (is_made (joined folder name)) (is_root q) old
      (λ made plain. made_for name made)

  document_outside : (name bytes : List ℕ) (old : Option Item)
      → with_document (joined folder name) bytes q (with_folder folder q old) ≡ with_folder folder q old
  document_outside name bytes old =
      let found : Option Item = with_folder (parent_of (joined folder name)) q (with_folder folder q old) in
      ap (λ v. cond v (Some (File false bytes)) (cond (bytes_eq q (beside (joined folder name))) None found))
      (other name)
      ∙ ap (λ v. cond v None found) (ap (bytes_eq q) (beside-joined folder name) ∙ other (beside name))
      ∙ stands_again (is_made folder) (is_made (parent_of (joined folder name))) (is_root q) old
      (λ made plain. made_parent name made plain)

  contents_outside : (name : List ℕ) (contents : Option Node) (old : Option Item)
      → with_contents (joined folder name) contents q (with_folder folder q old) ≡ with_folder folder q old
  contents_outside name None old = refl
  contents_outside name (Some tree) old =
      let root : List ℕ = joined folder name in
      let found : Option Item = with_folder root q (with_folder folder q old) in
      let away : IsAway (items_of tree root) q = node_away tree root q (away name) in
      ap (λ o. stands o (is_replaced (items_of tree root) q) found) away.none
      ∙ ap (λ v. stands None v found) away.stays ∙ folder_outside name old

  part_outside : (part : Part) (old : Option Item)
      → with_part folder part q (with_folder folder q old) ≡ with_folder folder q old
  part_outside part old =
      ap (with_document (joined folder (document_name part.layer.row.layer)) part.document q)
      (contents_outside part.layer.row.layer part.layer.contents old)
      ∙ document_outside (document_name part.layer.row.layer) part.document old

  pub store_outside : (store : Option (List ℕ)) (old : Option Item)
      → with_store folder store q (with_folder folder q old) ≡ with_folder folder q old
  store_outside None old = refl
  store_outside (Some bytes) old = document_outside (codes "store.toml") bytes old

  pub parts_outside : (parts : List Part) (old : Option Item)
      → with_parts folder parts q (with_folder folder q old) ≡ with_folder folder q old
  parts_outside [] old = refl
  parts_outside (part ∷ parts) old = ap (λ found. with_parts folder parts q found) (part_outside part old)
      ∙ parts_outside parts old
