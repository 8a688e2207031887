-- Where folders' trees and then a run image's document may be written, they may be written behind a tree that was put.
use Rattle.std.proofs.Common.{◌≡◌, ◌∙◌, refl, sym, ap, subst, arith, ℕ, ◌+◌, ◌<◌, ◌≤◌, Bool, true, false, cond, not}
use Rattle.std.proofs.Common.{◌&&◌, ◌||◌, ◌==◌, List, [], ◌∷◌, ◌++◌, codes, length, length-append, is_some, Option}
use Rattle.std.proofs.Common.{Some, None}
use Rattle.std.specs.List.{list_all, list_any}
use Rattle.std.specs.Str.{bytes_eq}
use Rattle.std.specs.FinMap.{get, insert, remove}
use Rattle.std.proofs.lemmas.Bool.{and_parts, and_from}
use Rattle.std.proofs.lemmas.List.Folds.{list_all-append}
use Rattle.cnb_world.proofs.EffectLemmas.{same_path}
use Rattle.cnb_world.proofs.Folders.{get-folder_made_longer, get-with_folders, get-without}
use Rattle.cnb_world.proofs.Trees.{bytes_eq-other, get-insert_bytes, get-remove_bytes}
use Rattle.cnb_world.specs.Path.{beside, joined, parent_of}
use Rattle.cnb_world.specs.Tree.{Tree, can_make_folder, folder_made, folders_above, folders_from, is_file_or_absent}
use Rattle.cnb_world.specs.Tree.{is_folder, is_root, is_within, item_at, without}
use Rattle.cnb_world.specs.Whole.{can_write}
use Rattle.cnb_world.specs.declared.world.Item.{Item}
use Rattle.cnb_world.specs.declared.world.Item.TheVariants.{File, Folder}
use Rattle.hex.specs.Hex.{encode_lower}
use Rattle.sha2.specs.Sha256.{sha256}
use Rattle.tree_store.specs.Store.{tree_path}
use Rattle.tree_store.specs.Writing.{bytes_put, can_begin, named_or_left, new_path, trees_of}

-- ---- lengths

pub child_longer : (folder name : List ℕ) → length folder + length name ≤ length (joined folder name)
child_longer folder name = by (bytes_eq folder (47 ∷ []))
  where
    by : (root : Bool) → length folder + length name ≤ length (cond root folder (folder ++ 47 ∷ []) ++ name)
    by true = omega (arith, length-append folder name)
    by false = omega (arith, length-append (folder ++ 47 ∷ []) name, length-append folder (47 ∷ []))

pub joined_within : (folder name : List ℕ) → length (joined folder name) ≤ length folder + 1 + length name
joined_within folder name = by (bytes_eq folder (47 ∷ []))
  where
    by : (root : Bool) → length (cond root folder (folder ++ 47 ∷ []) ++ name) ≤ length folder + 1 + length name
    by true = omega (arith, length-append folder name)
    by false = omega (arith, length-append (folder ++ 47 ∷ []) name, length-append folder (47 ∷ []))

pub not_root : (path : List ℕ) → 1 < length path → is_root path ≡ false
not_root path long = by (is_root path) refl
  where
    by : (v : Bool) → is_root path ≡ v → v ≡ false
    by false is = refl
    by true is = let one : length path ≡ 1 = ap length (same_path path (47 ∷ []) is)
        in absurd (omega (arith, one, long))

pub trees_long : (store : List ℕ) → 5 ≤ length (trees_of store)
trees_long store = omega (arith, child_longer store (codes "trees"))

pub tree_longer : (store digest : List ℕ) → length (trees_of store) < length (tree_path store digest)
tree_longer store digest = by (bytes_eq (trees_of store) (47 ∷ []))
    (not_root (trees_of store) (omega (arith, trees_long store)))
  where
    by : (root : Bool) → root ≡ false → length (trees_of store)
        < length (cond root (trees_of store) (trees_of store ++ 47 ∷ []) ++ encode_lower digest)
    by true is = absurd (cc)
    by false is = omega (
      arith,
      length-append (trees_of store ++ 47 ∷ []) (encode_lower digest),
      length-append
          (trees_of store) (47 ∷ []),
    )

new_longer : (store : List ℕ) → length (trees_of store) < length (new_path store)
new_longer store = omega (arith, child_longer (trees_of store) (codes "new"))

-- ---- what a tree that is put leaves

-- a folder or nothing
abbrev pub can_be_folder : Option Item → Bool
can_be_folder found = is_folder found || not (is_some found)

pub file_over : (a b : Bool) (bytes : List ℕ) (old : Option Item) → is_file_or_absent old ≡ true
    → is_file_or_absent (cond a (Some (File false bytes)) (cond b None old)) ≡ true
file_over true b bytes old h = refl
file_over false true bytes old h = refl
file_over false false bytes old h = h

file_within : (b : Bool) (old : Option Item) → is_file_or_absent old ≡ true → is_file_or_absent (cond b old None) ≡ true
file_within true old h = h
file_within false old h = refl

pub folder_over : (root b made : Bool) (old : Option Item) → can_be_folder (cond root (Some Folder) old) ≡ true
    → can_be_folder (cond root (Some Folder) (cond b None (cond (made && not root) (Some Folder) old))) ≡ true
folder_over true b made old h = refl
folder_over false true made old h = refl
folder_over false false true old h = refl
folder_over false false false old h = h

pub folder_within : (root b made : Bool) (old : Option Item) → can_be_folder (cond root (Some Folder) old) ≡ true
    → can_be_folder (cond root (Some Folder) (cond b (cond (made && not root) (Some Folder) old) None)) ≡ true
folder_within true b made old h = refl
folder_within false false made old h = refl
folder_within false true true old h = refl
folder_within false true false old h = h

module _ (store bytes : List ℕ) (t : Tree) where
  abbrev file : List ℕ
  file = tree_path store (sha256 bytes)

  abbrev made : Tree
  made = folder_made (trees_of store) t

  -- a file or nothing stays one
  pub file_kept : (q : List ℕ) → length (trees_of store) < length q → is_file_or_absent (item_at t q) ≡ true
      → is_file_or_absent (item_at (bytes_put store bytes t) q) ≡ true
  file_kept q long h = by (item_at t file)
    where
      plain : is_root q ≡ false
      plain = not_root q (omega (arith, long, trees_long store))

      here : is_file_or_absent (get made q) ≡ true
      here = ap is_file_or_absent (get-folder_made_longer (trees_of store) q t long)
          ∙ subst (λ v. is_file_or_absent (cond v (Some Folder) (get t q)) ≡ true) plain h

      by : (found : Option Item) → is_file_or_absent
          (item_at (named_or_left found (new_path store) file bytes made) q) ≡ true
      by None =
          ap (λ v. is_file_or_absent (cond v (Some Folder)
          (get (insert (remove made (new_path store)) file (File false bytes)) q))) plain
          ∙ ap is_file_or_absent (get-insert_bytes (remove made (new_path store)) file (File false bytes) q
          ∙ ap (cond (bytes_eq q file) (Some (File false bytes))) (get-remove_bytes made (new_path store) q))
          ∙ file_over (bytes_eq q file) (bytes_eq q (new_path store)) bytes (get made q) here
      by (Some found) =
          ap (λ v. is_file_or_absent (cond v (Some Folder) (get (without (new_path store) made) q))) plain
          ∙ ap is_file_or_absent (get-without (new_path store) made q)
          ∙ file_within (not (is_within (new_path store) q)) (get made q) here

  -- a folder or nothing stays one
  folder_kept : (q : List ℕ) → length q ≤ length (trees_of store) → can_be_folder (item_at t q) ≡ true
      → can_be_folder (item_at (bytes_put store bytes t) q) ≡ true
  folder_kept q short h = by (item_at t file)
    where
      folders : List (List ℕ)
      folders = folders_above (trees_of store) ++ trees_of store ∷ []

      other : bytes_eq q file ≡ false
      other = bytes_eq-other q file (λ e. let same : length q ≡ length file = ap length e
          in omega (arith, same, short, tree_longer store (sha256 bytes)))

      by : (found : Option Item) → can_be_folder (item_at (named_or_left found (new_path store) file bytes made)
          q) ≡ true
      by None =
          ap (λ v. can_be_folder (cond (is_root q) (Some Folder) v))
          (get-insert_bytes (remove made (new_path store)) file (File false bytes) q
          ∙ ap (λ v. cond v (Some (File false bytes)) (get (remove made (new_path store)) q)) other
          ∙ get-remove_bytes made (new_path store) q
          ∙ ap (cond (bytes_eq q (new_path store)) None) (get-with_folders folders t q))
          ∙ folder_over (is_root q) (bytes_eq q (new_path store)) (list_any (bytes_eq q) folders) (get t q) h
      by (Some found) =
          ap (λ v. can_be_folder (cond (is_root q) (Some Folder) v))
          (get-without (new_path store) made q ∙ ap (λ v. cond (not (is_within (new_path store) q)) v None)
          (get-with_folders folders t q))
          ∙ folder_within (is_root q) (not (is_within (new_path store) q)) (list_any (bytes_eq q) folders) (get t q) h

  one_more : (F G : List ℕ → Bool) (b : Bool) (x : List ℕ) (xs : List (List ℕ)) → (F x ≡ true → G x ≡ true)
      → (list_all F xs ≡ true → list_all G xs ≡ true) → list_all F (cond b (x ∷ xs) xs) ≡ true
      → list_all G (cond b (x ∷ xs) xs) ≡ true
  one_more F G true x xs f rest h = let parts = and_parts (F x) (list_all F xs) h
      in and_from (G x) (list_all G xs) (f parts.0) (rest parts.1)
  one_more F G false x xs f rest h = rest h

  pub all_short : (F G : List ℕ → Bool) (n : ℕ) → ((r : List ℕ) → length r ≤ n → F r ≡ true → G r ≡ true)
      → (front rest : List ℕ) → length front + length rest ≤ n → list_all F (folders_from front rest) ≡ true
      → list_all G (folders_from front rest) ≡ true
  all_short F G n f front [] le h = refl
  all_short F G n f front (c ∷ cs) le h = one_more F G (c == 47 && not (bytes_eq front [])) front
      (folders_from (front ++ c ∷ []) cs) (f front (omega arith))
      (all_short F G n f (front ++ c ∷ []) cs (omega (arith, length-append front (c ∷ [])))) h

  make_folder_kept : (q : List ℕ) → length q ≤ length (trees_of store) → can_make_folder t q ≡ true
      → can_make_folder (bytes_put store bytes t) q ≡ true
  make_folder_kept q short h =
      let F : List ℕ → Bool = λ r. can_be_folder (item_at t r) in
      let G : List ℕ → Bool = λ r. can_be_folder (item_at (bytes_put store bytes t) r) in
      let step : (r : List ℕ) → length r ≤ length q → F r ≡ true
      → G r ≡ true = λ r le x. folder_kept r (omega (arith, le, short)) x in
      let parts = and_parts (list_all F (folders_above q)) (list_all F (q ∷ []))
      (sym (list_all-append F (folders_above q) (q ∷ [])) ∙ h) in
      list_all-append G (folders_above q) (q ∷ []) ∙ and_from _ _
      (all_short F G (length q) step [] q (omega arith) parts.0)
      (let last = and_parts (F q) true parts.1 in and_from (G q) true (step q (omega arith) last.0) refl)

  -- another tree's file may be begun
  pub begin_kept : can_begin store t ≡ true → can_begin store (bytes_put store bytes t) ≡ true
  begin_kept h =
      let parts = and_parts (is_file_or_absent (item_at t (new_path store))) (can_make_folder t (trees_of store)) h in
      and_from _ _ (file_kept (new_path store) (new_longer store) parts.0)
      (make_folder_kept (trees_of store) (omega arith) parts.1)

  -- a document may be written in a folder beside that of the trees
  pub write_kept : (path : List ℕ) → length (trees_of store) < length path
      → length (parent_of path) ≤ length (trees_of store) → can_write path t ≡ true
      → can_write path (bytes_put store bytes t) ≡ true
  write_kept path long short h =
      let outer = and_parts (is_file_or_absent (item_at t path) && is_file_or_absent (item_at t (beside path)))
      (can_make_folder t (parent_of path)) h in
      let both = and_parts (is_file_or_absent (item_at t path)) (is_file_or_absent (item_at t (beside path))) outer.0 in
      and_from _ _ (and_from _ _ (file_kept path long both.0)
      (file_kept (beside path) (omega (arith, long, length-append path (46 ∷ 110 ∷ 101 ∷ 119 ∷ []))) both.1))
      (make_folder_kept (parent_of path) short outer.1)
