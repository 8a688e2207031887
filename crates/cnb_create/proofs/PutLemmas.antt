-- What putting trees into a store leaves alone: each path that is apart from the folder of the trees' files.
use Rattle.std.proofs.Common.{◌≡◌, ◌∙◌, refl, ap, ℕ, ◌<◌, Bool, true, false, not, cond, ◌||◌, List, ◌∷◌, length, codes}
use Rattle.std.proofs.Common.{arith, Option, Some, None, Result, Ok, Err}
use Rattle.std.specs.FinMap.{get, remove}
use Rattle.std.specs.List.{list_any}
use Rattle.std.specs.Str.{bytes_eq}
use Rattle.cnb_world.specs.Path.{beside, joined, parent_of}
use Rattle.cnb_world.specs.Tree.{Tree, folder_made, is_within, item_at, without}
use Rattle.cnb_world.specs.declared.world.Item.{Item}
use Rattle.cnb_world.specs.declared.world.Item.TheVariants.{File}
use Rattle.cnb_world.proofs.EffectLemmas.{emptied_elsewhere}
use Rattle.cnb_world.proofs.Trees.{get-insert_bytes, get-remove_bytes}
use Rattle.doc_files.proofs.Written.{long_by}
use Rattle.steps.specs.Keeping.{folder_paths, is_free, standing, touched}
use Rattle.steps.specs.Outside.{Seen}
use Rattle.steps.proofs.KeepingLaws.{Preserves, keeps_same, made_free, step_at}
use Rattle.tree_store.specs.Steps.{LeavesFolder, folder_put, puts_folder}
use Rattle.tree_store.specs.Store.{tree_path}
use Rattle.tree_store.specs.Writing.{named_or_left, new_path, trees_of}
use Rattle.tree_store.specs.declared.fault.StoreFault.{StoreFault}
use Rattle.cnb_create.specs.Apart.{are_apart}
use Rattle.cnb_create.proofs.ApartLemmas.{Inside, folder_not_root, free_document, free_itself, inside_joined, not_above}
use Rattle.cnb_create.proofs.ApartLemmas.{not_within}
use Rattle.cnb_create.proofs.KeepLemmas.{at_get, kept_around}

not_first : (a b : Bool) → not (a || b) ≡ true → a ≡ false
not_first true b h = absurd (cc)
not_first false b h = refl

not_one : (one path : List ℕ) → is_free (touched one) path ≡ true → bytes_eq path one ≡ false
not_one one path free = not_first (bytes_eq path one)
    (list_any (bytes_eq path) (beside one ∷ folder_paths (parent_of one))) free

long_trees : (store : List ℕ) → 0 < length (trees_of store)
long_trees store = let long = long_by store (codes "trees") (omega arith) in omega (arith, long)

module _ (store path : List ℕ) (apart : are_apart (trees_of store) path ≡ true) where
  inside : (name : List ℕ) → Inside (trees_of store) (joined (trees_of store) name)
  inside name = inside_joined (trees_of store) name (folder_not_root (trees_of store) path apart)

  free_of : (name : List ℕ) → is_free (touched (joined (trees_of store) name)) path ≡ true
  free_of name = free_document (trees_of store) path apart (joined (trees_of store) name) (inside name)

  pub free_of_trees : (digest : List ℕ) → is_free (touched (tree_path store digest)) path ≡ true
  free_of_trees digest = free_of _

  away : is_within (new_path store) path ≡ false
  away = not_within (trees_of store) path apart (long_trees store) (new_path store) (inside (codes "new"))

  made : (t : Tree) → item_at (folder_made (trees_of store) t) path ≡ item_at t path
  made t = made_free t (trees_of store) path (free_itself (trees_of store) path apart)

  put_apart : (found : Option Item) (digest bytes : List ℕ) (t : Tree)
      → item_at (named_or_left found (new_path store) (tree_path store digest) bytes
      (folder_made (trees_of store) t)) path ≡ item_at t path
  put_apart None digest bytes t =
      let folders : Tree = folder_made (trees_of store) t in
      let cleared : Tree = remove folders (new_path store) in
      at_get _ folders path (get-insert_bytes cleared (tree_path store digest) (File false bytes) path
      ∙ ap (λ b. cond b (Some (File false bytes)) (get cleared path))
      (not_one (tree_path store digest) path (free_of_trees digest))
      ∙ get-remove_bytes folders (new_path store) path
      ∙ ap (λ b. cond b None (get folders path)) (not_one (new_path store) path (free_of (codes "new"))))
      ∙ made t
  put_apart (Some item) digest bytes t =
      let folders : Tree = folder_made (trees_of store) t in
      at_get (without (new_path store) folders) folders path
      (emptied_elsewhere folders (new_path store) path away) ∙ made t

  left_apart : (folder : List ℕ) (old new : Seen) (result : Result (List ℕ) StoreFault)
      → LeavesFolder store folder old result new → standing new.files path ≡ standing old.files path
  left_apart folder old new (Ok digest) (tree, is, read, files) = step_at old.files new.files
      (folder_put store tree) path (λ t. put_apart (item_at t (tree_path store _)) _ _ t) files
  left_apart folder old new (Err fault) (kept, cleared) =
      kept_around (new_path store) path old.files new.files away
      (not_above (trees_of store) path apart (new_path store) (inside (codes "new"))) kept

  pub keeps_puts_folder : (folder : List ℕ) → Preserves path (puts_folder store folder)
  unfolding puts_folder
  keeps_puts_folder folder old new result h = keeps_same path old new h.runs (left_apart folder old new result h.leaves)
