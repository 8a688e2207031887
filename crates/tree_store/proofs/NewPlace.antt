-- What calls leave at the path where a tree's file is written.
use Rattle.std.proofs.Common.{◌≡◌, ◌<◌, ◌∙◌, refl, sym, ap, subst, arith, ℕ, Bool, true, false, cond, not, ◌||◌, inl}
use Rattle.std.proofs.Common.{inr, List, [], length, take, Option, Some, None, Result, Ok, Err}
use Rattle.std.specs.Prelude.{IsTrue, OnErr, OnOk, codes}
use Rattle.std.specs.Option.{option_map}
use Rattle.std.specs.FinMap.{get, retain_keys, get-retain_keys, slice_cmp-IsAntisymmetric, nat_cmp-IsAntisymmetric}
use Rattle.cnb_world.specs.Calls.{AppendsSome, RemovesSome}
use Rattle.cnb_world.specs.Tree.{Tree, appended, created, folder_made, is_file_or_absent, is_root, is_within, item_at}
use Rattle.cnb_world.specs.Tree.{without}
use Rattle.cnb_world.specs.declared.world.FileFault.{FileFault}
use Rattle.cnb_world.specs.declared.world.Item.{Item}
use Rattle.cnb_world.specs.declared.world.Item.TheVariants as item
use Rattle.cnb_world.proofs.Folders.{get-folder_made_longer}
use Rattle.cnb_world.proofs.Trees.{get-insert_same}
use Rattle.tree_store.specs.Writing.{KeepsFile, KeptFile, new_path, trees_of}
use Rattle.tree_store.proofs.Places.{longer_child}

-- ---- one change after another

keeps_on : (path : List ℕ) (a b c : Tree) → KeepsFile path a b → KeepsFile path b c → KeepsFile path a c
keeps_on path a b c first (inr plain) = inr plain
keeps_on path a b c (inl e) (inl f) = inl (f ∙ e)
keeps_on path a b c (inr plain) (inl f) = inr (subst (λ found. IsTrue (is_file_or_absent found)) (sym f) plain)

pub place_on : (path : List ℕ) (a b c : Option Tree) → KeptFile path a b → KeptFile path b c → KeptFile path a c
unfolding KeptFile
place_on path None None None h k = tt
place_on path None None (Some c) h k = k
place_on path None (Some b) c h k = absurd h
place_on path (Some a) None c h k = absurd h
place_on path (Some a) (Some b) None h k = absurd k
place_on path (Some a) (Some b) (Some c) h k = keeps_on path a b c h k

pub place_itself : (path : List ℕ) (o o1 : Option Tree) → o1 ≡ o → KeptFile path o o1
unfolding KeptFile
place_itself path None o1 e = subst (KeptFile path None) (sym e) tt
place_itself path (Some files) o1 e = subst (KeptFile path (Some files)) (sym e) (inl refl)

place_so : (path : List ℕ) (o o1 : Option Tree) (change : Tree → Tree) → o1 ≡ option_map change o
    → ((files : Tree) → KeepsFile path files (change files)) → KeptFile path o o1
unfolding KeptFile
place_so path None o1 change e h = subst (KeptFile path None) (sym e) tt
place_so path (Some files) o1 change e h = subst (KeptFile path (Some files)) (sym e) (h files)

-- ---- one change

same_get : (path : List ℕ) (old new : Tree) → get new path ≡ get old path → KeepsFile path old new
same_get path old new e = inl (ap (cond (is_root path) (Some item.Folder)) e)

-- a file or nothing is put there; at `/` a folder stands anyway
set_get : (path : List ℕ) (old new : Tree) (found : Option Item) → get new path ≡ found
    → IsTrue (is_file_or_absent found) → KeepsFile path old new
set_get path old new found is plain = by (is_root path) refl
  where
    at : (v : Bool) (tree : Tree) → is_root path ≡ v → item_at tree path ≡ cond v (Some item.Folder) (get tree path)
    at v tree e = ap (λ w. cond w (Some item.Folder) (get tree path)) e

    by : (v : Bool) → is_root path ≡ v → KeepsFile path old new
    by true e = inl (at true new e ∙ sym (at true old e))
    by false e = inr (subst (λ f. IsTrue (is_file_or_absent f)) (sym (at false new e ∙ is)) plain)

retained : (path : List ℕ) (stays : List ℕ → Bool) (files : Tree) → KeepsFile path files (retain_keys files stays)
retained path stays files = by (stays path) refl
  where
    at : get (retain_keys files stays) path ≡ cond (stays path) (get files path) None
    at = get-retain_keys files stays path (λ x tied. ap stays
        (sym (slice_cmp-IsAntisymmetric nat_cmp-IsAntisymmetric path x tied)))

    by : (v : Bool) → stays path ≡ v → KeepsFile path files (retain_keys files stays)
    by true e = same_get path files (retain_keys files stays) (at ∙ ap (λ w. cond w (get files path) None) e)
    by false e = set_get path files (retain_keys files stays) None (at ∙ ap (λ w. cond w (get files path) None) e) refl

-- ---- calls

pub place_created : (store path : List ℕ) (exec : Bool) (answer : Result (Unit {0}) FileFault)
    (o o1 : Option Tree) → path ≡ new_path store → OnOk answer (o1 ≡ option_map (created path exec) o)
    → OnErr answer (o1 ≡ o) → KeptFile (new_path store) o o1
place_created store path exec (Ok done) o o1 at ok err = subst (λ p. KeptFile p o o1) at
    (place_so path o o1 (created path exec) ok (λ files. set_get path files (created path exec files)
    (Some (item.File exec [])) (get-insert_same files path (item.File exec [])) refl))
place_created store path exec (Err fault) o o1 at ok err = place_itself (new_path store) o o1 err

pub place_made : (store trees : List ℕ) (answer : Result (Unit {0}) FileFault) (o o1 : Option Tree)
    → trees ≡ trees_of store → OnOk answer (o1 ≡ option_map (folder_made trees) o) → OnErr answer (o1 ≡ o)
    → KeptFile (new_path store) o o1
place_made store trees (Ok done) o o1 at ok err = place_so (new_path store) o o1 (folder_made trees) ok
    (λ files. same_get (new_path store) files (folder_made trees files)
    (get-folder_made_longer trees (new_path store) files longer))
  where
    longer : length trees < length (new_path store)
    longer = subst (λ t. length t < length (new_path store)) (sym at)
        (longer_child (trees_of store) (codes "new") (omega arith))
place_made store trees (Err fault) o o1 at ok err = place_itself (new_path store) o o1 err

pub place_appended : (path bytes : List ℕ) (answer : Result (Unit {0}) FileFault) (o o1 : Option Tree)
    → OnOk answer (o1 ≡ option_map (appended path bytes) o) → OnErr answer (AppendsSome o o1 path bytes)
    → KeptFile path o o1
place_appended path bytes (Ok done) o o1 ok err = place_so path o o1 (appended path bytes) ok (more bytes)
  where
    more : (bytes : List ℕ) (files : Tree) → KeepsFile path files (appended path bytes files)
    more bytes files = set_get path files (appended path bytes files) _ (get-insert_same files path _) refl
place_appended path bytes (Err fault) o o1 ok (inl same) = place_itself path o o1 same
place_appended path bytes (Err fault) o o1 ok (inr (can, n, le, is)) = place_so path o o1
    (appended path (take n bytes)) is (λ files. set_get path files (appended path (take n bytes) files) _
    (get-insert_same files path _) refl)

pub place_removed : (path : List ℕ) (answer : Result (Unit {0}) FileFault) (o o1 : Option Tree)
    → OnOk answer (o1 ≡ option_map (without path) o) → OnErr answer (RemovesSome o o1 path) → KeptFile path o o1
place_removed path (Ok done) o o1 ok err = place_so path o o1 (without path) ok
    (λ files. retained path (λ q. not (is_within path q)) files)
place_removed path (Err fault) o o1 ok (inl same) = place_itself path o o1 same
place_removed path (Err fault) o o1 ok (inr (stays, is)) = place_so path o o1
    (λ files. retain_keys files (λ q. not (is_within path q) || stays q)) is
    (λ files. retained path (λ q. not (is_within path q) || stays q) files)
