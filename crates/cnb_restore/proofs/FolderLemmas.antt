-- A buildpack's folder, which is there once it is made, and what is laid below it.
use Rattle.std.proofs.Common.{◌≡◌, ◌∙◌, refl, sym, ap, subst, arith, ℕ, ◌+◌, ◌<◌, Bool, true, false, cond, List, []}
use Rattle.std.proofs.Common.{◌∷◌, ◌++◌, append-nil, append_assoc, length, length-append, nat_eq, Option, Some}
use Rattle.std.proofs.Common.{None, ◌⊎◌, inl, inr}
use Rattle.std.specs.List.{starts_with}
use Rattle.std.specs.Str.{bytes_eq}
use Rattle.std.specs.FinMap.{get}
use Rattle.std.specs.Prelude.{IsTrue}
use Rattle.cnb_world.proofs.EffectLemmas.{same_path}
use Rattle.cnb_world.proofs.Folders.{longer_beside}
use Rattle.cnb_world.proofs.Parents.{has_slash}
use Rattle.cnb_world.specs.Path.{beside, front_of, is_part, joined, parent_of}
use Rattle.cnb_world.specs.Tree.{Tree, is_folder, is_root, is_within, item_at}
use Rattle.cnb_world.specs.declared.world.Item.{Item}
use Rattle.cnb_world.specs.declared.world.Item.TheVariants.{Folder, File}
use Rattle.tree_store.proofs.Places.{child_not_root, longer_child, not_below, or_from, or_parts, part_form}
use Rattle.tree_store.proofs.Places.{shorter_away}
use Rattle.tree_store.specs.Around.{IsMadeAbove, KeptAround}
use Rattle.cnb_restore.specs.RestoredFiles.{AreLeft, with_document, with_folder}
use Rattle.cnb_restore.proofs.FilesLemmas.{front_more}

-- where files are told, a folder is there
abbrev pub IsThere : List ℕ → Option Tree → Type 0
IsThere folder None = Unit {0}
IsThere folder (Some files) = is_folder (item_at files folder) ≡ true

-- ---- the folder that a path stands in

pub some_folder : (layers name : List ℕ) → bytes_eq (joined layers name) [] ≡ false
some_folder [] name = refl
some_folder (c ∷ cs) name = by (is_root (c ∷ cs))
  where
    by : (v : Bool) → bytes_eq (cond v (c ∷ cs) (c ∷ cs ++ 47 ∷ []) ++ name) [] ≡ false
    by true = refl
    by false = refl

pub parent_below : (folder name : List ℕ) → bytes_eq folder [] ≡ false → is_part name ≡ true
    → parent_of (joined folder name) ≡ folder
parent_below folder name some part = by (is_root folder) refl
  where
    plain : has_slash name ≡ false
    plain = (part_form name part).1

    front : (f : List ℕ) → front_of (f ++ 47 ∷ name) ≡ f
    front f = front_more f name ∙ ap (λ v. f ++ cond v (47 ∷ front_of name) []) plain ∙ append-nil f

    by : (v : Bool) → is_root folder ≡ v → parent_of (cond v folder (folder ++ 47 ∷ []) ++ name) ≡ folder
    by true root = ap (λ f. parent_of (f ++ name)) (same_path folder (47 ∷ []) root)
        ∙ ap (λ f. cond (bytes_eq f []) (47 ∷ []) f) (front []) ∙ sym (same_path folder (47 ∷ []) root)
    by false other = ap parent_of (append_assoc folder (47 ∷ []) name)
        ∙ ap (λ f. cond (bytes_eq f []) (47 ∷ []) f) (front folder)
        ∙ ap (λ v. cond v (47 ∷ []) folder) some

pub below_plain : (folder name path : List ℕ) → path ≡ joined folder name → IsTrue (is_part name)
    → is_root path ≡ false
below_plain folder name path is part = ap is_root is ∙ child_not_root folder name (part_form name part).0

-- ---- it stays

-- what is shorter than a path is away from it
outside : (path q : List ℕ) → is_root path ≡ false → length q < length path → is_within path q ≡ false
outside path q plain shorter =
    let away = shorter_away path q shorter in
    or_from (is_root path) _ plain
    (or_from (bytes_eq q path) _ (or_parts (bytes_eq q path) (starts_with nat_eq q (joined path [])) away).0
    (not_below path q away))

pub there_around : (folder name : List ℕ) (o o1 : Option Tree) → is_part name ≡ true
    → KeptAround (joined folder name) o o1 → IsThere folder o → IsThere folder o1
unfolding KeptAround
there_around folder name None None part kept there = tt
there_around folder name None (Some b) part kept there = absurd kept
there_around folder name (Some a) None part kept there = absurd kept
there_around folder name (Some a) (Some b) part kept there =
    by (kept folder (outside (joined folder name) folder (child_not_root folder name (part_form name part).0)
    (longer_child folder name (part_form name part).0)))
  where
    by : (item_at b folder ≡ item_at a folder) ⊎ IsMadeAbove (joined folder name) folder a b
        → is_folder (item_at b folder) ≡ true
    by (inl same) = ap is_folder same ∙ there
    by (inr made) = ap is_folder made.after

-- files that aren't told are none that are
pub untold_around : (path : List ℕ) (o o1 : Option Tree) → KeptAround path o o1 → o ≡ None → o1 ≡ None
unfolding KeptAround
untold_around path None None kept is = refl
untold_around path None (Some b) kept is = absurd kept
untold_around path (Some a) o1 kept is = absurd (let no : Some a ≡ None = is in cc)

-- what is found then is a folder where one was
abbrev pub KeepsFolder : List ℕ → (List ℕ → Option Item → Option Item) → Type 0
KeepsFolder folder found = (old : Option Item) → is_root folder ≡ false → is_folder old ≡ true
    → is_folder (found folder old) ≡ true

pub there_left : (folder : List ℕ) (found : List ℕ → Option Item → Option Item) (o o1 : Option Tree)
    → KeepsFolder folder found → AreLeft found o o1 → IsThere folder o → IsThere folder o1
there_left folder found None o1 keeps is there = subst (IsThere folder) (sym is) tt
there_left folder found (Some files) o1 keeps (left, is, at) there = subst (IsThere folder) (sym is)
    (by (is_root folder) refl there)
  where
    by : (v : Bool) → is_root folder ≡ v → is_folder (cond v (Some Folder) (get files folder)) ≡ true
        → is_folder (cond v (Some Folder) (get left folder)) ≡ true
    by true e was = refl
    by false e was = ap is_folder (at folder) ∙ keeps (get files folder) e was

made_or_was : (v : Bool) (old : Option Item) → is_folder old ≡ true → is_folder (cond v (Some Folder) old) ≡ true
made_or_was true old was = refl
made_or_was false old was = was

-- a name in a folder other than `/`, whatever the name
longer_name : (folder name : List ℕ) → is_root folder ≡ false → length folder < length (joined folder name)
longer_name folder name plain =
    let same : length (joined folder name) ≡ length folder + length (47 ∷ name) = ap length
    (ap (λ v. cond v folder (folder ++ 47 ∷ []) ++ name) plain ∙ append_assoc folder (47 ∷ []) name)
    ∙ length-append folder (47 ∷ name) in
    omega (arith, same)

pub document_keeps : (folder name bytes : List ℕ) → KeepsFolder folder (with_document (joined folder name) bytes)
document_keeps folder name bytes old plain was =
    let path : List ℕ = joined folder name in
    let longer : length folder < length path = longer_name folder name plain in
    let more : length path < length (beside path) = longer_beside path in
    let found : Option Item = with_folder (parent_of path) folder old in
    ap (λ v. is_folder (cond v (Some (File false bytes)) (cond (bytes_eq folder (beside path)) None found)))
    (other path longer)
    ∙ ap (λ v. is_folder (cond v None found)) (other (beside path) (omega (arith, longer, more)))
    ∙ made_or_was _ old was
  where
    other : (path : List ℕ) → length folder < length path → bytes_eq folder path ≡ false
    other path longer = (or_parts (bytes_eq folder path) (starts_with nat_eq folder (joined path []))
        (shorter_away path folder longer)).0
