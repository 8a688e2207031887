-- What stands in a folder that is made anew, while documents are written and trees are laid in it.
use Rattle.std.proofs.Common.{◌≡◌, ◌≢◌, ◌∙◌, refl, sym, ap, arith, ℕ, ◌-◌, ◌<◌, ◌≤◌, Bool, true, false, not}
use Rattle.std.proofs.Common.{cond, ◌&&◌, ◌||◌, ◌⊎◌, List, [], ◌∷◌, ◌++◌, codes, nat_le, length}
use Rattle.std.proofs.Common.{length-append, nat_eq, is_some, Option, Some, None, inl, inr, ◌+◌}
use Rattle.std.proofs.Math.Seq.{drop-append_seam}
use Rattle.std.proofs.lemmas.Bool.{and_from, and_parts, leb-true}
use Rattle.std.proofs.lemmas.List.Folds.{list_any-append}
use Rattle.std.specs.FinMap.{get, remove}
use Rattle.std.specs.List.{AllByRecursion, ends_with, list_all, list_any, starts_with}
use Rattle.std.specs.Prelude.{IsTrue}
use Rattle.std.specs.Str.{bytes_eq}
use Rattle.cnb_toml.proofs.Layers.{layer_name_is_part}
use Rattle.cnb_toml.specs.Names.{is_layer_name, is_reserved_layer}
use Rattle.cnb_world.proofs.EffectLemmas.{emptied_elsewhere, emptied_here, same_path}
use Rattle.cnb_world.proofs.Folders.{folder_stands, get-folder_made_longer, get-with_folders, longer_beside}
use Rattle.cnb_world.proofs.Joins.{beside-joined, parent_of_file}
use Rattle.cnb_world.proofs.Parents.{has_slash}
use Rattle.cnb_world.proofs.Trees.{bytes_eq-other, bytes_eq-same, get-insert_bytes, get-remove_bytes}
use Rattle.cnb_world.specs.Path.{beside, is_part, is_path, joined, parent_of}
use Rattle.cnb_world.specs.Tree.{Tree, can_make_folder, folder_made, folders_above, is_file_or_absent, is_folder}
use Rattle.cnb_world.specs.Tree.{is_root, is_within, item_at, without}
use Rattle.cnb_world.specs.Whole.{can_write, written}
use Rattle.cnb_world.specs.declared.world.Item.{Item}
use Rattle.cnb_world.specs.declared.world.Item.TheVariants.{File, Folder}
use Rattle.image_files.proofs.PathLemmas.{document_beside_is_part, document_length, document_name_is_part}
use Rattle.image_files.specs.Paths.{document_name}
use Rattle.layer_flags.specs.declared.restore.RestoreRow.TheVariants as part
use Rattle.tree_canon.specs.declared.node.Node.{Node}
use Rattle.tree_store.proofs.Apart.{item_kept, made_above, siblings_apart}
use Rattle.tree_store.proofs.Around.{at_one}
use Rattle.tree_store.proofs.Blames.{within_child, within_itself}
use Rattle.tree_store.proofs.Places.{above_child, child_not_root, is_at_or_below, longer_child, made_length, name_in}
use Rattle.tree_store.proofs.Places.{named, not_below, or_from, or_parts, or_right, part_form, shorter_away}
use Rattle.tree_store.specs.Around.{IsMadeAbove, KeepsAround}
use Rattle.tree_store.specs.Overlay.{is_folder_node}
use Rattle.tree_store.specs.Steps.{can_lay}
use Rattle.cnb_lifecycle.specs.Fitting.{is_document_like}

-- ---- names

ends_toml : (front : List ℕ) → ends_with nat_eq (front ++ codes ".toml") (codes ".toml") ≡ true
ends_toml front =
    let size : length (front ++ codes ".toml") - length (codes ".toml")
    ≡ length front = omega (arith, length-append front (codes ".toml")) in
    rw (size, drop-append_seam front (codes ".toml")) refl

pub document_is_like : (name : List ℕ) → is_document_like (document_name name) ≡ true
document_is_like name = ends_toml name

-- a layer's name that doesn't end as a document's does
abbrev pub IsPlain : List ℕ → Type 0
IsPlain name = IsTrue (is_layer_name name) × (is_document_like name ≡ false)

not_alike : (a b : List ℕ) → is_document_like a ≡ false → is_document_like b ≡ true → a ≢ b
not_alike a b plain like is = let no : false ≡ true = sym plain ∙ ap is_document_like is ∙ like in absurd (cc)

-- a name that is neither another layer's nor that of the file beside the other's document
abbrev pub IsOther : List ℕ → List ℕ → Type 0
IsOther name other = (name ≢ other) × (name ≢ beside (document_name other))

-- names of layers, each of which is so for all later ones
abbrev pub AreOnce : List (List ℕ) → Type 0
AreOnce [] = Unit {0}
AreOnce (name ∷ names) = IsPlain name × AllByRecursion (IsOther name) names × AreOnce names

-- ---- what stands in a folder

abbrev pub can_be_folder : Tree → List ℕ → Bool
can_be_folder t q = is_folder (item_at t q) || not (is_some (item_at t q))

pub all_by : (P : List ℕ → Bool) (ps : List (List ℕ)) →
    ((q : List ℕ) → list_any (bytes_eq q) ps ≡ true → P q ≡ true) → list_all P ps ≡ true
all_by P [] h = refl
all_by P (p ∷ ps) h = and_from (P p) (list_all P ps)
    (h p (ap (λ v. v || list_any (bytes_eq p) ps) (bytes_eq-same p)))
    (all_by P ps (λ q is. h q (or_right (bytes_eq q p) _ is)))

-- a folder and those above it
abbrev pub reach : List ℕ → List (List ℕ)
reach folder = folders_above folder ++ folder ∷ []

in_reach : (folder q : List ℕ) → list_any (bytes_eq q) (reach folder)
    ≡ (list_any (bytes_eq q) (folders_above folder) || (bytes_eq q folder || false))
in_reach folder q = list_any-append (bytes_eq q) (folders_above folder) (folder ∷ [])

make_kept : (folder : List ℕ) (a b : Tree) → ((q : List ℕ) → length q ≤ length folder → can_be_folder a q ≡ true
    → can_be_folder b q ≡ true) → can_make_folder a folder ≡ true → can_make_folder b folder ≡ true
make_kept folder a b keep can = all_by (can_be_folder b) (reach folder)
    (λ q is. keep q (made_length folder q is) (at_one (can_be_folder a) (reach folder) q can is))

-- what reaches a name in a folder is that name's path, or reaches the folder
reach_child : (folder name q : List ℕ) → has_slash name ≡ false
    → list_any (bytes_eq q) (reach (joined folder name)) ≡ true → (bytes_eq q (joined folder name) ≡ true)
    ⊎ (list_any (bytes_eq q) (reach folder) ≡ true)
reach_child folder name q plain h = by (bytes_eq q (joined folder name)) refl (bytes_eq q folder) refl
    (list_any (bytes_eq q) (folders_above folder)) refl
  where
    by : (c : Bool) → bytes_eq q (joined folder name) ≡ c → (s : Bool) → bytes_eq q folder ≡ s → (a : Bool)
        → list_any (bytes_eq q) (folders_above folder) ≡ a → (c ≡ true)
        ⊎ (list_any (bytes_eq q) (reach folder) ≡ true)
    by true is s same a above = inl refl
    by false is s same true above = inr (in_reach folder q ∙ ap (λ v. v || (bytes_eq q folder || false)) above)
    by false is true same false above = inr (in_reach folder q
        ∙ or_right (list_any (bytes_eq q) (folders_above folder)) _ (ap (λ v. v || false) same))
    by false is false same false above =
        let none : list_any (bytes_eq q) (folders_above (joined folder name))
        ≡ false = above_child folder name q plain same above in
        let no : true ≡ false = sym h ∙ in_reach (joined folder name) q
        ∙ ap (λ v. v || (bytes_eq q (joined folder name) || false)) none ∙ ap (λ v. v || false) is in
        absurd (cc)

make_child : (folder name : List ℕ) (t : Tree) → has_slash name ≡ false → can_make_folder t folder ≡ true
    → can_be_folder t (joined folder name) ≡ true → can_make_folder t (joined folder name) ≡ true
make_child folder name t plain can free = all_by (can_be_folder t) (reach (joined folder name))
    (λ q is. by q (reach_child folder name q plain is))
  where
    by : (q : List ℕ) → (bytes_eq q (joined folder name) ≡ true) ⊎ (list_any (bytes_eq q) (reach folder) ≡ true)
        → can_be_folder t q ≡ true
    by q (inl is) = ap (can_be_folder t) (same_path q (joined folder name) is) ∙ free
    by q (inr is) = at_one (can_be_folder t) (reach folder) q can is

pub root_is_folder : (r : Bool) (old : Option Item) → r ≡ true
    → (is_folder (cond r (Some Folder) old) || not (is_some (cond r (Some Folder) old))) ≡ true
root_is_folder true old is = refl
root_is_folder false old is = absurd (cc)

-- so the folder can be made where a name in it can
pub make_parent : (folder name : List ℕ) (t : Tree) → 0 < length folder
    → can_make_folder t (joined folder name) ≡ true → can_make_folder t folder ≡ true
make_parent folder name t some can = all_by (can_be_folder t) (reach folder) (λ q is. by q is (is_root q) refl)
  where
    by : (q : List ℕ) → list_any (bytes_eq q) (reach folder) ≡ true → (r : Bool) → is_root q ≡ r
        → can_be_folder t q ≡ true
    by q is true root = root_is_folder (is_root q) (get t q) root
    by q is false root = at_one (can_be_folder t) (reach (joined folder name)) q can
        (in_reach (joined folder name) q ∙ ap (λ v. v || (bytes_eq q (joined folder name) || false))
        (made_above folder name q some is root))

none_can : (o : Option Item) → o ≡ None → (is_folder o || not (is_some o)) ≡ true
none_can None is = refl
none_can (Some x) is = absurd (cc)

pub none_fits : (o : Option Item) → o ≡ None → is_file_or_absent o ≡ true
none_fits None is = refl
none_fits (Some x) is = absurd (cc)

-- the folder can be made, and nothing stands in it
pub record IsClean (folder : List ℕ) (t : Tree) : Type 0 where
  pub made : can_make_folder t folder ≡ true
  pub empty : (name : List ℕ) → IsTrue (is_part name) → item_at t (joined folder name) ≡ None

-- the folder is there, and nothing stands in it
pub record IsNew (folder : List ℕ) (t : Tree) : Type 0 where
  pub there : is_folder (item_at t folder) ≡ true
  pub clean : IsClean folder t

-- a file, or nothing, is where a layer's document is written, and beside that
pub record IsDue (folder name : List ℕ) (t : Tree) : Type 0 where
  pub document : is_file_or_absent (item_at t (joined folder (document_name name))) ≡ true
  pub near : is_file_or_absent (item_at t (joined folder (beside (document_name name)))) ≡ true

-- and nothing is at the layer's own name
abbrev IsFree : List ℕ → Tree → List ℕ → Type 0
IsFree folder t name = (item_at t (joined folder name) ≡ None) × IsDue folder name t

-- the folder is there and can be made, and these layers can be restored in it
pub record IsOpen (folder : List ℕ) (names : List (List ℕ)) (t : Tree) : Type 0 where
  pub there : is_folder (item_at t folder) ≡ true
  pub made : can_make_folder t folder ≡ true
  pub free : AllByRecursion (IsFree folder t) names

layer_short : (name : List ℕ) → IsTrue (is_layer_name name) → length name ≤ 200
layer_short name is = leb-true (length name) 200
    (and_parts (nat_le (length name) 200) (is_part name)
    (and_parts (nat_le (length name) 200 && is_part name) (not (is_reserved_layer name)) is).0).0

-- a layer's name, that of its document and that of the file beside it are parts of paths
pub record HasParts (name : List ℕ) : Type 0 where
  pub part : IsTrue (is_part name)
  pub document : IsTrue (is_part (document_name name))
  pub near : IsTrue (is_part (beside (document_name name)))

pub parts_of_plain : (name : List ℕ) → IsPlain name → HasParts name
parts_of_plain name plain =
    let part = layer_name_is_part name plain.0 in
    let short = layer_short name plain.0 in
    record {
      part = part;
      document = document_name_is_part name part short;
      near = document_beside_is_part name
          part short;
    }

pub open_new : (folder : List ℕ) (names : List (List ℕ)) (t : Tree) → AreOnce names → IsNew folder t
    → IsOpen folder names t
open_new folder names t once new = record { there = new.there; made = clean.made; free = all names once }
  where
    clean : IsClean folder t
    clean = new.clean

    one : (name : List ℕ) → HasParts name → IsFree folder t name
    one name parts = (
      clean.empty name parts.part,
      record
          { document = none_fits _ (clean.empty _ parts.document); near = none_fits _ (clean.empty _ parts.near) },
    )

    all : (names : List (List ℕ)) → AreOnce names → AllByRecursion (IsFree folder t) names
    all [] once = tt
    all (name ∷ names) once = (one name (parts_of_plain name once.0), all names once.2)

-- a name in a folder isn't `/`, and is longer
pub child_plain : (folder name : List ℕ) → IsTrue (is_part name) → is_root (joined folder name) ≡ false
child_plain folder name part = child_not_root folder name (part_form name part).0

at_child : (folder name : List ℕ) (t : Tree) → IsTrue (is_part name)
    → item_at t (joined folder name) ≡ get t (joined folder name)
at_child folder name t part = ap (λ v. cond v (Some Folder) (get t (joined folder name))) (child_plain folder name part)

-- the folder is removed
pub removed : (layers name : List ℕ) (t : Tree) → IsTrue (is_part name) → can_make_folder t layers ≡ true
    → IsClean (joined layers name) (without (joined layers name) t)
removed layers name t part can = record {
  made = make_child layers name (without folder t) form.1
      (make_kept layers t (without folder t) (λ q short is. ap
      (λ v. is_folder (cond (is_root q) (Some Folder) v) || not (is_some (cond (is_root q) (Some Folder) v)))
      (emptied_elsewhere t folder q (away q short)) ∙ is) can)
      (none_can _ (at_child layers name (without folder t) part ∙ emptied_here t folder folder (within_itself folder)));
  empty = λ inner inside. at_child folder inner (without folder t) inside
      ∙ emptied_here t folder (joined folder inner)
      (within_child folder inner (joined folder inner) (part_form inner inside).0
      (within_itself (joined folder inner)));
}
  where
    folder : List ℕ
    folder = joined layers name

    form : (0 < length name) × (has_slash name ≡ false)
    form = part_form name part

    away : (q : List ℕ) → length q ≤ length layers → is_within folder q ≡ false
    away q short =
        let out : is_at_or_below folder q ≡ false = shorter_away folder q
        (omega (arith, short, longer_child layers name form.0)) in
        or_from _ _ (child_plain layers name part) (or_from _ _ (or_parts _ _ out).0 (not_below folder q out))

folder_over : (root m : Bool) (old : Option Item)
    → (is_folder (cond root (Some Folder) old) || not (is_some (cond root (Some Folder) old))) ≡ true
    → (is_folder (cond root (Some Folder) (cond (m && not root) (Some Folder) old))
    || not (is_some (cond root (Some Folder) (cond (m && not root) (Some Folder) old)))) ≡ true
folder_over true m old h = refl
folder_over false true old h = refl
folder_over false false old h = h

-- and made anew
pub folder_stays : (folder q : List ℕ) (t : Tree) → can_be_folder t q ≡ true
    → can_be_folder (folder_made folder t) q ≡ true
folder_stays folder q t is = ap (λ v. is_folder (cond (is_root q) (Some Folder) v)
    || not (is_some (cond (is_root q) (Some Folder) v))) (get-with_folders (reach folder) t q)
    ∙ folder_over (is_root q) (list_any (bytes_eq q) (reach folder)) (get t q) is

pub made_anew : (folder : List ℕ) (t : Tree) → IsClean folder t → IsNew folder (folder_made folder t)
made_anew folder t clean = record {
  there = folder_stands folder t;
  clean = record {
    made = make_kept folder t (folder_made folder t) (λ q short is. folder_stays folder q t is) clean.made;
    empty = λ name part. at_child folder name (folder_made folder t) part
        ∙ get-folder_made_longer folder (joined folder name) t (longer_child folder name (part_form name part).0)
        ∙ sym (at_child folder name t part) ∙ clean.empty name part;
  };
}

file_over : (a b : Bool) (bytes : List ℕ) (old : Option Item) → is_file_or_absent old ≡ true
    → is_file_or_absent (cond a (Some (File false bytes)) (cond b None old)) ≡ true
file_over true b bytes old h = refl
file_over false true bytes old h = refl
file_over false false bytes old h = h

-- a document is written in the folder
module _ (folder : List ℕ) (path : is_path folder ≡ true) (name : List ℕ) (part : IsTrue (is_part name))
    (like : is_document_like name ≡ true) where
  abbrev file : List ℕ
  file = joined folder name

  parent_is : parent_of file ≡ folder
  parent_is = parent_of_file folder name path part

  pub may_write : (t : Tree) → can_make_folder t folder ≡ true → is_file_or_absent (item_at t file) ≡ true
      → is_file_or_absent (item_at t (joined folder (beside name))) ≡ true → IsTrue (can_write file t)
  may_write t made here near = and_from _ _ (and_from _ _ here
      (ap (λ p. is_file_or_absent (item_at t p)) (beside-joined folder name) ∙ near))
      (ap (can_make_folder t) parent_is ∙ made)

  module _ (bytes : List ℕ) (t : Tree) where
    abbrev now : Tree
    now = written file bytes t

    get_now : (q : List ℕ) → get now q ≡ cond (bytes_eq q file) (Some (File false bytes))
        (cond (bytes_eq q (beside file)) None (get (folder_made folder t) q))
    get_now q =
        get-insert_bytes (remove (folder_made (parent_of file) t) (beside file)) file (File false bytes) q
        ∙ ap (cond (bytes_eq q file) (Some (File false bytes)))
        (get-remove_bytes (folder_made (parent_of file) t) (beside file) q
        ∙ ap (λ p. cond (bytes_eq q (beside file)) None (get (folder_made p t) q)) parent_is)

    -- what stands at a name in the folder
    item_now : (y : List ℕ) → IsTrue (is_part y) → item_at now (joined folder y)
        ≡ cond (bytes_eq (joined folder y) file) (Some (File false bytes))
        (cond (bytes_eq (joined folder y) (beside file)) None (item_at t (joined folder y)))
    item_now y inside =
        at_child folder y now inside ∙ get_now (joined folder y)
        ∙ ap (λ v. cond (bytes_eq (joined folder y) file) (Some (File false bytes))
        (cond (bytes_eq (joined folder y) (beside file)) None v))
        (get-folder_made_longer folder (joined folder y) t (longer_child folder y (part_form y inside).0)
        ∙ sym (at_child folder y t inside))

    file_now : (y : List ℕ) → IsTrue (is_part y) → is_file_or_absent (item_at t (joined folder y)) ≡ true
        → is_file_or_absent (item_at now (joined folder y)) ≡ true
    file_now y inside is = ap is_file_or_absent (item_now y inside)
        ∙ file_over (bytes_eq (joined folder y) file) (bytes_eq (joined folder y) (beside file)) bytes
        (item_at t (joined folder y)) is

    none_over : (a b : Bool) (old : Option Item) → a ≡ false → old ≡ None
        → cond a (Some (File false bytes)) (cond b None old) ≡ None
    none_over true b old is none = absurd (cc)
    none_over false true old is none = refl
    none_over false false old is none = none

    other_name : (a b : List ℕ) → IsTrue (is_part a) → IsTrue (is_part b) → a ≢ b
        → bytes_eq (joined folder a) (joined folder b) ≡ false
    other_name a b p q ne = bytes_eq-other (joined folder a) (joined folder b)
        (λ e. ne (sym (named folder a (joined folder a) (part_form a p).0 (part_form a p).1
        (at_itself (joined folder a))) ∙ ap (name_in folder) e ∙ named folder b (joined folder b)
        (part_form b q).0 (part_form b q).1 (at_itself (joined folder b))))
      where
        at_itself : (p : List ℕ) → is_at_or_below p p ≡ true
        at_itself p = ap (λ v. v || starts_with nat_eq p (joined p [])) (bytes_eq-same p)

    pub open_written : (names : List (List ℕ)) → AreOnce names → IsOpen folder names t → IsOpen folder names now
    open_written names once open_ = record {
      there = ap (λ v. is_folder (cond (is_root folder) (Some Folder) v)) (get_short folder (omega arith))
          ∙ folder_stands folder t;
      made = make_kept folder t now kept open_.made;
      free = all names once open_.free;
    }
      where
        get_short : (q : List ℕ) → length q ≤ length folder → get now q ≡ get (folder_made folder t) q
        get_short q short =
            let long : length folder < length file = longer_child folder name (part_form name part).0 in
            let other : bytes_eq q file ≡ false = bytes_eq-other q file
            (λ e. let same : length q ≡ length file = ap length e in absurd (omega arith)) in
            let wider : length file < length (beside file) = longer_beside file in
            let another : bytes_eq q (beside file) ≡ false = bytes_eq-other q (beside file)
            (λ e. let same : length q ≡ length (beside file) = ap length e in absurd (omega arith)) in
            get_now q ∙ ap (λ v. cond v (Some (File false bytes))
            (cond (bytes_eq q (beside file)) None (get (folder_made folder t) q))) other
            ∙ ap (λ v. cond v None (get (folder_made folder t) q)) another

        kept : (q : List ℕ) → length q ≤ length folder → can_be_folder t q ≡ true → can_be_folder now q ≡ true
        kept q short is =
            ap (λ v. is_folder (cond (is_root q) (Some Folder) v) || not (is_some (cond (is_root q) (Some Folder) v)))
            (get_short q short) ∙ folder_stays folder q t is

        one : (a : List ℕ) → IsPlain a → HasParts a → IsFree folder t a → IsFree folder now a
        one a plain parts free = (
          item_now a parts.part ∙ none_over _ _ _ (other_name a name parts.part part
              (not_alike a name plain.1 like)) free.0,
          record { document = file_now _ parts.document free.1.document; near = file_now _ parts.near free.1.near },
        )

        all : (names : List (List ℕ)) → AreOnce names → AllByRecursion (IsFree folder t) names
            → AllByRecursion (IsFree folder now) names
        all [] once free = tt
        all (a ∷ names) once free = (one a once.0 (parts_of_plain a once.0) free.0, all names once.2 free.1)

-- a layer's tree is laid in the folder, which is there
pub stands_above : (folder name : List ℕ) (names : List (List ℕ)) (t : Tree) → is_path folder ≡ true → IsPlain name
    → IsOpen folder names t → is_folder (item_at t (parent_of (joined folder name))) ≡ true
stands_above folder name names t path plain open_ = ap (λ p. is_folder (item_at t p))
    (parent_of_file folder name path (layer_name_is_part name plain.0)) ∙ open_.there

pub may_lay : (folder name : List ℕ) (names : List (List ℕ)) (tree : Node) (t : Tree) → IsPlain name
    → IsOpen folder (name ∷ names) t → IsTrue (can_lay (joined folder name) (codes "/") tree t)
may_lay folder name names tree t plain open_ =
    let part = layer_name_is_part name plain.0 in
    and_from _ _ (make_child folder name t (part_form name part).1 open_.made (none_can _ open_.free.0.0))
    (ap (λ v. not v || is_folder_node tree) (child_plain folder name part))

pub kept_folder : (a b : Option Item) → (is_folder a || not (is_some a)) ≡ true → (b ≡ a) ⊎ (b ≡ Some Folder)
    → (is_folder b || not (is_some b)) ≡ true
kept_folder a b is (inl same) = ap (λ o. is_folder o || not (is_some o)) same ∙ is
kept_folder a b is (inr made) = ap (λ o. is_folder o || not (is_some o)) made

-- a document's name is longer than the layer's
not_near : (name : List ℕ) → name ≢ beside (document_name name)
not_near name is =
    let same : length name ≡ length (beside (document_name name)) = ap length is in
    absurd (omega (arith, same, length-append (document_name name) (46 ∷ 110 ∷ 101 ∷ 119 ∷ []), document_length name))

module _ (folder name : List ℕ) (t after : Tree) (plain : IsPlain name)
    (around : KeepsAround (joined folder name) t after) where
  part_laid : IsTrue (is_part name)
  part_laid = layer_name_is_part name plain.0

  stays_beside : (y : List ℕ) → IsTrue (is_part y) → name ≢ y
      → item_at after (joined folder y) ≡ item_at t (joined folder y)
  stays_beside y inside ne = item_kept (joined folder name) (joined folder y) t after
      (siblings_apart folder name y part_laid inside ne) around

  due_laid : (other : List ℕ) → HasParts other → name ≢ beside (document_name other) → IsDue folder other t
      → IsDue folder other after
  due_laid other parts ne due = record {
    document = ap is_file_or_absent (stays_beside (document_name other) parts.document
        (not_alike name (document_name other) plain.1 (document_is_like other))) ∙ due.document;
    near = ap is_file_or_absent (stays_beside (beside (document_name other)) parts.near ne) ∙ due.near;
  }

  pub open_laid : (names : List (List ℕ)) → AreOnce (name ∷ names) → IsOpen folder (name ∷ names) t
      → IsOpen folder names after × IsDue folder name after
  open_laid names once open_ = (
    record {
      there = still (around folder (outside folder (omega arith)));
      made = make_kept folder t after kept open_.made;
      free = all names once.1 once.2 open_.free.1;
    },
    due_laid name (parts_of_plain name plain) (not_near name) open_.free.0.1,
  )
    where
      outside : (q : List ℕ) → length q ≤ length folder → is_within (joined folder name) q ≡ false
      outside q short =
          let out : is_at_or_below (joined folder name) q ≡ false = shorter_away (joined folder name) q
          (omega (arith, short, longer_child folder name (part_form name part_laid).0)) in
          or_from _ _ (child_plain folder name part_laid)
          (or_from _ _ (or_parts _ _ out).0 (not_below (joined folder name) q out))

      still : (item_at after folder ≡ item_at t folder) ⊎ IsMadeAbove (joined folder name) folder t after
          → is_folder (item_at after folder) ≡ true
      still (inl same) = ap is_folder same ∙ open_.there
      still (inr made) = ap is_folder made.after

      kept : (q : List ℕ) → length q ≤ length folder → can_be_folder t q ≡ true → can_be_folder after q ≡ true
      kept q short is = by (around q (outside q short))
        where
          by : (item_at after q ≡ item_at t q) ⊎ IsMadeAbove (joined folder name) q t after
              → can_be_folder after q ≡ true
          by (inl same) = kept_folder (item_at t q) (item_at after q) is (inl same)
          by (inr made) = kept_folder (item_at t q) (item_at after q) is (inr made.after)

      one : (a : List ℕ) → HasParts a → IsOther name a → IsFree folder t a → IsFree folder after a
      one a parts other free = (stays_beside a parts.part other.0 ∙ free.0, due_laid a parts other.1 free.1)

      all : (names : List (List ℕ)) → AllByRecursion (IsOther name) names → AreOnce names
          → AllByRecursion (IsFree folder t) names → AllByRecursion (IsFree folder after) names
      all [] others once free = tt
      all (a ∷ names) others once free = (
        one a (parts_of_plain a once.0) others.0 free.0,
        all names others.1
            once.2 free.1,
      )
