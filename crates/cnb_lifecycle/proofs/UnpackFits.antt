-- Where the files fit `unpack`, each row of the image leaves files over which the next one may be laid, and then the
-- document of the launch.
use Rattle.std.proofs.Common.{◌≡◌, ◌∙◌, refl, sym, ap, subst, arith, ℕ, suc, ◌+◌, ◌<◌, ◌≤◌, Bool, true, false, cond}
use Rattle.std.proofs.Common.{not, ◌||◌, ◌⊎◌, inl, inr, List, [], ◌∷◌, ◌++◌, append_assoc, drop, get_or, length}
use Rattle.std.proofs.Common.{length-append, nat_eq, is_some, Option, Some, None, Result, Ok, Err}
use Rattle.std.specs.Prelude.{All, IfOk, IfSome, IsTrue, nat_le}
use Rattle.std.specs.List.{list_all, list_any, starts_with}
use Rattle.std.specs.Option.{option_map}
use Rattle.std.specs.Str.{bytes_eq}
use Rattle.std.specs.FinMap.{get}
use Rattle.std.proofs.lemmas.Bool.{and_from, and_parts, false_from_ne_true, or_left, or_right}
use Rattle.std.proofs.lemmas.List.Folds.{list_all-append}
use Rattle.std.proofs.lemmas.Slice.Eq.{bytes_eq-Decides}
use Rattle.cnb_env.specs.Files.{is_absent}
use Rattle.cnb_launch.specs.Commands.{unpacks_command}
use Rattle.cnb_launch.specs.Faults as launching
use Rattle.cnb_launch.specs.Unpacking.{ReadsAs, file_of, if_absent, launch_doc_place, lays_image, lays_launch, lays_row}
use Rattle.cnb_launch.specs.Unpacking.{makes, unpacks}
use Rattle.cnb_launch.specs.declared.fault.LaunchFault.{LaunchFault}
use Rattle.cnb_launch.specs.declared.fault.LaunchFault.TheVariants.{Exists}
use Rattle.cnb_toml.specs.Document.{document_of}
use Rattle.cnb_toml.specs.declared.fault.DocFault.{DocFault}
use Rattle.cnb_toml.specs.declared.fault.DocFault.TheVariants as doc_fault
use Rattle.cnb_words.specs.declared.unpack.UnpackWords.{UnpackWords}
use Rattle.cnb_world.proofs.EffectLemmas.{set_here}
use Rattle.cnb_world.proofs.Parents.{some_part}
use Rattle.cnb_world.proofs.Trees.{bytes_eq-same}
use Rattle.cnb_world.specs.Path.{are_parts, is_path, is_short_path, joined}
use Rattle.cnb_world.specs.Tree.{Tree, bytes_of, can_be_folders, can_make_folder, folders_above, is_file_or_absent}
use Rattle.cnb_world.specs.Tree.{is_folder, is_root, is_under, is_within, item_at, kind_of}
use Rattle.cnb_world.specs.declared.world.Item.{Item}
use Rattle.cnb_world.specs.declared.world.Item.TheVariants as item
use Rattle.doc_files.specs.Faults.{read_cause}
use Rattle.doc_files.specs.Reading.{document_at, read_at}
use Rattle.doc_files.specs.declared.fault.ReadFault.{ReadFault}
use Rattle.hex.specs.Hex.{encode_lower}
use Rattle.image_docs.proofs.Answered.{Holds, in_document}
use Rattle.image_docs.proofs.ReadLaws.{image_holds}
use Rattle.image_docs.specs.Base.{is_base}
use Rattle.image_docs.specs.By.{is_by}
use Rattle.image_docs.specs.Image.{image_table_in, is_image_doc}
use Rattle.image_docs.specs.Row.{are_ordered, are_rows, is_row}
use Rattle.image_docs.specs.declared.image.ImageDoc.{ImageDoc}
use Rattle.image_docs.specs.declared.launch_doc.LaunchDoc.{LaunchDoc}
use Rattle.image_docs.specs.declared.row.Row.{Row}
use Rattle.image_files.specs.Documents.{found_of, is_fit_document, some_of}
use Rattle.image_files.specs.Faults as image_files
use Rattle.image_files.specs.Images.{image_at, named, reads_image}
use Rattle.image_files.specs.Paths.{image_path}
use Rattle.steps.specs.Causes.{Cause}
use Rattle.steps.specs.Each.{for_each}
use Rattle.steps.specs.Outside.{Seen}
use Rattle.steps.specs.Results.{and_then, with_fault}
use Rattle.steps.specs.Steps.{◌>>=◌, Allows, gives, map_err, reads}
use Rattle.tree_canon.specs.Division.{Spells}
use Rattle.tree_canon.specs.declared.node.Named.{Named}
use Rattle.tree_canon.specs.declared.node.Node.{Node}
use Rattle.tree_canon.specs.declared.node.Node.TheFolds.{fold-roll-Node, ind-Node}
use Rattle.tree_canon.specs.declared.node.Node.TheOpen as layer
use Rattle.tree_canon.specs.declared.node.Node.TheViews.{roll-Node}
use Rattle.tree_store.proofs.Apart.{above_begins, item_kept}
use Rattle.tree_store.proofs.Blames.{within_itself}
use Rattle.tree_store.proofs.Overlays.{items_in, plain_placed}
use Rattle.tree_store.proofs.Places.{below_length, not_below, or_from, or_parts, shorter_away, starts_itself}
use Rattle.tree_store.proofs.Places.{starts_split}
use Rattle.tree_store.specs.Around.{IsMadeAbove, KeepsAround, KeptAround}
use Rattle.tree_store.specs.Overlay.{Given, Giving, folder_at, folder_step, give_entry_step, give_step, is_folder_node}
use Rattle.tree_store.specs.Overlay.{items_of, items_under, lay, parts_of, tree_laid, way_parts}
use Rattle.tree_store.specs.Steps.{can_lay, can_place, gets_tree, lays_kept, lays_stored, lays_tree}
use Rattle.tree_store.specs.Store.{Gets, tree_path}
use Rattle.tree_store.specs.Writing.{AreApart, trees_of}
use Rattle.cnb_lifecycle.specs.Fitting.{FitsUnpack, LaysFolder, NoMisuse}
use Rattle.cnb_lifecycle.proofs.FitPasses.{Goes, Passes, goes_bind, goes_looks, minds_behind}
use Rattle.cnb_lifecycle.proofs.FitSteps.{Looks, Minds, by_allows, join, looks_gives, looks_reads, looks_yields}
use Rattle.cnb_lifecycle.proofs.FitSteps.{minds_bind, minds_told, minds_yields, narrow, unmoved, with_known}
use Rattle.cnb_lifecycle.proofs.PutFits.{not_root, trees_long}

-- ---- paths apart

abbrev IsBelow : List ℕ → List ℕ → Type 0
IsBelow folder path = (more : List ℕ) × (path ≡ folder ++ 47 ∷ more)

below_within : (folder more : List ℕ) → is_within folder (folder ++ 47 ∷ more) ≡ true
below_within folder more =
    or_right (is_root folder) _ (or_right (bytes_eq (folder ++ 47 ∷ more) folder) _
    (ap (λ p. starts_with nat_eq p (folder ++ 47 ∷ [])) (sym (append_assoc folder (47 ∷ []) more))
    ∙ starts_itself (folder ++ 47 ∷ []) more))

within_form : (folder path : List ℕ) → is_root folder ≡ false → is_within folder path ≡ true → (path ≡ folder)
    ⊎ IsBelow folder path
within_form folder path plain h = by (bytes_eq path folder) refl (ap (λ v. v || is_under folder path) (sym plain) ∙ h)
  where
    by : (same : Bool) → bytes_eq path folder ≡ same → (same || starts_with nat_eq path (folder ++ 47 ∷ []))
        ≡ true → (path ≡ folder) ⊎ IsBelow folder path
    by true e h = inl ((bytes_eq-Decides path folder).0 e)
    by false e h = inr (
      drop (length (folder ++ 47 ∷ [])) path,
      starts_split path (folder ++ 47 ∷ []) h
          ∙ append_assoc folder (47 ∷ []) _,
    )

-- of two folders of a path one is the other or lies in it
meet : (a b n m : List ℕ) → a ++ 47 ∷ n ≡ b ++ 47 ∷ m → (a ≡ b) ⊎ (IsBelow a b ⊎ IsBelow b a)
meet [] [] n m e = inl refl
meet [] (y ∷ b) n m e = inr (inl (b, let first : y ≡ 47 = cc in ap (λ v. v ∷ b) first))
meet (x ∷ a) [] n m e = inr (inr (a, let first : x ≡ 47 = cc in ap (λ v. v ∷ a) first))
meet (x ∷ a) (y ∷ b) n m e = by (let first : x ≡ y = cc in first)
    (meet a b n m (let rest : a ++ 47 ∷ n ≡ b ++ 47 ∷ m = cc in rest))
  where
    by : x ≡ y → (a ≡ b) ⊎ (IsBelow a b ⊎ IsBelow b a) → (x ∷ a ≡ y ∷ b)
        ⊎ (IsBelow (x ∷ a) (y ∷ b) ⊎ IsBelow (y ∷ b) (x ∷ a))
    by first (inl same) = inl (ap (λ v. v ∷ a) first ∙ ap (λ r. y ∷ r) same)
    by first (inr (inl (more, is))) = inr (inl (more, ap (λ v. v ∷ b) (sym first) ∙ ap (λ r. x ∷ r) is))
    by first (inr (inr (more, is))) = inr (inr (more, ap (λ v. v ∷ a) first ∙ ap (λ r. y ∷ r) is))

-- what is apart from a folder is apart from all that lies in it
apart_below : (root folder name : List ℕ) → 1 < length (folder ++ 47 ∷ name) → AreApart root folder
    → AreApart root (folder ++ 47 ∷ name)
apart_below root folder name long apart = record {
  outside = false_from_ne_true _ (λ e. not_outside
      (within_form (folder ++ 47 ∷ name) root (not_root (folder ++ 47 ∷ name) long) e));
  beside = false_from_ne_true _ (λ e. not_beside
      (within_form root (folder ++ 47 ∷ name) (or_parts (is_root root) (is_under root folder) apart.beside).0 e));
}
  where
    in_folder : (more : List ℕ) → root ≡ folder ++ 47 ∷ more → ⊥
    in_folder more is = let no : true ≡ false = sym (ap (is_within folder) is ∙ below_within folder more)
        ∙ apart.outside in cc

    in_root : is_within root folder ≡ true → ⊥
    in_root h = let no : true ≡ false = sym h ∙ apart.beside in cc

    either : (folder ≡ root) ⊎ (IsBelow folder root ⊎ IsBelow root folder) → ⊥
    either (inl same) = in_root (ap (is_within root) same ∙ within_itself root)
    either (inr (inl (more, is))) = in_folder more is
    either (inr (inr (more, is))) = in_root (ap (is_within root) is ∙ below_within root more)

    not_outside : (root ≡ folder ++ 47 ∷ name) ⊎ IsBelow (folder ++ 47 ∷ name) root → ⊥
    not_outside (inl is) = in_folder name is
    not_outside (inr (more, is)) = in_folder (name ++ 47 ∷ more) (is ∙ append_assoc folder (47 ∷ name) (47 ∷ more))

    not_beside : (folder ++ 47 ∷ name ≡ root) ⊎ IsBelow root (folder ++ 47 ∷ name) → ⊥
    not_beside (inl is) = in_folder name (sym is)
    not_beside (inr (more, is)) = either (meet folder root name more is)

tree_form : (store digest : List ℕ) → tree_path store digest ≡ trees_of store ++ 47 ∷ encode_lower digest
tree_form store digest = ap (λ v. cond v (trees_of store) (trees_of store ++ 47 ∷ []) ++ encode_lower digest)
    (not_root (trees_of store) (omega (arith, trees_long store)))
    ∙ append_assoc (trees_of store) (47 ∷ []) (encode_lower digest)

tree_apart : (store root digest : List ℕ) → AreApart root (trees_of store) → AreApart root (tree_path store digest)
tree_apart store root digest apart =
    subst (AreApart root) (sym (tree_form store digest))
    (apart_below root (trees_of store) (encode_lower digest)
    (omega (arith, trees_long store, length-append (trees_of store) (47 ∷ encode_lower digest))) apart)

-- ---- the folders above the root

-- a folder or nothing
abbrev can_be_folder : Option Item → Bool
can_be_folder found = is_folder found || not (is_some found)

all_so : (P Q : List ℕ → Bool) (paths : List (List ℕ)) →
    ((path : List ℕ) → list_any (bytes_eq path) paths ≡ true → P path ≡ true → Q path ≡ true)
    → list_all P paths ≡ true → list_all Q paths ≡ true
all_so P Q [] so h = refl
all_so P Q (path ∷ paths) so h =
    let parts = and_parts (P path) (list_all P paths) h in
    and_from (Q path) (list_all Q paths) (so path (or_left (bytes_eq path path) _ (bytes_eq-same path)) parts.0)
    (all_so P Q paths (λ other among. so other (or_right (bytes_eq other path) _ among)) parts.1)

above_away : (root path : List ℕ) → is_root root ≡ false → list_any (bytes_eq path) (folders_above root) ≡ true
    → is_within root path ≡ false
above_away root path plain above =
    let long : length path + 1 ≤ length root = below_length root path (above_begins [] root path above) in
    let away = shorter_away root path (omega (arith, long)) in
    or_from (is_root root) _ plain (or_from _ _ (or_parts _ _ away).0 (not_below root path away))

above_kept : (root : List ℕ) (old new : Tree) → is_root root ≡ false → KeepsAround root old new
    → can_be_folders old (folders_above root) ≡ true → can_be_folders new (folders_above root) ≡ true
above_kept root old new plain kept h = all_so (λ p. can_be_folder (item_at old p))
    (λ p. can_be_folder (item_at new p)) (folders_above root)
    (λ path above fits. by path fits (kept path (above_away root path plain above))) h
  where
    by : (path : List ℕ) → can_be_folder (item_at old path) ≡ true → (item_at new path ≡ item_at old path)
        ⊎ IsMadeAbove root path old new → can_be_folder (item_at new path) ≡ true
    by path fits (inl same) = ap can_be_folder same ∙ fits
    by path fits (inr made) = ap can_be_folder made.after

can_make : (root : List ℕ) (files : Tree) → can_be_folders files (folders_above root) ≡ true
    → can_be_folder (item_at files root) ≡ true → can_make_folder files root ≡ true
can_make root files above at =
    let F : List ℕ → Bool = λ p. can_be_folder (item_at files p) in
    list_all-append F (folders_above root) (root ∷ []) ∙ and_from (list_all F (folders_above root))
    (list_all F (root ∷ [])) above (and_from (F root) true at refl)

made_above : (root : List ℕ) (files : Tree) → can_make_folder files root ≡ true
    → can_be_folders files (folders_above root) ≡ true
made_above root files h =
    let F : List ℕ → Bool = λ p. can_be_folder (item_at files p) in
    (and_parts (list_all F (folders_above root)) (list_all F (root ∷ []))
    (sym (list_all-append F (folders_above root) (root ∷ [])) ∙ h)).0

-- ---- a folder stands at the root where a tree was laid

-- items of which the first is the folder
abbrev Begins : List ℕ → List Given → Type 0
Begins root given = (rest : List Given) × (given ≡ folder_at root ++ rest)

of_layer : (path : List ℕ) (x : layer.Node-F Node Named) → is_folder_node (roll-Node x) ≡ true
    → Begins path (items_of (roll-Node x) path)
of_layer path (layer.Folder es) h = (
  items_in es path,
  ap (λ (f : Giving). f path)
      (fold-roll-Node Giving Giving give_step give_entry_step (layer.Folder es)),
)
of_layer path (layer.File exec bytes) h = absurd
    (let no : true ≡ false = sym h ∙ fold-roll-Node Bool Bool folder_step (λ e. e.node) (layer.File exec bytes)
    in cc)
of_layer path (layer.Link target) h = absurd (let no : true ≡ false = sym h
    ∙ fold-roll-Node Bool Bool folder_step (λ e. e.node) (layer.Link target) in cc)

folder_begins : (path : List ℕ) (node : Node) → is_folder_node node ≡ true → Begins path (items_of node path)
folder_begins path = ind-Node (λ node. is_folder_node node ≡ true → Begins path (items_of node path))
    (λ e. Unit {0}) (λ x y is. of_layer path x) (λ x y is. tt)

-- a path of one byte is `/`
one_root : (c : ℕ) → is_path (c ∷ []) ≡ true → is_root (c ∷ []) ≡ true
one_root c h = by (bytes_eq (c ∷ []) (47 ∷ []))
    (and_parts (nat_le 1 32768) (bytes_eq (c ∷ []) (47 ∷ []) || are_parts (c ∷ [])) h).1
  where
    by : (root : Bool) → (root || are_parts (c ∷ [])) ≡ true → root ≡ true
    by true h = refl
    by false h = absurd (let no = (and_parts (nat_eq c 47) false h).1 in cc)

placed_begins : (root place : List ℕ) (node : Node) → is_path place ≡ true
    → (is_root place ≡ true → is_folder_node node ≡ true) → Begins root (items_under node (parts_of place) root)
placed_begins root [] node path so = absurd (cc)
placed_begins root (c ∷ []) node path so = folder_begins root node (so (one_root c path))
placed_begins root (c ∷ d ∷ rest) node path so = by (some_part (d ∷ rest))
  where
    by : ((first : List ℕ) × (more : List (List ℕ)) × (way_parts (d ∷ rest) ≡ first ∷ more))
        → Begins root (items_under node (way_parts (d ∷ rest)) root)
    by (first, more, is) = (items_under node more (joined root first), ap (λ parts. items_under node parts root) is)

root_stands : (root : List ℕ) (given : List Given) (files : Tree) → is_root root ≡ false → Begins root given
    → item_at (lay given files) root ≡ Some item.Folder
root_stands root given files plain (rest, is) =
    ap (λ v. cond v (Some item.Folder) (get (lay given files) root)) plain
    ∙ ap (λ g. get (lay g files) root) (is ∙ ap (λ v. cond v [] ((root, item.Folder) ∷ []) ++ rest) plain)
    ∙ set_here _ root root item.Folder (bytes_eq-same root)

-- ---- the rows of an image that was read

rows_sound : (store name : List ℕ) (files : Tree) (doc : ImageDoc) → image_at store name files ≡ Ok doc
    → list_all is_row doc.rows ≡ true
rows_sound store name files doc h = rows_of (found (document_at files (image_path store name)) h)
  where
    refused : (fault : DocFault) → and_then (with_fault image_files.of_read_fault
        (some_of (read_at (image_path store name) (let r : Result ImageDoc DocFault = Err fault in r))))
        (named name) ≡ Ok doc → ⊥
    refused doc_fault.Memory h = cc
    refused fault h = cc

    read : (image : Result ImageDoc DocFault) → Holds is_image_doc image
        → and_then (with_fault image_files.of_read_fault (some_of (read_at (image_path store name) image)))
        (named name) ≡ Ok doc → is_image_doc doc ≡ true
    read (Ok image) holds h = subst (λ (d : ImageDoc). is_image_doc d ≡ true)
        (let same : image ≡ doc = cc in same) holds
    read (Err fault) holds h = absurd (refused fault h)

    found : (bytes : Result (Option (List ℕ)) ReadFault) → and_then
        (with_fault image_files.of_read_fault (and_then bytes (found_of image_table_in (image_path store name))))
        (named name) ≡ Ok doc → is_image_doc doc ≡ true
    found (Err fault) h = absurd (cc)
    found (Ok None) h = absurd (cc)
    found (Ok (Some bytes)) h = read (document_of image_table_in bytes)
        (in_document image_table_in is_image_doc image_holds bytes) h

    rows_of : is_image_doc doc ≡ true → list_all is_row doc.rows ≡ true
    rows_of h = (and_parts (list_all is_row doc.rows) (are_ordered doc.rows)
        (and_parts (are_rows doc.rows) _ (and_parts (is_base doc.base) _ h).1).0).0

-- ---- steps of which the next ones know what was read, and write

told_minds : {E F A B : Type 0} (Fit : Tree → Type 0) (of : E → F) (cause : E → Cause)
    (Among : List ℕ → Type 0) (fits : Tree → Bool)
    (want : Tree → Result A E) (next : A → Seen → Result B F → Seen → Type 0)
    → ((t : Tree) → Fit t → IsTrue (fits t))
    → ((a : A) → Minds (λ t. Fit t × (want t ≡ Ok a)) (next a))
    → Minds Fit (map_err of (reads cause Among fits want) >>= next)
unfolding ◌>>=◌ map_err reads
told_minds {F = F} {A = A} {B = B} Fit of cause Among fits want next so later old new result h = by result h
  where
    behind : (result : Result B F) (a : A) (mid : Seen) → reads cause Among fits want old (Ok a) mid
        → next a mid result new → NoMisuse Fit old new
    behind result a mid h k =
        let one = looks_reads Fit cause Among fits want so old mid (Ok a) h in
        join Fit old.files mid.files old.misused mid.misused new.misused one.0 one.1
        (with_known Fit (λ t. want t ≡ Ok a) old.files mid.files mid.misused new.misused one.0 h.answer
        (later a mid new result k))

    by : (result : Result B F) → (map_err of (reads cause Among fits want) >>= next) old result new
        → NoMisuse Fit old new
    by (Ok value) (a, mid, h, k) = behind (Ok value) a mid h k
    by (Err refusal) (inl (fault, is, h)) = (looks_reads Fit cause Among fits want so old new (Err fault) h).1
    by (Err refusal) (inr (a, mid, h, k)) = behind (Err refusal) a mid h k

given_minds : {E A B : Type 0} (Fit : Tree → Type 0) (cause : E → Cause) (want : Result A E)
    (next : A → Seen → Result B E → Seen → Type 0) → ((a : A) → want ≡ Ok a → Minds Fit (next a))
    → Minds Fit (gives cause want >>= next)
unfolding ◌>>=◌ gives
given_minds Fit cause want next later old new (Ok value) (a, mid, h, k) =
    let one = unmoved Fit old mid h.0 in join Fit old.files mid.files old.misused mid.misused new.misused one.0
    one.1 (later a h.1 mid new (Ok value) k)
given_minds Fit cause want next later old new (Err fault) (inl h) = (unmoved Fit old new h.0).1
given_minds Fit cause want next later old new (Err fault) (inr (a, mid, h, k)) =
    let one = unmoved Fit old mid h.0 in join Fit old.files mid.files old.misused mid.misused new.misused one.0
    one.1 (later a h.1 mid new (Err fault) k)

minds_so : {E A : Type 0} (P Q : Tree → Type 0) (step : Seen → Result A E → Seen → Type 0)
    → ((t : Tree) → Q t → P t) → Minds P step → Minds Q step
minds_so P Q step so minds old new result h = narrow P Q old.files old.misused new.misused so (minds old new result h)

-- ---- an image

-- the tree that the store gives is what its file spells
spelled : (digest : List ℕ) (found : Option Item) (tree : Node) → Gets digest found (Ok tree)
    → Spells tree (bytes_of found)
spelled digest None tree h = absurd h
spelled digest (Some item.Folder) tree h = absurd h
spelled digest (Some (item.File exec bytes)) tree h = h.1
spelled digest (Some (item.Link target)) tree h = absurd h
spelled digest (Some item.Odd) tree h = absurd h

row_place : (row : Row) → is_row row ≡ true → is_path row.place ≡ true
row_place row h = (and_parts (nat_le (length row.place) 4096) (is_path row.place)
    (and_parts (is_short_path row.place) (is_by row.by) h).0).1

may_place : (node : Node) (parts : List (List ℕ)) (root : List ℕ) → is_root root ≡ false
    → can_place node parts root ≡ true
may_place node [] root plain = plain_placed node root plain
may_place node (part ∷ parts) root plain = refl

around : (root : List ℕ) (a b : Tree) (o : Option Tree) → o ≡ Some b → KeptAround root (Some a) o → KeepsAround root a b
unfolding KeptAround
around root a b o is h = let at : KeptAround root (Some a) (Some b) = subst
    (λ (p : Option Tree). KeptAround root (Some a) p) is h in at

module _ (store root : List ℕ) (doc : ImageDoc) where
  -- the rows, and the document of the launch, may be laid
  record Lays (files : Tree) : Type 0 where
    apart : AreApart root (trees_of store)
    rows : list_all is_row doc.rows ≡ true
    trees : (digest : List ℕ) → IsTrue (is_file_or_absent (item_at files (tree_path store digest)))
    folders : All (LaysFolder store files) doc.rows
    made : can_make_folder files root ≡ true

  plain_root : (files : Tree) → Lays files → is_root root ≡ false
  plain_root files fit = (or_parts (is_root root) (is_under root (trees_of store)) fit.apart.beside).0

  -- a tree of the store, which is read again for each row, stands as before
  tree_stays : (old new : Tree) → Lays old → KeepsAround root old new → (digest : List ℕ)
      → item_at new (tree_path store digest) ≡ item_at old (tree_path store digest)
  tree_stays old new fit kept digest = item_kept root (tree_path store digest) old new
      (tree_apart store root digest fit.apart) kept

  folder_stays : (old new : Tree) → Lays old → KeepsAround root old new → (row : Row) → LaysFolder store old row
      → LaysFolder store new row
  folder_stays old new fit kept row folder at tree spells = folder at tree
      (subst (λ (found : Option Item). Spells tree (bytes_of found))
      (tree_stays old new fit kept row.digest) spells)

  laid_fits : (place : List ℕ) (tree : Node) (files : Tree) → is_path place ≡ true
      → (is_root place ≡ true → is_folder_node tree ≡ true) → Lays files
      → KeepsAround root files (tree_laid root place tree files) → Lays (tree_laid root place tree files)
  unfolding tree_laid
  laid_fits place tree files path folder fit kept =
      let plain = plain_root files fit in
      let new : Tree = tree_laid root place tree files in
      let same = tree_stays files new fit kept in record {
        apart = fit.apart;
        rows = fit.rows;
        trees = λ digest. ap is_file_or_absent (same digest) ∙ fit.trees digest;
        folders = λ k d less. folder_stays files new fit kept (get_or doc.rows k d) (fit.folders k d less);
        made = can_make root new (above_kept root files new plain kept (made_above root files fit.made))
            (ap can_be_folder (root_stands root (items_under tree (parts_of place) root) _ plain
            (placed_begins root place tree path folder)));
      }

  may_lay : (place : List ℕ) (tree : Node) (files : Tree) → Lays files → IsTrue (can_lay root place tree files)
  may_lay place tree files fit = and_from (can_make_folder files root)
      (can_place tree (parts_of place) root) fit.made
      (may_place tree (parts_of place) root (plain_root files fit))

  lay_minds : (place : List ℕ) (tree : Node) (old new : Seen) → Allows (can_lay root place tree) old new
      → NoMisuse Lays old new
  lay_minds place tree old new allows = narrow (λ t. IsTrue (can_lay root place tree t)) Lays old.files
      old.misused new.misused (may_lay place tree) (by_allows
      (can_lay root place tree) old.files old.misused new.misused allows)

  get_looks : (digest : List ℕ) → Looks Lays (gets_tree store digest)
  unfolding gets_tree
  get_looks digest old new result h =
      let fits : Tree → Bool = λ t. is_file_or_absent (item_at t (tree_path store digest)) in (
        h.same.files,
        narrow (λ t. IsTrue (fits t)) Lays old.files old.misused new.misused
            (λ t fit. fit.trees digest) (by_allows fits old.files old.misused new.misused h.allows),
      )

  row_passes : (row : Row) (tree : Node) (o o1 o2 : Option Tree)
      → ((t : Tree) → Lays t → (is_row row ≡ true) × LaysFolder store t row) → o1 ≡ o
      → IfSome o (λ t. Gets row.digest (item_at t (tree_path store row.digest)) (Ok tree))
      → o2 ≡ option_map (tree_laid root row.place tree) o1 → KeptAround root o1 o2 → Passes Lays o o2
  row_passes row tree None o1 o2 known same gets is kept = tt
  row_passes row tree (Some t) o1 o2 known same gets is kept = λ fit.
      let new : Tree = tree_laid root row.place tree t in
      let next : o2 ≡ Some new = is ∙ ap (option_map (tree_laid root row.place tree)) same in
      let at : KeptAround root (Some t) o2 = subst (λ (o : Option Tree). KeptAround root o o2) same kept in
      let sure = known t fit in (
        new,
        next,
        laid_fits row.place tree t (row_place row sure.0)
            (λ slash. sure.1 slash tree (spelled row.digest (item_at t (tree_path store row.digest)) tree gets)) fit
            (around root t new o2 next at),
      )

  row_goes : (row : Row) (done : Unit {0}) → ((t : Tree) → Lays t → (is_row row ≡ true) × LaysFolder store t row)
      → Goes Lays (lays_row store root row done)
  unfolding map_err lays_stored lays_kept gets_tree ◌>>=◌
  row_goes row done known old new (Ok laid) (tree, mid, gets, kept) =
      let one = get_looks row.digest old mid (Ok tree) gets in (
        join Lays old.files mid.files old.misused mid.misused new.misused one.0 one.1
            (lay_minds row.place tree mid new kept.2),
        row_passes row tree old.files mid.files new.files known one.0
            gets.answer kept.0 kept.1.files,
      )
  row_goes row done known old new (Err fault) (why, is, inl gets) =
      ((get_looks row.digest old new (Err why) gets).1, tt)
  row_goes row done known old new (Err fault) (why, is, inr (tree, mid, gets, kept)) =
      let one = get_looks row.digest old mid (Ok tree) gets in (
        join Lays old.files mid.files old.misused mid.misused new.misused one.0 one.1
            (lay_minds row.place tree mid new kept.2),
        tt,
      )

  rows_go : (rows : List Row) (done : Unit {0})
      → ((t : Tree) → Lays t → (list_all is_row rows ≡ true) × All (LaysFolder store t) rows)
      → Goes Lays (for_each (lays_row store root) rows done)
  unfolding for_each
  rows_go [] done known = goes_looks Lays _ (looks_yields Lays done)
  rows_go (row ∷ rows) done known =
      goes_bind Lays (lays_row store root row done) (for_each (lays_row store root) rows)
      (row_goes row done (λ t fit. let sure = known t fit
      in ((and_parts (is_row row) (list_all is_row rows) sure.0).0, sure.1 0 row (omega arith))))
      (λ laid. rows_go rows laid (λ t fit. let sure = known t fit
      in (
        (and_parts (is_row row) (list_all is_row rows) sure.0).1,
        λ k d less. sure.1 (suc k) d
            (omega (arith, less)),
      )))

  launch_minds : (launch : LaunchDoc) → Minds Lays (lays_launch root launch)
  unfolding lays_launch makes lays_tree
  launch_minds launch = minds_bind Lays _ _ made (λ bytes. minds_told Lays _ _ (laid bytes))
    where
      made : Looks Lays (makes launching.cause_of (ReadsAs launch))
      made old new (Ok bytes) h = unmoved Lays old new h.0
      made old new (Err fault) h = unmoved Lays old new h.0

      laid : (bytes : List ℕ) → Minds Lays (lays_tree root launch_doc_place (file_of bytes))
      laid bytes old new (Ok done) h = lay_minds launch_doc_place (file_of bytes) old new h.2
      laid bytes old new (Err fault) h = lay_minds launch_doc_place (file_of bytes) old new h.2

  laid_minds : (launch : LaunchDoc) → Minds Lays (for_each (lays_row store root) doc.rows tt
      >>= (λ laid. lays_launch root launch))
  laid_minds launch = minds_behind Lays _ _ (rows_go doc.rows tt (λ t fit. (fit.rows, fit.folders)))
      (λ laid. launch_minds launch)

of_ok : {A E : Type 0} (result : Result A E) (value : A) (P : A → Type 0) → result ≡ Ok value → IfOk result P → P value
of_ok {A = A} {E = E} result value P is h = subst (λ (r : Result A E). IfOk r P) is h

-- the root is absent where the rows are laid
absent_root : (root : List ℕ) (absent : Bool) (free : Unit {0}) → if_absent root absent ≡ Ok free → absent ≡ true
absent_root root true free h = refl
absent_root root false free h = absurd (let no : ◌≡◌ {A = Result (Unit {0}) LaunchFault} (Err (Exists root))
    (Ok free) = h in cc)

nothing_there : (found : Option Item) → is_absent (kind_of found) ≡ true → can_be_folder found ≡ true
nothing_there None h = refl
nothing_there (Some item.Folder) h = refl
nothing_there (Some (item.File exec bytes)) h = absurd (cc)
nothing_there (Some (item.Link target)) h = absurd (cc)
nothing_there (Some item.Odd) h = absurd (cc)

ok_is : {A E : Type 0} (a b : A) → ◌≡◌ {A = Result A E} (Ok a) (Ok b) → a ≡ b
ok_is a b h = cc

pub unpack_minds : (words : UnpackWords) → Minds (FitsUnpack words) (unpacks_command words)
unfolding unpacks_command unpacks lays_image reads_image
unpack_minds words =
    minds_bind Fit _ _ (looks_gives Fit launching.cause_of _)
    (λ text. minds_yields Fit _ _ (told_minds Fit _ image_files.cause_of _
    (is_fit_document (image_path words.store words.image)) (image_at words.store words.image) _
    (λ t fit. fit.image)
    (λ doc. told_minds (Read doc) _ read_cause _ (λ files. true)
    (λ files. Ok (is_absent (kind_of (item_at files words.root)))) _ (λ t fit. refl)
    (λ absent. given_minds (Known doc absent) launching.cause_of (if_absent words.root absent) _
    (λ free is. minds_so (Lays words.store words.root doc) (Known doc absent) _
    (λ t fit. lays doc absent (absent_root words.root absent free is) t fit)
    (laid_minds words.store words.root doc doc.launch))))))
  where
    Fit : Tree → Type 0
    Fit = FitsUnpack words

    Read : ImageDoc → Tree → Type 0
    Read doc t = FitsUnpack words t × (image_at words.store words.image t ≡ Ok doc)

    Known : ImageDoc → Bool → Tree → Type 0
    Known doc absent t = Read doc t × (◌≡◌ {A = Result Bool ReadFault}
        (Ok (is_absent (kind_of (item_at t words.root)))) (Ok absent))

    lays : (doc : ImageDoc) (absent : Bool) → absent ≡ true → (t : Tree) → Known doc absent t
        → Lays words.store words.root doc t
    lays doc absent there t fit = record {
      apart = fit.0.0.apart;
      rows = rows_sound words.store words.image t doc fit.0.1;
      trees = fit.0.0.trees;
      folders = of_ok (image_at words.store words.image t) doc _ fit.0.1 fit.0.0.folders;
      made = can_make words.root t fit.0.0.above (nothing_there (item_at t words.root)
          (ok_is (is_absent (kind_of (item_at t words.root))) absent fit.1 ∙ there));
    }
