-- An image that can be read is a document of its store, so the trees that it names are named.
use Rattle.std.proofs.Common.{◌≡◌, ◌∙◌, refl, sym, ap, subst, arith, ℕ, ◌+◌, ◌-◌, ◌<◌, ◌==◌, ◌&&◌, ◌||◌, Bool, true}
use Rattle.std.proofs.Common.{false, cond, List, [], ◌∷◌, ◌++◌, codes, drop, length, take, Option, Some, None, is_some}
use Rattle.std.proofs.Common.{Result, Ok, Err, append_assoc}
use Rattle.std.specs.Prelude.{IfOk, IsTrue, if◌then◌else◌}
use Rattle.std.specs.Cmp.Lexicographic.{slice_cmp}
use Rattle.std.specs.FinMap.{entries, find, get, get-entries}
use Rattle.std.specs.List.{cons_option, filter_map, list_any}
use Rattle.std.specs.Ordering.{is_eq, nat_cmp}
use Rattle.std.specs.Str.{bytes_eq}
use Rattle.std.proofs.lemmas.Bool.{or_left, or_right}
use Rattle.std.proofs.lemmas.List.Folds.{list_any-append}
use Rattle.std.proofs.lemmas.Map.Text.{is_eq-slice_cmp}
use Rattle.std.proofs.lemmas.Slice.Eq.{bytes_eq-Decides}
use Rattle.std.proofs.Math.Seq.{drop-append_seam, take-append_seam}
use Rattle.cnb_toml.specs.Form.{TableForm}
use Rattle.cnb_toml.specs.Names.{is_image_name}
use Rattle.cnb_world.specs.Listing.{name_below, names_in}
use Rattle.cnb_world.specs.Path.{front_of, is_part, joined, parent_of}
use Rattle.cnb_world.specs.Tree.{IsTree, Tree, is_file, is_file_or_absent, is_folder, is_root, item_at}
use Rattle.cnb_world.specs.Whole.{whole_of}
use Rattle.cnb_world.specs.declared.limits.LimitKind.TheVariants as limit
use Rattle.cnb_world.specs.declared.world.Item.{Item}
use Rattle.cnb_world.specs.declared.world.Item.TheVariants.{Folder, File, Link, Odd}
use Rattle.cnb_world.proofs.Joins.{part_no_slash}
use Rattle.cnb_world.proofs.Trees.{bytes_eq-same}
use Rattle.doc_files.specs.Reading.{limited_by}
use Rattle.doc_files.specs.declared.fault.ReadFault.{ReadFault}
use Rattle.doc_files.specs.declared.fault.ReadFault.TheVariants as read
use Rattle.hex.specs.Hex.{encode_lower}
use Rattle.image_docs.specs.Image.{image_table_in}
use Rattle.image_docs.specs.RunImage.{table_in}
use Rattle.image_docs.specs.declared.image.ImageDoc.{ImageDoc}
use Rattle.image_files.specs.Documents.{document_in, found_of}
use Rattle.image_files.specs.Faults as image_files
use Rattle.image_files.specs.Images.{image_at, named}
use Rattle.image_files.specs.Paths.{document_name, image_path, images_folder, runs_folder}
use Rattle.image_files.specs.declared.fault.ImageFault.{ImageFault}
use Rattle.image_files.proofs.PathLemmas.{document_length, document_name_is_part, image_name_fits}
use Rattle.steps.specs.Results.{and_then, with_fault}
use Rattle.tree_store.proofs.Places.{child_not_root, longer_child, part_form}
use Rattle.store_prune.specs.Digests.{is_among}
use Rattle.store_prune.specs.Faults.{of_read_fault}
use Rattle.store_prune.specs.Named.{digests_of_image, digests_of_run, is_document_name, named_by, names_of_document}
use Rattle.store_prune.specs.Pruning.{each_in, folder_in, found_in, listed_in, listed_where, name_in, named_in}
use Rattle.store_prune.specs.declared.fault.PruneFault.{PruneFault}
use Rattle.store_prune.proofs.NameLemmas.{ends_so}
use Rattle.store_prune.proofs.NamedDigests.{each_holds, then_holds, whatever}

-- ---- digests that are among others

-- each of these is among those
abbrev pub Includes : List (List ℕ) → List (List ℕ) → Type 0
Includes those these = (digest : List ℕ) → is_among these digest ≡ true → is_among those digest ≡ true

pub among_both : (some more : List (List ℕ)) (digest : List ℕ)
    → is_among (some ++ more) digest ≡ (is_among some digest || is_among more digest)
among_both some more digest = list_any-append (λ row. bytes_eq (encode_lower row) (encode_lower digest)) some more

pub in_front : (some more : List (List ℕ)) → Includes (some ++ more) some
in_front some more digest h = among_both some more digest ∙ or_left (is_among some digest) (is_among more digest) h

pub behind : (some more : List (List ℕ)) → Includes (some ++ more) more
behind some more digest h = among_both some more digest ∙ or_right (is_among some digest) (is_among more digest) h

-- ---- what stands in a folder is among its names

below_joined : (folder name : List ℕ) → IsTrue (is_part name) → name_below folder (joined folder [] ++ name) ≡ Some name
below_joined folder name part =
    let front = joined folder [] in
    ap (λ f. cond (bytes_eq front f && is_part (drop (length front) (front ++ name)))
    (Some (drop (length front) (front ++ name))) None) (take-append_seam front name)
    ∙ ap (λ r. cond (bytes_eq front front && is_part r) (Some r) None) (drop-append_seam front name)
    ∙ ap (λ v. cond (v && is_part name) (Some name) None) (bytes_eq-same front)
    ∙ ap (λ v. cond v (Some name) None) part

module _ (folder name : List ℕ) (part : IsTrue (is_part name)) where
  found_name : (es : List (List ℕ × Item)) → is_some (find (slice_cmp nat_cmp) (joined folder [] ++ name) es)
      ≡ true → list_any (bytes_eq name) (filter_map (λ entry. name_below folder entry.0) es) ≡ true
  found_name [] h = absurd (cc)
  found_name (e ∷ es) h = by (λ later. found_name es later)
      (is_eq (slice_cmp nat_cmp (joined folder [] ++ name) e.0)) refl h
    where
      others : List (List ℕ)
      others = filter_map (λ entry. name_below folder entry.0) es

      more : (o : Option (List ℕ)) → list_any (bytes_eq name) others ≡ true
          → list_any (bytes_eq name) (cons_option o others) ≡ true
      more None there = there
      more (Some other) there = or_right (bytes_eq name other) (list_any (bytes_eq name) others) there

      by : (is_some (find (slice_cmp nat_cmp) (joined folder [] ++ name) es) ≡ true
          → list_any (bytes_eq name) others ≡ true) → (v : Bool) → is_eq
          (slice_cmp nat_cmp (joined folder [] ++ name) e.0) ≡ v
          → is_some (cond v (Some e.1) (find (slice_cmp nat_cmp) (joined folder [] ++ name) es)) ≡ true
          → list_any (bytes_eq name) (cons_option (name_below folder e.0) others) ≡ true
      by rest true is there =
          let same : joined folder [] ++ name ≡ e.0 = (bytes_eq-Decides (joined folder [] ++ name) e.0).0
          (sym (is_eq-slice_cmp (joined folder [] ++ name) e.0) ∙ is) in
          ap (λ o. list_any (bytes_eq name) (cons_option o others))
          (ap (name_below folder) (sym same) ∙ below_joined folder name part)
          ∙ or_left (bytes_eq name name) (list_any (bytes_eq name) others) (bytes_eq-same name)
      by rest false is there = more (name_below folder e.0) (rest there)

front_whole : (folder name : List ℕ) → joined folder name ≡ joined folder [] ++ name
front_whole folder name = ap (λ f. f ++ name) (by (cond (bytes_eq folder (47 ∷ [])) folder (folder ++ 47 ∷ [])))
  where
    by : (f : List ℕ) → f ≡ f ++ []
    by [] = refl
    by (c ∷ f) = ap (λ rest. c ∷ rest) (by f)

pub name_listed : (files : Tree) (folder name : List ℕ) → IsTrue (is_part name)
    → is_some (item_at files (joined folder name)) ≡ true → list_any (bytes_eq name) (names_in files folder)
    ≡ true
name_listed files folder name part there =
    let key : item_at files (joined folder name) ≡ get files (joined folder name) = ap
    (λ v. cond v (Some Folder) (get files (joined folder name)))
    (child_not_root folder name (part_form name part).0) in
    found_name folder name part (entries files) (ap is_some
    (sym (key ∙ ap (get files) (front_whole folder name) ∙ get-entries files (joined folder [] ++ name)))
    ∙ there)

-- ---- the folder of what stands is a folder

front_of-more : (bytes name : List ℕ) → list_any (λ b. b == 47) name ≡ false → front_of (bytes ++ 47 ∷ name) ≡ bytes
front_of-more [] name h = ap (λ v. cond v (47 ∷ front_of name) []) h
front_of-more (c ∷ cs) name h =
    ap (λ v. cond v (c ∷ front_of (cs ++ 47 ∷ name)) [])
    (list_any-append (λ b. b == 47) cs (47 ∷ name) ∙ or_right (list_any (λ b. b == 47) cs) true refl)
    ∙ ap (λ r. c ∷ r) (front_of-more cs name h)

parent_of_part : (folder name : List ℕ) → is_root folder ≡ false → 0 < length folder → IsTrue (is_part name)
    → parent_of (joined folder name) ≡ folder
parent_of_part folder name plain some part =
    ap (λ v. parent_of (cond v folder (folder ++ 47 ∷ []) ++ name)) plain
    ∙ ap parent_of (append_assoc folder (47 ∷ []) name)
    ∙ ap (λ front. cond (bytes_eq front []) (47 ∷ []) front) (front_of-more folder name (part_no_slash name part))
    ∙ filled folder some
  where
    filled : (f : List ℕ) → 0 < length f → cond (bytes_eq f []) (47 ∷ []) f ≡ f
    filled [] h = absurd (omega arith)
    filled (c ∷ f) h = refl

folder_there : (files : Tree) (store name : List ℕ) → IsTree files → IsTrue (is_part name)
    → is_some (item_at files (joined (images_folder store) name)) ≡ true
    → is_folder (item_at files (images_folder store)) ≡ true
folder_there files store name tree part there =
    let key : item_at files (joined (images_folder store) name)
    ≡ get files (joined (images_folder store) name) = ap
    (λ v. cond v (Some Folder) (get files (joined (images_folder store) name)))
    (child_not_root (images_folder store) name (part_form name part).0) in
    let longer : length store < length (images_folder store) = longer_child store (codes "images") (omega arith) in
    sym (ap (λ p. is_folder (item_at files p)) (parent_of_part (images_folder store) name
    (child_not_root store (codes "images") (omega arith)) (omega arith) part))
    ∙ (tree.standing (joined (images_folder store) name) (ap is_some (sym key) ∙ there)).1.1

-- ---- a document that can be read is a file

abbrev pub read_of : List ℕ → Option Item → Result (Option ImageDoc) ReadFault
read_of path found = and_then (if is_file_or_absent found then limited_by limit.Document
    (whole_of 1048576 found) else Err (read.File path)) (found_of image_table_in path)

none_read : (image : ImageDoc) → ◌≡◌ {A = Result (Option ImageDoc) ReadFault} (Ok None) (Ok (Some image)) → ⊥
none_read image h = cc

not_read : (fault : ReadFault) (image : ImageDoc) → Err fault ≡ Ok (Some image) → ⊥
not_read fault image h = cc

file_read : (path : List ℕ) (found : Option Item) (image : ImageDoc) → read_of path found ≡ Ok (Some image)
    → is_file found ≡ true
file_read path None image h = absurd (none_read image h)
file_read path (Some (File exec bytes)) image h = refl
file_read path (Some Folder) image h = absurd (not_read (read.File path) image h)
file_read path (Some (Link target)) image h = absurd (not_read (read.File path) image h)
file_read path (Some Odd) image h = absurd (not_read (read.File path) image h)

there_of : (found : Option Item) → is_file found ≡ true → is_some found ≡ true
there_of None h = absurd (cc)
there_of (Some item) h = refl

one_image : (one other : ImageDoc) → ◌≡◌ {A = Result ImageDoc ImageFault} (Ok one) (Ok other) → one ≡ other
one_image one other e = cc

read_image : (name : List ℕ) (image : ImageDoc) (found : Result (Option ImageDoc) ReadFault)
    → and_then (with_fault image_files.of_read_fault found) (named name) ≡ Ok image → found ≡ Ok (Some image)
read_image name image (Ok None) h = absurd (cc)
read_image name image (Ok (Some read)) h = ap (λ i. Ok (Some i)) (one_image read image h)
read_image name image (Err fault) h = absurd (cc)

-- ---- what a folder's documents name includes what each of them names

module _ {A : Type 0} (form : TableForm A) (digests : A → List (List ℕ)) (folder : List ℕ) (files : Tree) where
  found_more : (base named : List (List ℕ)) (at : List ℕ) (there : Bool) → Includes named base
      → IfOk (found_in form digests at files named there) (λ next. Includes next base)
  found_more base named at true h = then_holds (λ (more : List (List ℕ)). Unit {0}) (λ next. Includes next base)
      (names_of_document form digests at files) (λ more. Ok (named ++ more))
      (whatever (names_of_document form digests at files))
      (λ more any digest k. in_front named more digest (h digest k))
  found_more base named at false h = h

  name_more : (base : List (List ℕ)) (name : List ℕ) (named : List (List ℕ)) → Includes named base
      → IfOk (name_in form digests folder files name named) (λ next. Includes next base)
  name_more base name named h = by (is_document_name name)
    where
      by : (b : Bool) → IfOk (if b then found_in form digests (joined folder name) files named
          (is_file (item_at files (joined folder name))) else Ok named) (λ next. Includes next base)
      by true = found_more base named (joined folder name) (is_file (item_at files (joined folder name))) h
      by false = h

  names_more : (base : List (List ℕ)) (names named : List (List ℕ)) → Includes named base
      → IfOk (each_in (name_in form digests folder files) names named) (λ last. Includes last base)
  names_more base names named h = each_holds (λ next. Includes next base) (name_in form digests folder files)
      (name_more base) names named h

  folder_more : (base named : List (List ℕ)) → Includes named base
      → IfOk (folder_in form digests folder files named) (λ last. Includes last base)
  folder_more base named h = then_holds (λ (names : List (List ℕ)). Unit {0}) (λ last. Includes last base)
      (listed_in folder files) (λ names. each_in (name_in form digests folder files) names named)
      (whatever (listed_in folder files)) (λ names any. names_more base names named h)

  module _ (name : List ℕ) (these : List (List ℕ)) (is_name : is_document_name name ≡ true)
      (is_there : is_file (item_at files (joined folder name)) ≡ true)
      (are : names_of_document form digests (joined folder name) files ≡ Ok these) where
    name_found : (named : List (List ℕ)) → IfOk (name_in form digests folder files name named)
        (λ next. Includes next these)
    name_found named =
        subst (λ (r : Result (List (List ℕ)) PruneFault). IfOk r (λ next. Includes next these))
        (sym (ap (λ b. if b then found_in form digests (joined folder name) files named
        (is_file (item_at files (joined folder name))) else Ok named) is_name
        ∙ ap (found_in form digests (joined folder name) files named) is_there
        ∙ ap (λ (r : Result (List (List ℕ)) PruneFault). and_then r (λ more. Ok (named ++ more))) are))
        (behind named these)

    names_found : (names named : List (List ℕ)) → list_any (bytes_eq name) names ≡ true
        → IfOk (each_in (name_in form digests folder files) names named) (λ last. Includes last these)
    names_found [] named h = absurd (cc)
    names_found (first ∷ names) named h = by (λ next. names_found names next) (bytes_eq name first) refl h
      where
        by : ((next : List (List ℕ)) → list_any (bytes_eq name) names ≡ true
            → IfOk (each_in (name_in form digests folder files) names next) (λ last. Includes last these))
            → (v : Bool) → bytes_eq name first ≡ v
            → (v || list_any (bytes_eq name) names) ≡ true
            → IfOk (and_then (name_in form digests folder files first named)
            (each_in (name_in form digests folder files) names)) (λ last. Includes last these)
        by rest true is there =
            then_holds (λ next. Includes next these) (λ last. Includes last these)
            (name_in form digests folder files first named)
            (each_in (name_in form digests folder files) names)
            (subst (λ n. IfOk (name_in form digests folder files n named) (λ next. Includes next these))
            ((bytes_eq-Decides name first).0 is) (name_found named)) (names_more these names)
        by rest false is there =
            then_holds (λ (next : List (List ℕ)). Unit {0}) (λ last. Includes last these)
            (name_in form digests folder files first named)
            (each_in (name_in form digests folder files) names)
            (whatever (name_in form digests folder files first named)) (λ next any. rest next there)

    folder_found : (names named : List (List ℕ)) → listed_in folder files ≡ Ok names
        → list_any (bytes_eq name) names ≡ true → IfOk (folder_in form digests folder files named)
        (λ last. Includes last these)
    folder_found names named listed there =
        subst (λ (r : Result (List (List ℕ)) PruneFault). IfOk
        (and_then r (λ all. each_in (name_in form digests folder files) all named))
        (λ last. Includes last these)) (sym listed) (names_found names named there)

-- ---- so does what the documents of a store name

listed_folder : (folder : List ℕ) (files : Tree) → is_folder (item_at files folder) ≡ true
    → listed_in folder files ≡ Ok (names_in files folder)
listed_folder folder files h =
    ap (listed_where folder files) (there (item_at files folder) h)
    ∙ ap (λ b. with_fault of_read_fault (if b then Ok (names_in files folder) else Err (read.File folder))) h
  where
    there : (found : Option Item) → is_folder found ≡ true → is_some found ≡ true
    there None e = absurd (cc)
    there (Some item) e = refl

document_named : (name : List ℕ) → IsTrue (is_image_name name) → is_document_name (document_name name) ≡ true
document_named name is =
    let size : length (document_name name) ≡ length name + 5 = document_length name in
    let less : length (document_name name) - 5 ≡ length name = omega (arith, size) in
    let front : name ≡ take (length (document_name name) - 5) (document_name name) = sym
    (ap (λ n. take n (document_name name)) less ∙ take-append_seam name (codes ".toml")) in
    sym (ends_so (document_name name) name 5 refl (ap (λ f. f ++ codes ".toml") front) front) ∙ is

pub document_part : (name : List ℕ) → IsTrue (is_image_name name) → IsTrue (is_part (document_name name))
document_part name is = let fit = image_name_fits name is in let short = fit.short
    in document_name_is_part name fit.part (omega (arith, short))

-- what its document names
pub image_names_of : (store name : List ℕ) (files : Tree) (image : ImageDoc)
    → image_at store name files ≡ Ok image → names_of_document image_table_in digests_of_image
    (image_path store name) files ≡ Ok (digests_of_image image)
image_names_of store name files image h =
    ap (λ (r : Result (Option ImageDoc) ReadFault). and_then (with_fault of_read_fault r)
    (named_by digests_of_image (image_path store name)))
    (read_image name image (document_in image_table_in (image_path store name) files) h)

-- what an image that can be read names is among what the documents name
pub image_named : (store name : List ℕ) (files : Tree) (image : ImageDoc) → IsTree files
    → IsTrue (is_image_name name) → image_at store name files ≡ Ok image
    → IfOk (named_in store files) (λ named. Includes named (digests_of_image image))
image_named store name files image tree is h =
    let found : document_in image_table_in (image_path store name) files
    ≡ Ok (Some image) = read_image name image (document_in image_table_in (image_path store name) files) h in
    let file : is_file (item_at files (image_path store name))
    ≡ true = file_read (image_path store name) (item_at files (image_path store name)) image found in
    let there : is_some (item_at files (image_path store name))
    ≡ true = there_of (item_at files (image_path store name)) file in
    let part = document_part name is in
    let names = image_names_of store name files image h in
    then_holds (λ named. Includes named (digests_of_image image))
    (λ named. Includes named (digests_of_image image))
    (folder_in image_table_in digests_of_image (images_folder store) files [])
    (λ named. folder_in table_in digests_of_run (runs_folder store) files named)
    (folder_found image_table_in digests_of_image (images_folder store) files (document_name name)
    (digests_of_image image) (document_named name is) file names (names_in files (images_folder store)) []
    (listed_folder (images_folder store) files (folder_there files store (document_name name) tree part there))
    (name_listed files (images_folder store) (document_name name) part there))
    (folder_more table_in digests_of_run (runs_folder store) files (digests_of_image image))
