-- Each image is as before, and so are its trees, whatever a prune answers.
use Rattle.std.proofs.Common.{◌≡◌, ◌∙◌, refl, sym, ap, subst, arith, ℕ, ◌<◌, Bool, true, false, not, cond, List, []}
use Rattle.std.proofs.Common.{◌∷◌, ◌++◌, codes, length, map, Option, Some, None, Result, Ok, Err}
use Rattle.std.specs.Prelude.{◌↔◌, IfOk, IfSome, IsTrue, fold}
use Rattle.std.specs.List.{AllByRecursion, list_any}
use Rattle.std.specs.Option.{option_map}
use Rattle.std.specs.Str.{bytes_eq}
use Rattle.std.proofs.lemmas.Bool.{or_from, or_left, or_right}
use Rattle.cnb_toml.specs.Names.{is_image_name}
use Rattle.cnb_world.specs.Tree.{IsTree, Tree, is_within, item_at}
use Rattle.cnb_world.specs.declared.world.Item.{Item}
use Rattle.cnb_world.proofs.Trees.{bytes_eq-same}
use Rattle.hex.specs.Hex.{encode_lower}
use Rattle.image_docs.specs.declared.image.ImageDoc.{ImageDoc}
use Rattle.image_files.specs.Faults as image_files
use Rattle.image_files.specs.Images.{image_at, named}
use Rattle.image_files.specs.Paths.{document_name, image_path, images_folder}
use Rattle.image_files.specs.declared.fault.ImageFault.{ImageFault}
use Rattle.steps.specs.Keeping.{standing}
use Rattle.steps.specs.Results.{and_then, with_fault}
use Rattle.tree_store.specs.Store.{Gets, tree_path}
use Rattle.tree_store.specs.Writing.{trees_of}
use Rattle.tree_store.proofs.Apart.{apart_child, siblings_apart}
use Rattle.tree_store.proofs.Places.{longer_child, part_form}
use Rattle.store_prune.specs.Digests.{is_among, unnamed, with_digest}
use Rattle.store_prune.specs.Named.{digests_of_image}
use Rattle.store_prune.specs.Pruning.{KeepsImage, KeepsImages, KeepsNamed, KeepsWhere, StandNamed, named_in, pruned_in}
use Rattle.store_prune.specs.Pruning.{trees_in}
use Rattle.store_prune.specs.Surveys.{pruned_of}
use Rattle.store_prune.specs.Verifies.{trees_of_rows}
use Rattle.store_prune.specs.Verifying.{HasTreeFile, IsWhole}
use Rattle.store_prune.specs.declared.fault.PruneFault.{PruneFault}
use Rattle.store_prune.specs.declared.surveying.Pruned.{Pruned}
use Rattle.store_prune.proofs.ImageNamed.{Includes, document_part, image_named, in_front, read_of}
use Rattle.store_prune.proofs.NamedLaws.{IsName, path_stands, stand_where}

-- ---- no file of a tree is an image's document, or above it

module _ (store name : List ℕ) (is : IsTrue (is_image_name name)) where
  tree_apart : (digest : List ℕ) → IsName digest → is_within (tree_path store digest) (image_path store name) ≡ false
  tree_apart digest part =
      let document = part_form (document_name name) (document_part name is) in
      let digits = part_form (encode_lower digest) part in
      let folders = siblings_apart store (codes "trees") (codes "images") refl refl
      (λ e. let five : length (codes "trees") ≡ 6 = ap length e in absurd (omega arith)) in
      let long : length store < length (trees_of store) = longer_child store (codes "trees") (omega arith) in
      let longer : length (images_folder store) < length (image_path store name) = longer_child
      (images_folder store) (document_name name) document.0 in
      let apart = apart_child (trees_of store) (images_folder store) (document_name name)
      (omega arith) document.0 document.1 folders in
      (apart_child (image_path store name) (trees_of store) (encode_lower digest) (omega arith) digits.0 digits.1
      (record { outside = apart.beside; beside = apart.outside })).outside

  document_free : (named trees : List (List ℕ)) → AllByRecursion IsName trees
      → list_any (λ removed. is_within removed (image_path store name))
      (map (tree_path store) (unnamed named trees)) ≡ false
  document_free named [] names = refl
  document_free named (one ∷ trees) names = by (document_free named trees names.1) (is_among named one)
    where
      by : list_any (λ removed. is_within removed (image_path store name))
          (map (tree_path store) (unnamed named trees)) ≡ false → (b : Bool)
          → list_any (λ removed. is_within removed (image_path store name))
          (map (tree_path store) (cond (not b) (one ∷ unnamed named trees) (unnamed named trees))) ≡ false
      by rest true = rest
      by rest false = or_from _ _ (tree_apart one names.0) rest

-- ---- the trees of an image's rows are among those that it names

pub one_among : (digest : List ℕ) (rest : List (List ℕ)) → is_among (digest ∷ rest) digest ≡ true
one_among digest rest = or_left (bytes_eq (encode_lower digest) (encode_lower digest)) (is_among rest digest)
    (bytes_eq-same (encode_lower digest))

all_so : (P : List ℕ → Type 0) (digests : List (List ℕ))
    → ((digest : List ℕ) → is_among digests digest ≡ true → P digest) → AllByRecursion P digests
all_so P [] f = tt
all_so P (first ∷ rest) f = (
  f first (one_among first rest),
  all_so P rest
      (λ digest h. f digest (or_right (bytes_eq (encode_lower first) (encode_lower digest))
      (is_among rest digest) h)),
)

one_more : (P : List ℕ → Type 0) (xs : List (List ℕ)) (x : List ℕ) → AllByRecursion P xs → P x
    → AllByRecursion P (xs ++ x ∷ [])
one_more P [] x h k = (k, tt)
one_more P (y ∷ ys) x h k = (h.0, one_more P ys x h.1 k)

with_all : (P : List ℕ → Type 0) (digests : List (List ℕ)) (digest : List ℕ) → AllByRecursion P digests → P digest
    → AllByRecursion P (with_digest digests digest)
with_all P digests digest h k = by (is_among digests digest)
  where
    by : (b : Bool) → AllByRecursion P (cond b digests (digests ++ digest ∷ []))
    by true = h
    by false = one_more P digests digest h k

pub fold_all : (P : List ℕ → Type 0) (digests some : List (List ℕ)) → AllByRecursion P some
    → AllByRecursion P digests → AllByRecursion P (fold with_digest some digests)
fold_all P [] some h k = h
fold_all P (digest ∷ digests) some h k = fold_all P digests (with_digest some digest) (with_all P some digest h k.0) k.1

pub rows_named : (P : List ℕ → Type 0) (image : ImageDoc)
    → ((digest : List ℕ) → is_among (digests_of_image image) digest ≡ true → P digest)
    → AllByRecursion P (trees_of_rows image)
rows_named P image f =
    fold_all P (map (λ row. row.digest) image.rows) [] tt
    (all_so P (map (λ row. row.digest) image.rows)
    (λ digest h. f digest (in_front (map (λ row. row.digest) image.rows)
    (map (λ row. row.digest) image.layers) digest h)))

-- ---- an image is whole where it was

zip_all : (P Q R : List ℕ → Type 0) (digests : List (List ℕ))
    → ((digest : List ℕ) → P digest → Q digest → R digest) → AllByRecursion P digests → AllByRecursion Q digests
    → AllByRecursion R digests
zip_all P Q R [] f h k = tt
zip_all P Q R (digest ∷ digests) f h k = (f digest h.0 k.0, zip_all P Q R digests f h.1 k.1)

one_item : (one other : Option Item) → Some one ≡ Some other → one ≡ other
one_item one other e = cc

one_reading : (one other : Result ImageDoc ImageFault) → Some one ≡ Some other → one ≡ other
one_reading one other e = cc

tree_again : (store digest : List ℕ) (a b : Tree) → item_at b (tree_path store digest)
    ≡ item_at a (tree_path store digest) → HasTreeFile store a digest → HasTreeFile store b digest
tree_again store digest a b same has = record
    { tree = has.tree; gets = subst (λ found. Gets digest found (Ok has.tree)) (sym same) has.gets }

whole_again : (store name : List ℕ) (a b : Tree) (count : ℕ) → image_at store name b ≡ image_at store name a
    → ((image : ImageDoc) → image_at store name a ≡ Ok image
    → AllByRecursion (λ digest. item_at b (tree_path store digest) ≡ item_at a (tree_path store digest))
    (trees_of_rows image)) → IsWhole store name a count → IsWhole store name b count
whole_again store name a b count same stand whole = record {
  image = whole.image;
  read = same ∙ whole.read;
  trees = zip_all (λ digest. item_at b (tree_path store digest) ≡ item_at a (tree_path store digest))
      (HasTreeFile store a) (HasTreeFile store b) (trees_of_rows whole.image)
      (λ digest e has. tree_again store digest a b e has) (stand whole.image whole.read) whole.trees;
  counted = whole.counted;
}

-- ---- an image

-- what the image's document reads as, by what stands there
abbrev image_of : List ℕ → List ℕ → Option Item → Result ImageDoc ImageFault
image_of store name found = and_then (with_fault image_files.of_read_fault
    (read_of (image_path store name) found)) (named name)

document_as : (store name : List ℕ) (old : Tree) (new : Option Tree)
    → standing new (image_path store name) ≡ Some (item_at old (image_path store name))
    → option_map (image_at store name) new ≡ Some (image_at store name old)
document_as store name old None e = absurd (cc)
document_as store name old (Some new) e = ap (λ found. Some (image_of store name found))
    (one_item (item_at new (image_path store name)) (item_at old (image_path store name)) e)

if_ok : (found : Result ImageDoc ImageFault) (P : ImageDoc → Type 0)
    → ((image : ImageDoc) → found ≡ Ok image → P image) → IfOk found P
if_ok (Ok image) P f = f image refl
if_ok (Err fault) P f = tt

module _ (store name : List ℕ) (old : Tree) where
  abbrev Trees : Option Tree → Type 0
  Trees new = (image : ImageDoc) → image_at store name old ≡ Ok image
      → StandNamed store (digests_of_image image) (Some old) new

  whole_where : (new : Option Tree) → option_map (image_at store name) new ≡ Some (image_at store name old)
      → Trees new → (count : ℕ) → IfSome new (λ files. IsWhole store name files count) ↔ IsWhole store name old
      count
  whole_where None document trees count = absurd (cc)
  whole_where (Some new) document trees count =
      let same : image_at store name new ≡ image_at store name old = one_reading (image_at store name new)
      (image_at store name old) document in
      let stand : (image : ImageDoc) → image_at store name old ≡ Ok image
      → AllByRecursion (λ digest. item_at new (tree_path store digest) ≡ item_at old (tree_path store digest))
      (trees_of_rows image)
      = λ image read. rows_named (λ digest. item_at new (tree_path store digest)
      ≡ item_at old (tree_path store digest)) image
      (λ digest among. one_item _ _ (trees image read digest among)) in (
        λ whole. whole_again store name new old count (sym same)
            (λ image read. zip_all (λ digest. item_at new (tree_path store digest)
            ≡ item_at old (tree_path store digest)) (λ digest. item_at new (tree_path store digest)
            ≡ item_at old (tree_path store digest)) (λ digest. item_at old (tree_path store digest)
            ≡ item_at new (tree_path store digest)) (trees_of_rows image) (λ digest e k. sym e)
            (stand image (sym same ∙ read)) (stand image (sym same ∙ read))) whole,
        λ whole. whole_again store name old new count same stand whole,
      )

  kept_by : (new : Option Tree) → standing new (image_path store name)
      ≡ Some (item_at old (image_path store name)) → Trees new → KeepsImage store name old new
  kept_by new stands trees =
      let document : option_map (image_at store name) new ≡ Some
      (image_at store name old) = document_as store name old new stands in
      record {
        document = document;
        trees = if_ok (image_at store name old)
            (λ image. StandNamed store (digests_of_image image) (Some old) new) trees;
        whole = whole_where new
            document trees;
      }

  all_included : (named : List (List ℕ)) (image : ImageDoc) → named_in store old ≡ Ok named
      → IfOk (named_in store old) (λ all. Includes all (digests_of_image image))
      → Includes named (digests_of_image image)
  all_included named image is h = subst (λ (r : Result (List (List ℕ)) PruneFault). IfOk r
      (λ all. Includes all (digests_of_image image))) is h

  image_kept : (new : Option Tree) → IsTree old → IsTrue (is_image_name name)
      → KeepsWhere store (pruned_in store old) (Some old) new → KeepsImage store name old new
  image_kept new tree is kept = by (named_in store old) refl
    where
      pruned : List (List ℕ) → Result Pruned PruneFault
      pruned found = and_then (trees_in store old) (λ trees. Ok (pruned_of found trees))

      by : (all : Result (List (List ℕ)) PruneFault) → named_in store old ≡ all → KeepsImage store name old new
      by (Ok all) e =
          kept_by new (path_stands store old all (Some old) new (image_path store name) e kept
          (document_free store name is all))
          (λ image read digest among. stand_where store old all (Some old) new e kept digest
          (all_included all image e (image_named store name old image tree is read) digest among))
      by (Err fault) e =
          let same : new ≡ Some old = subst (λ r. KeepsWhere store r (Some old) new)
          (ap (λ r. and_then r pruned) e) kept in
          kept_by new (ap (λ t. standing t (image_path store name)) same)
          (λ image read digest among. ap (λ t. standing t (tree_path store digest)) same)

-- each image is as before
pub images_kept : (store : List ℕ) (old new : Option Tree) → IfSome old IsTree → KeepsNamed store old new
    → KeepsImages store old new
images_kept store None new tree kept = tt
images_kept store (Some old) new tree kept = λ name is. image_kept store name old new tree is kept
