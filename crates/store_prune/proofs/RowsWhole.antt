-- Where an image is whole, the store has the tree of each of its rows, in a file whose name is the row's digits.
use Rattle.std.proofs.Common.{◌≡◌, ◌∙◌, refl, sym, ap, subst, ℕ, ◌||◌, Bool, true, false, cond, List, [], ◌∷◌, ◌++◌}
use Rattle.std.proofs.Common.{map, Some, Result, Ok}
use Rattle.std.specs.Prelude.{IfOk, fold}
use Rattle.std.specs.List.{AllByRecursion, list_all}
use Rattle.std.specs.Str.{bytes_eq}
use Rattle.std.proofs.lemmas.Bool.{and_parts, or_left, or_right}
use Rattle.std.proofs.lemmas.List.Folds.{list_all-append}
use Rattle.std.proofs.lemmas.Slice.Eq.{bytes_eq-Decides}
use Rattle.cnb_world.specs.Tree.{Tree}
use Rattle.hex.specs.Hex.{encode_lower}
use Rattle.image_docs.specs.Image.{image_table_in}
use Rattle.image_docs.specs.declared.image.ImageDoc.{ImageDoc}
use Rattle.image_docs.specs.declared.row.Row.{Row}
use Rattle.image_files.specs.Images.{image_at}
use Rattle.image_files.specs.Paths.{image_path}
use Rattle.tree_canon.specs.Digest.{is_digest_text}
use Rattle.store_prune.specs.Digests.{is_among, tree_digest, with_digest}
use Rattle.store_prune.specs.Named.{digests_of_image}
use Rattle.store_prune.specs.Verifies.{trees_of_rows}
use Rattle.store_prune.specs.Verifying.{HasTreeFile, IsWhole}
use Rattle.store_prune.specs.declared.fault.PruneFault.{PruneFault}
use Rattle.store_prune.proofs.ImageLaws.{fold_all, one_among}
use Rattle.store_prune.proofs.ImageNamed.{Includes, behind, image_names_of, in_front}
use Rattle.store_prune.proofs.NamedDigests.{document_sound}
use Rattle.store_prune.proofs.ReadDigests.{image_digests, names_file, reads_back, same_digest, text_back, text_names}

-- a tree of an image that was read, and its file
pub record HasTree (store : List ℕ) (files : Tree) (digest : List ℕ) : Type 0 where
  pub file : HasTreeFile store files digest
  pub name : names_file digest ≡ true

-- ---- what holds of each digest of a text holds of those of an image's rows

rows_sound : (sound : List ℕ → Bool) → ((name digest : List ℕ) → is_digest_text name ≡ true
    → tree_digest name ≡ Some digest → sound digest ≡ true)
    → (store name : List ℕ) (files : Tree) (image : ImageDoc) → image_at store name files ≡ Ok image
    → list_all sound (map (λ row. row.digest) image.rows) ≡ true
rows_sound sound each store name files image h =
    let all : list_all sound (digests_of_image image) ≡ true =
    subst (λ (r : Result (List (List ℕ)) PruneFault). IfOk r (λ named. list_all sound named ≡ true))
    (image_names_of store name files image h) (document_sound sound image_table_in digests_of_image
    (image_digests sound each) (image_path store name) files)
    in
    (and_parts (list_all sound (map (λ row. row.digest) image.rows))
    (list_all sound (map (λ row. row.digest) image.layers))
    (sym (list_all-append sound (map (λ row. row.digest) image.rows) (map (λ row. row.digest) image.layers))
    ∙ all)).0

each_so : (sound : List ℕ → Bool) (digests : List (List ℕ)) → list_all sound digests ≡ true
    → AllByRecursion (λ digest. sound digest ≡ true) digests
each_so sound [] h = tt
each_so sound (digest ∷ digests) h =
    let parts = and_parts (sound digest) (list_all sound digests) h in
    (parts.0, each_so sound digests parts.1)

-- ---- each digest has one of the same digits among the distinct ones

more_with : (some : List (List ℕ)) (digest : List ℕ) → Includes (with_digest some digest) some
more_with some digest = by (is_among some digest)
  where
    by : (b : Bool) → Includes (cond b some (some ++ digest ∷ [])) some
    by true = λ other h. h
    by false = in_front some (digest ∷ [])

now_with : (some : List (List ℕ)) (digest : List ℕ) → is_among (with_digest some digest) digest ≡ true
now_with some digest = by (is_among some digest) refl
  where
    by : (b : Bool) → is_among some digest ≡ b → is_among (cond b some (some ++ digest ∷ [])) digest ≡ true
    by true e = e
    by false e = behind some (digest ∷ []) digest (one_among digest [])

fold_more : (digests some : List (List ℕ)) → Includes (fold with_digest some digests) some
fold_more [] some digest h = h
fold_more (first ∷ digests) some digest h = fold_more digests (with_digest some first) digest
    (more_with some first digest h)

same_among : (those : List (List ℕ)) (one other : List ℕ) → encode_lower one ≡ encode_lower other
    → is_among those one ≡ true → is_among those other ≡ true
same_among [] one other same h = h
same_among (first ∷ those) one other same h = by (bytes_eq (encode_lower first) (encode_lower one)) refl h
    (same_among those one other same)
  where
    by : (b : Bool) → bytes_eq (encode_lower first) (encode_lower one) ≡ b → (b || is_among those one) ≡ true
        → (is_among those one ≡ true → is_among those other ≡ true) → is_among (first ∷ those) other ≡ true
    by true e there rest = or_left (bytes_eq (encode_lower first) (encode_lower other)) (is_among those other)
        (ap (bytes_eq (encode_lower first)) (sym same) ∙ e)
    by false e there rest = or_right (bytes_eq (encode_lower first) (encode_lower other)) (is_among those other)
        (rest there)

fold_has : (digests some : List (List ℕ)) → Includes (fold with_digest some digests) digests
fold_has [] some digest h = absurd (cc)
fold_has (first ∷ digests) some digest h = by (bytes_eq (encode_lower first) (encode_lower digest)) refl h
    (fold_has digests (with_digest some first) digest)
  where
    by : (b : Bool) → bytes_eq (encode_lower first) (encode_lower digest) ≡ b
        → (b || is_among digests digest) ≡ true → (is_among digests digest ≡ true
        → is_among (fold with_digest (with_digest some first) digests) digest ≡ true)
        → is_among (fold with_digest (with_digest some first) digests) digest ≡ true
    by true e there rest = fold_more digests (with_digest some first) digest
        (same_among (with_digest some first) first digest
        ((bytes_eq-Decides (encode_lower first) (encode_lower digest)).0 e) (now_with some first))
    by false e there rest = rest there

-- ---- the tree of each row

pub record Found (P : List ℕ → Type 0) (digest : List ℕ) : Type 0 where
  pub other : List ℕ
  pub same : encode_lower other ≡ encode_lower digest
  pub holds : P other

found_of : (P : List ℕ → Type 0) (digests : List (List ℕ)) (digest : List ℕ) → AllByRecursion P digests
    → is_among digests digest ≡ true → Found P digest
found_of P [] digest all h = absurd (cc)
found_of P (first ∷ digests) digest all h = by (bytes_eq (encode_lower first) (encode_lower digest)) refl h
    (found_of P digests digest all.1)
  where
    by : (b : Bool) → bytes_eq (encode_lower first) (encode_lower digest) ≡ b
        → (b || is_among digests digest) ≡ true → (is_among digests digest ≡ true → Found P digest)
        → Found P digest
    by true e there rest = record {
      other = first;
      same =
          (bytes_eq-Decides (encode_lower first) (encode_lower digest)).0 e;
      holds = all.0;
    }
    by false e there rest = rest there

both_of : (P Q : List ℕ → Type 0) (digests : List (List ℕ)) → AllByRecursion P digests → AllByRecursion Q digests
    → AllByRecursion (λ digest. P digest × Q digest) digests
both_of P Q [] h k = tt
both_of P Q (digest ∷ digests) h k = ((h.0, k.0), both_of P Q digests h.1 k.1)

module _ (store name : List ℕ) (files : Tree) (count : ℕ) (whole : IsWhole store name files count) where
  abbrev row_digests : List (List ℕ)
  row_digests = map (λ row. row.digest) whole.image.rows

  backs : list_all reads_back row_digests ≡ true
  backs = rows_sound reads_back text_back store name files whole.image whole.read

  kept : AllByRecursion (λ digest. HasTreeFile store files digest × (reads_back digest ≡ true))
      (trees_of_rows whole.image)
  kept =
      both_of (HasTreeFile store files) (λ digest. reads_back digest ≡ true) (trees_of_rows whole.image) whole.trees
      (fold_all (λ digest. reads_back digest ≡ true) row_digests [] tt (each_so reads_back row_digests backs))

  tree_of : (digest : List ℕ) → reads_back digest ≡ true → is_among (trees_of_rows whole.image) digest ≡ true
      → HasTreeFile store files digest
  tree_of digest back among =
      let found = found_of (λ d. HasTreeFile store files d × (reads_back d ≡ true))
      (trees_of_rows whole.image) digest kept among in
      subst (HasTreeFile store files) (same_digest found.other digest found.holds.1 back found.same) found.holds.0

  each_has : (rows : List Row) → list_all reads_back (map (λ row. row.digest) rows) ≡ true
      → list_all names_file (map (λ row. row.digest) rows) ≡ true
      → Includes (trees_of_rows whole.image) (map (λ row. row.digest) rows)
      → AllByRecursion (λ row. HasTree store files row.digest) rows
  each_has [] back names among = tt
  each_has (row ∷ rows) back names among =
      let backed = and_parts (reads_back row.digest) (list_all reads_back (map (λ row. row.digest) rows)) back in
      let named = and_parts (names_file row.digest) (list_all names_file (map (λ row. row.digest) rows)) names in
      let others = map (λ row. row.digest) rows in (
        record { file = tree_of row.digest backed.0 (among row.digest (one_among row.digest others)); name = named.0 },
        each_has rows backed.1 named.1 (λ digest h. among digest
            (or_right (bytes_eq (encode_lower row.digest) (encode_lower digest)) (is_among others digest) h)),
      )

  pub rows_have : AllByRecursion (λ row. HasTree store files row.digest) whole.image.rows
  rows_have = each_has whole.image.rows backs (rows_sound names_file text_names store name files whole.image
      whole.read) (fold_has row_digests [])
