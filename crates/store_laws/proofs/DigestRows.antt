-- The digests of an image that was read have 32 bytes.
use Rattle.std.proofs.Common.{◌≡◌, ◌∙◌, refl, sym, ap, subst, arith, ℕ, zero, suc, ◌*◌, ◌==◌, true, List, cond, [], ◌∷◌}
use Rattle.std.proofs.Common.{length, map, Some, Result, Ok, Err}
use Rattle.std.specs.Prelude.{IfOk, nat_lt}
use Rattle.std.specs.List.{AllByRecursion, list_all}
use Rattle.std.specs.Result.{result_ok}
use Rattle.std.proofs.lemmas.Bool.{and_from, and_parts, eq-eqb, eqb-true, lt-ltb}
use Rattle.std.proofs.lemmas.List.Folds.{list_all-append}
use Rattle.cnb_toml.specs.declared.fault.DocFault.TheVariants.{Wrong}
use Rattle.cnb_world.specs.Tree.{Tree}
use Rattle.hex.specs.Hex.{IsBytes, decode_of}
use Rattle.hex.specs.declared.error.FromHexError.{FromHexError}
use Rattle.hex.proofs.HexLemmas.{decode_of-ok}
use Rattle.image_docs.specs.DigestText.{decoded, is_digest}
use Rattle.image_docs.specs.Image.{image_in, image_table_in}
use Rattle.image_docs.specs.declared.image.ImageDoc.{ImageDoc}
use Rattle.image_docs.specs.declared.layer_row.LayerRow.{LayerRow}
use Rattle.image_docs.specs.declared.row.Row.{Row}
use Rattle.image_docs.proofs.Answered.{Holds}
use Rattle.image_files.specs.Images.{image_at}
use Rattle.image_files.specs.Paths.{image_path}
use Rattle.store_prune.specs.Digests.{tree_digest}
use Rattle.store_prune.specs.Named.{digests_of_image}
use Rattle.store_prune.specs.declared.fault.PruneFault.{PruneFault}
use Rattle.store_prune.proofs.ImageNamed.{image_names_of}
use Rattle.store_prune.proofs.NamedDigests.{document_sound}
use Rattle.store_prune.proofs.ReadDigests.{image_digests}
use Rattle.tree_canon.specs.Digest.{is_digest_text, is_lower_digit}

-- ---- a text of 64 digits writes 32 bytes

bytes_fit : (xs : List ℕ) → IsBytes xs → list_all (λ byte. nat_lt byte 256) xs ≡ true
bytes_fit [] h = refl
bytes_fit (x ∷ xs) h = and_from (nat_lt x 256) (list_all (λ byte. nat_lt byte 256) xs) (lt-ltb x 256 (h zero))
    (bytes_fit xs (λ i. h (suc i)))

text_typed : (name digest : List ℕ) → is_digest_text name ≡ true → tree_digest name ≡ Some digest
    → is_digest digest ≡ true
text_typed name digest is h =
    let parts = and_parts (length name == 64) (list_all is_lower_digit name) is in
    let size : length name ≡ 64 = eqb-true (length name) 64 parts.0 in
    by size (decode_of name) refl (sym (ap (λ b. result_ok
    (cond b (decoded (decode_of name)) (Err (Wrong [])))) is) ∙ h)
  where
    by : length name ≡ 64 → (r : Result (List ℕ) FromHexError) → decode_of name ≡ r
        → result_ok (decoded r) ≡ Some digest → is_digest digest ≡ true
    by size (Err fault) e h = absurd (cc)
    by size (Ok bytes) e h =
        let same : bytes ≡ digest = cc in
        let read = decode_of-ok name bytes e in
        let twice : length name ≡ 2 * length bytes = read.2 in
        let long : length bytes ≡ 32 = omega arith in
        subst (λ d. is_digest d ≡ true) same (and_from (length bytes == 32)
        (list_all (λ byte. nat_lt byte 256) bytes) (eq-eqb (length bytes) 32 long) (bytes_fit bytes read.3))

-- ---- an image that was read

parts_typed : (image : ImageDoc) → list_all is_digest (digests_of_image image) ≡ true
    → (list_all is_digest (map (λ row. row.digest) image.rows) ≡ true)
    × (list_all is_digest (map (λ row. row.digest) image.layers) ≡ true)
parts_typed image all = and_parts (list_all is_digest (map (λ row. row.digest) image.rows))
    (list_all is_digest (map (λ row. row.digest) image.layers))
    (sym (list_all-append is_digest (map (λ row. row.digest) image.rows) (map (λ row. row.digest) image.layers))
    ∙ all)

each_layer : (rows : List LayerRow) → list_all is_digest (map (λ row. row.digest) rows) ≡ true
    → AllByRecursion (λ row. is_digest row.digest ≡ true) rows
each_layer [] h = tt
each_layer (row ∷ rows) h = let parts = and_parts (is_digest row.digest)
    (list_all is_digest (map (λ row. row.digest) rows)) h in (parts.0, each_layer rows parts.1)

each_row : (rows : List Row) → list_all is_digest (map (λ row. row.digest) rows) ≡ true
    → AllByRecursion (λ row. is_digest row.digest ≡ true) rows
each_row [] h = tt
each_row (row ∷ rows) h = let parts = and_parts (is_digest row.digest)
    (list_all is_digest (map (λ row. row.digest) rows)) h in (parts.0, each_row rows parts.1)

pub layers_typed : (store name : List ℕ) (files : Tree) (image : ImageDoc) → image_at store name files ≡ Ok image
    → AllByRecursion (λ row. is_digest row.digest ≡ true) image.layers
layers_typed store name files image h =
    each_layer image.layers (parts_typed image
    (subst (λ (r : Result (List (List ℕ)) PruneFault). IfOk r (λ named. list_all is_digest named ≡ true))
    (image_names_of store name files image h) (document_sound is_digest image_table_in digests_of_image
    (image_digests is_digest text_typed) (image_path store name) files))).1

-- the rows of an image that bytes read as
pub rows_typed : (bytes : List ℕ) (image : ImageDoc) → image_in bytes ≡ Ok image
    → AllByRecursion (λ row. is_digest row.digest ≡ true) image.rows
rows_typed bytes image h =
    each_row image.rows (parts_typed image (subst
    (Holds (λ (i : ImageDoc). list_all is_digest (digests_of_image i))) h (image_digests is_digest text_typed bytes))).0
