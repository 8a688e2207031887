-- The store has the trees of an image whose document is saved.
use Rattle.std.proofs.Common.{◌≡◌, ◌∙◌, refl, sym, ap, subst, arith, ℕ, ◌≤◌, ◌<◌, Bool, true, false, cond, not, List}
use Rattle.std.proofs.Common.{[], ◌∷◌, codes, length, map, Option, Some, Result, Ok, Err, inl, inr}
use Rattle.std.specs.Prelude.{if◌then◌else◌, nat_lt}
use Rattle.std.specs.List.{AllByRecursion}
use Rattle.std.specs.Option.{option_map}
use Rattle.std.specs.FinMap.{get}
use Rattle.std.proofs.lemmas.Bool.{and_from, ltb-true}
use Rattle.cnb_create.specs.Apart.{are_apart}
use Rattle.cnb_create.specs.Creates.{export_frame}
use Rattle.cnb_create.proofs.ApartLemmas.{free_document, inside_joined}
use Rattle.cnb_export.specs.Command.{exports_command, exports_given, finishes_export}
use Rattle.cnb_export.specs.Exports.{exports}
use Rattle.cnb_export.specs.Given.{frame_of, reads_given, reads_group, reads_needed, refusal_cause}
use Rattle.cnb_export.specs.declared.refusal.ExportRefusal.{ExportRefusal}
use Rattle.cnb_export.specs.declared.refusal.ExportRefusal.TheVariants.{Fault}
use Rattle.cnb_export.specs.declared.exported.Exported.{Exported}
use Rattle.cnb_layers.specs.Refusals.{cause_of}
use Rattle.cnb_toml.specs.declared.fault.DocFault.{DocFault}
use Rattle.cnb_words.specs.declared.export.ExportWords.{ExportWords}
use Rattle.cnb_world.specs.Tree.{Tree, bytes_of, is_file_or_absent, is_root, item_at}
use Rattle.cnb_world.specs.Whole.{whole_of, written}
use Rattle.cnb_world.specs.declared.limits.LimitKind.TheVariants.{Document as DocumentLimit}
use Rattle.cnb_world.specs.declared.whole.Whole.TheVariants as whole
use Rattle.cnb_world.specs.declared.world.Item.{Item}
use Rattle.cnb_world.specs.declared.world.Item.TheVariants as item
use Rattle.cnb_world.proofs.Trees.{get-insert_same}
use Rattle.doc_files.specs.Reading.{document_at, limited_by, read_at}
use Rattle.doc_files.specs.declared.fault.ReadFault.{ReadFault}
use Rattle.doc_files.specs.declared.fault.ReadFault.TheVariants.{File}
use Rattle.hex.specs.Hex.{encode_lower}
use Rattle.image_docs.specs.Analyzed.{analyzed_in}
use Rattle.image_docs.specs.DigestText.{is_digest}
use Rattle.image_docs.specs.Image.{image_in, image_table_in}
use Rattle.image_docs.specs.Row.{is_run}
use Rattle.image_docs.specs.declared.image.ImageDoc.{ImageDoc}
use Rattle.image_docs.specs.declared.row.Row.{Row}
use Rattle.image_files.specs.Documents.{found_of, some_of}
use Rattle.image_files.specs.Faults.{of_read_fault}
use Rattle.image_files.specs.Images.{image_at, named, writes_readable_image}
use Rattle.image_files.specs.Paths.{document_name, image_path, images_folder}
use Rattle.image_files.proofs.PathLemmas.{document_length}
use Rattle.run_docs.specs.Group.{group_in}
use Rattle.shelf_set.specs.Caches.{WorldAndCaches, in_world}
use Rattle.steps.specs.Causes.{WhereDecided}
use Rattle.steps.specs.Keeping.{is_free, touched}
use Rattle.steps.specs.Outside.{Seen}
use Rattle.steps.specs.Results.{and_then, with_fault}
use Rattle.steps.specs.Steps.{◌>>=◌, Writes, gives, map_err, writes, yields}
use Rattle.steps.proofs.KeepingLaws.{written_free}
use Rattle.store_prune.specs.Verifies.{trees_of_rows}
use Rattle.store_prune.specs.Verifying.{HasTreeFile, IsWhole}
use Rattle.store_prune.proofs.ImageLaws.{fold_all}
use Rattle.tree_store.specs.Store.{tree_path}
use Rattle.tree_store.specs.Writing.{AreApart, trees_of}
use Rattle.tree_store.proofs.Apart.{apart_child, siblings_apart}
use Rattle.tree_store.proofs.Places.{child_not_root, longer_child, part_form}
use Rattle.unpack_laws.proofs.VerifiedLaws.{unpacked_so}
use Rattle.store_laws.specs.Saved.{CreatesSaved, ExportsSaved, HasRunRows, IsUsable, IsWithinLimit, PassesVerify}
use Rattle.store_laws.specs.Saved.{SavesImage}
use Rattle.store_laws.specs.Sound.{Grows, IsSound}
use Rattle.store_laws.specs.Stored.{AboveRun, HasRow, HoldsRows, StoresImage}
use Rattle.store_laws.proofs.DigestLemmas.{digits_part}
use Rattle.store_laws.proofs.DigestRows.{rows_typed}
use Rattle.store_laws.proofs.ImageStores.{exported_stored}
use Rattle.store_laws.proofs.PutSteps.{Reading, read_files, read_given, read_then, read_told, read_value}
use Rattle.store_laws.proofs.Putting.{file_kept, grows_on, sound_kept, tree_stays}

-- ---- an image's document lies apart from the trees' files

module _ (store name : List ℕ) where
  images_apart : AreApart (images_folder store) (trees_of store)
  images_apart = siblings_apart store (codes "images") (codes "trees") refl refl
      (λ same. let e : 6 ≡ 5 = ap length same in omega (arith, e))

  tree_apart : (digest : List ℕ) → is_digest digest ≡ true → AreApart (images_folder store) (tree_path store digest)
  tree_apart digest is =
      let form = part_form (encode_lower digest) (digits_part digest is) in
      apart_child (images_folder store) (trees_of store) (encode_lower digest)
      (let long : length store < length (images_folder store) = longer_child store (codes "images") (omega arith)
      in omega arith) form.0 form.1 images_apart

  are_so : (digest : List ℕ) → is_digest digest ≡ true
      → are_apart (images_folder store) (tree_path store digest) ≡ true
  are_so digest is = let apart = tree_apart digest is in and_from _ _ (ap not apart.beside) (ap not apart.outside)

  images_no_root : is_root (images_folder store) ≡ false
  images_no_root = child_not_root store (codes "images") (omega arith)

  free : (digest : List ℕ) → is_digest digest ≡ true
      → is_free (touched (image_path store name)) (tree_path store digest) ≡ true
  free digest is = free_document (images_folder store) (tree_path store digest) (are_so digest is)
      (image_path store name) (inside_joined (images_folder store) (document_name name) images_no_root)

  module _ (bytes : List ℕ) (files : Tree) where
    abbrev saved : Tree
    saved = written (image_path store name) bytes files

    saved_stays : (digest : List ℕ) → is_digest digest ≡ true
        → item_at saved (tree_path store digest) ≡ item_at files (tree_path store digest)
    saved_stays digest is = written_free files (image_path store name) (tree_path store digest) bytes (free digest is)

    saved_grows : Grows store files saved
    saved_grows = record {
      keeps = λ digest is there. saved_stays digest is;
      adds = λ digest is there. inl (saved_stays digest is);
    }

    -- the document stands
    saved_at : item_at saved (image_path store name) ≡ Some (item.File false bytes)
    saved_at = ap (λ v. cond v (Some item.Folder) (get saved (image_path store name)))
        (child_not_root (images_folder store) (document_name name) (omega (arith, document_length name)))
        ∙ get-insert_same _ (image_path store name) (item.File false bytes)

-- ---- what is read of it

short_read : (files : Tree) (path bytes : List ℕ) → item_at files path ≡ Some (item.File false bytes)
    → length bytes ≤ 1048576 → document_at files path ≡ Ok (Some bytes)
short_read files path bytes at short =
    ap (λ found. document_found found) at ∙ by (nat_lt 1048576 (length bytes)) refl
  where
    document_found : Option Item → Result (Option (List ℕ)) ReadFault
    document_found found = if is_file_or_absent found then limited_by DocumentLimit (whole_of 1048576 found) else Err
        (File path)

    by : (v : Bool) → nat_lt 1048576 (length bytes) ≡ v
        → limited_by DocumentLimit (cond v (whole.Large (length bytes)) (whole.Bytes bytes)) ≡ Ok (Some bytes)
    by true e = absurd (let less : 1048576 < length bytes = ltb-true 1048576 (length bytes) e in omega arith)
    by false e = refl

image_read : (store name bytes : List ℕ) (files : Tree) (image : ImageDoc)
    → item_at files (image_path store name) ≡ Some (item.File false bytes) → image_in bytes ≡ Ok image
    → length bytes ≤ 1048576 → image_at store name files ≡ Ok image
image_read store name bytes files image at is short =
    ap (λ (r : Result (Option (List ℕ)) ReadFault). and_then (with_fault of_read_fault
    (and_then r (found_of image_table_in (image_path store name)))) (named name))
    (short_read files (image_path store name) bytes at short)
    ∙ ap (λ (r : Result ImageDoc DocFault). and_then
    (with_fault of_read_fault (some_of (read_at (image_path store name) r)))
    (named name)) is

-- ---- the image is whole

digests_all : (P : List ℕ → Type 0) (rows : List Row) → AllByRecursion (λ row. P row.digest) rows
    → AllByRecursion P (map (λ row. row.digest) rows)
digests_all P [] all = tt
digests_all P (row ∷ rows) all = (all.0, digests_all P rows all.1)

-- each row has its tree: one of the run image had its file before
each_has : (store : List ℕ) (a b : Tree) (rows : List Row) → Grows store a b → IsSound store b
    → AllByRecursion (λ row. is_digest row.digest ≡ true) rows
    → AboveRun (λ row. HasTreeFile store b row.digest) rows → HasRunRows store a rows
    → AllByRecursion (λ row. HasTreeFile store b row.digest) rows
each_has store a b [] grows sound typed above runs = tt
each_has store a b (row ∷ rows) grows sound typed above runs =
    (by (is_run row) refl, each_has store a b rows grows sound typed.1 above.1 runs.1)
  where
    by : (v : Bool) → is_run row ≡ v → HasTreeFile store b row.digest
    by true e = sound.spells row.digest typed.0 (file_kept store a b grows row.digest typed.0 (runs.0 e))
    by false e = above.0 e

passes : (store name : List ℕ) (files : Tree) (count : ℕ) → IsWhole store name files count
    → PassesVerify store name files
passes store name files count whole (Ok found) h = tt
passes store name files count whole (Err fault) h = λ decided. subst
    (λ cause. WhereDecided cause ((n : ℕ) → IsWhole store name files n → ⊥)) decided h count whole

usable : (store name : List ℕ) (files : Tree) (count : ℕ) → IsWhole store name files count
    → IsUsable store name files count
usable store name files count whole = record {
  whole = whole;
  verifies = passes store name files count whole;
  unpacks = λ root path apart. unpacked_so store root path apart name files count whole;
}

-- ---- where the document is saved behind an export

holds_saved : (store : List ℕ) (a b c : Tree) (rows : List Row) → Grows store b c
    → ((digest : List ℕ) → is_digest digest ≡ true
    → item_at c (tree_path store digest) ≡ item_at b (tree_path store digest))
    → AllByRecursion (λ row. is_digest row.digest ≡ true) rows → HoldsRows store a b rows → HoldsRows store a c rows
holds_saved store a b c rows grows same typed holds = record {
  grows = grows_on store a b c holds.grows grows;
  above = all_rows rows typed holds.above;
  sound = λ sound. sound_kept store b c grows (holds.sound sound);
  trees = λ sound. all_trees rows typed (holds.trees sound);
}
  where
    tree_on : (row : Row) → is_digest row.digest ≡ true → HasTreeFile store b row.digest
        → HasTreeFile store c row.digest
    tree_on row is h = tree_stays store b c row.digest (same row.digest is) h

    row_on : (row : Row) → is_digest row.digest ≡ true → HasRow store a b row → HasRow store a c row
    row_on row is (inl tree) = inl (tree_on row is tree)
    row_on row is (inr taken) = inr (taken.0, taken.1, same row.digest is ∙ taken.2)

    all_rows : (rows : List Row) → AllByRecursion (λ row. is_digest row.digest ≡ true) rows
        → AboveRun (HasRow store a b) rows → AboveRun (HasRow store a c) rows
    all_rows [] typed all = tt
    all_rows (row ∷ rows) typed all =
        (λ other. row_on row typed.0 (all.0 other), all_rows rows typed.1 all.1)

    all_trees : (rows : List Row) → AllByRecursion (λ row. is_digest row.digest ≡ true) rows
        → AboveRun (λ row. HasTreeFile store b row.digest) rows
        → AboveRun (λ row. HasTreeFile store c row.digest) rows
    all_trees [] typed all = tt
    all_trees (row ∷ rows) typed all =
        (λ other. tree_on row typed.0 (all.0 other), all_trees rows typed.1 all.1)

pub image_saved : (store name : List ℕ) (exported : Exported) (files : Tree) (mid new : Seen)
    → StoresImage store files mid.files exported
    → Writes (image_path store name) (λ bytes. image_in bytes ≡ Ok exported.image) mid new
    → SavesImage store name files new.files
image_saved store name exported files mid new stored write =
    let image : ImageDoc = exported.image in
    let after : Tree = saved store name write.bytes stored.after in
    let at : item_at after (image_path store name) ≡ Some (item.File false write.bytes)
    = saved_at store name write.bytes stored.after in
    let reads : image_in (bytes_of (item_at after (image_path store name))) ≡ Ok image
    = ap (λ found. image_in (bytes_of found)) at ∙ write.says in
    let typed = rows_typed write.bytes image write.says in
    let holds : HoldsRows store files after image.rows = holds_saved store files stored.after after image.rows
    (saved_grows store name write.bytes stored.after) (saved_stays store name write.bytes stored.after) typed
    stored.holds in
    let whole : IsSound store files → HasRunRows store files image.rows → IsWithinLimit store name after
    → IsWhole store name after (length (trees_of_rows image)) = λ sound runs short. record {
      image = image;
      read = image_read store name write.bytes after image at write.says
          (subst (λ found. length (bytes_of found) ≤ 1048576) at short);
      trees = fold_all (HasTreeFile store after) (map (λ row. row.digest) image.rows) [] tt
          (digests_all (HasTreeFile store after) image.rows (each_has store files after image.rows holds.grows
          (holds.sound sound) typed (holds.trees sound) runs));
      counted = refl;
    } in
    record {
      after = after;
      told = write.files ∙ ap (option_map (written (image_path store name) write.bytes)) stored.told;
      image = image;
      reads = reads;
      holds = holds;
      usable = λ sound runs short. usable store name after (length (trees_of_rows image)) (whole sound runs short);
    }

-- ---- the commands

needed_reading : {A : Type 0} (form : List ℕ → Result A DocFault) (folder name : List ℕ)
    → Reading (reads_needed form folder name)
unfolding reads_needed
needed_reading form folder name = read_then _ _ (read_given cause_of _)
    (λ path. read_then _ _ (read_files cause_of _ _ _) (λ found. read_given cause_of _))

group_reading : (work : List ℕ) → Reading (reads_group work)
unfolding reads_group
group_reading work = read_then _ _ (read_told Fault _ (needed_reading group_in work (codes "group.toml")))
    (λ group. read_then _ _ (read_given refusal_cause _) (λ allowed. read_value ExportRefusal group))

given_reading : (words : ExportWords) → Reading (reads_given words)
unfolding reads_given
given_reading words = read_then _ _ (group_reading words.work)
    (λ group. read_then _ _ (read_told Fault _ (needed_reading analyzed_in words.work (codes "analyzed.toml")))
    (λ analyzed. read_given refusal_cause _))

pub exported_saved : ExportsSaved
unfolding exports_command exports_given finishes_export reads_given writes_readable_image writes in_world map_err gives
    yields ◌>>=◌
exported_saved words files texts old new text told (
  given,
  m1,
  (read, same1),
  (exported, m2, exporting, (line, m3, (s3, is3, c3), (done, m4, (write, same4), (is5, s5)))),
) =
    let told1 : m1.world.files ≡ Some files = given_reading words old.world m1.world given read ∙ told in
    let (group, n1, r1, (analyzed, n2, r2, (s2, made, c2))) = read in
    let given_is : record { frame = frame_of words; group = group; analyzed = analyzed } ≡ given = cc in
    let frame : frame_of words ≡ given.frame = ap (λ g. g.frame) given_is in
    let stored : StoresImage words.store files m2.world.files exported = exported_stored true
    (frame_of words) given.group given.analyzed files texts m1 m2 exported told1
    (subst (λ f. exports true f given.group given.analyzed m1 (Ok exported) m2) (sym frame) exporting) in
    subst (SavesImage words.store words.image files) (ap (λ (s : WorldAndCaches). s.world.files) (sym s5))
    (image_saved words.store words.image exported files m3.world m4.world
    (subst (λ (s : WorldAndCaches). StoresImage words.store files s.world.files exported) (sym s3) stored)
    write)

pub created_saved : CreatesSaved
created_saved words files texts env old new text made told =
    image_saved words.store words.image made.exported files made.exported_at.world new.world
    (exported_stored true (export_frame words) made.built.restoring.chosen.choice.group
    made.built.restoring.chosen.analyzed files texts made.built.built_at made.exported_at made.exported told
    made.export_steps) made.saved
