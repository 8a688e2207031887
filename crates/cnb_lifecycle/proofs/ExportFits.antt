-- Where the files fit an export, they fit it behind each tree that it puts, and no call on a path of the wrong kind is
-- made.
use Rattle.std.proofs.Common.{◌≡◌, ◌∙◌, refl, sym, ap, subst, arith, ℕ, zero, suc, ◌+◌, ◌<◌, ◌≤◌, nat_le, nat_lt, Bool}
use Rattle.std.proofs.Common.{true, false, cond, not, ◌&&◌, ◌||◌, List, [], ◌∷◌, ◌++◌, codes, length, length-append}
use Rattle.std.proofs.Common.{Option, Some, None, Result, Ok, Err, inl, inr, ◌⊎◌}
use Rattle.std.proofs.lemmas.Bool.{and_from, and_parts, false≢true, leb-true, lt-ltb, ltb-true}
use Rattle.std.proofs.lemmas.List.Folds.{list_all-append}
use Rattle.std.specs.FinMap.{get, insert, remove}
use Rattle.std.specs.Int.{byte_at, bytes_high_first, to_be_bytes, w32}
use Rattle.std.specs.List.{list_all, list_any}
use Rattle.std.specs.Option.{option_map}
use Rattle.std.specs.Prelude.{IsTrue, OnOk, is_some, slice_index}
use Rattle.std.specs.Str.{bytes_eq}
use Rattle.app_slices.specs.Slots.{Slices}
use Rattle.app_slices.specs.declared.item.Item.{Item as PatternItem}
use Rattle.cnb_create.proofs.ApartLemmas.{Below, Inside, folder_not_root, free_document, free_itself, inside_deeper}
use Rattle.cnb_create.proofs.ApartLemmas.{inside_joined, not_above, not_within, path_not_root, within_so}
use Rattle.cnb_create.proofs.PutLemmas.{free_of_trees}
use Rattle.cnb_create.specs.Apart.{are_apart}
use Rattle.cnb_env.specs.Files.{is_absent}
use Rattle.cnb_export.specs.Command.{exports_command, exports_given, finishes_export}
use Rattle.cnb_export.specs.Exports.{exports, gains}
use Rattle.cnb_export.specs.Given.{frame_of, reads_given, reads_group, reads_needed, refusal_cause}
use Rattle.cnb_export.specs.Images.{reads_layers, reads_previous}
use Rattle.cnb_export.specs.Trees.{cuts_app, puts_app, puts_links, puts_part, puts_parts, puts_process, puts_trees}
use Rattle.cnb_export.specs.Trees.{puts_whole}
use Rattle.cnb_export.specs.declared.exported.Exported.{Exported}
use Rattle.cnb_export.specs.declared.refusal.ExportRefusal.TheVariants.{Fault}
use Rattle.cnb_layers.specs.Buildpack.{exports_buildpack, exports_documents, exports_layers, exports_store_document}
use Rattle.cnb_layers.specs.Buildpack.{one_default, reads_launch, reads_store_document}
use Rattle.cnb_layers.specs.Gathering.{exports_layer, keeps_documented, keeps_found, keeps_layer, nothing_gathered}
use Rattle.cnb_layers.specs.Layer.{digests_contents, finds_contents, flags_of, looks_for_contents, puts_contents}
use Rattle.cnb_layers.specs.Layer.{reads_layer, takes_contents, takes_there, there_by}
use Rattle.cnb_layers.specs.Names.{lists_unless, reads_layer_names, reads_names}
use Rattle.cnb_layers.specs.Patterns.{adds_pattern, adds_slice, reads_pattern, reads_slices}
use Rattle.cnb_layers.specs.Reading.{reads_as, reads_some}
use Rattle.cnb_layers.specs.Refusals.{cause_of, of_image_fault}
use Rattle.cnb_layers.specs.Settling.{checks_reused, decision_of, looks_for_stored, reuses, row_of, settles_by}
use Rattle.cnb_layers.specs.declared.fault.ExportFault.{ExportFault}
use Rattle.cnb_layers.specs.declared.fault.ExportFault.TheVariants.{Store}
use Rattle.cnb_layers.specs.declared.frame.ExportFrame.{ExportFrame}
use Rattle.cnb_toml.specs.Names.{is_image_name}
use Rattle.cnb_toml.specs.declared.fault.DocFault.{DocFault}
use Rattle.cnb_toml.specs.declared.process.Process.{Process}
use Rattle.cnb_words.specs.declared.export.ExportWords.{ExportWords}
use Rattle.cnb_world.proofs.EffectLemmas.{emptied_elsewhere}
use Rattle.cnb_world.proofs.Folders.{get-folder_made_longer, get-with_folders, get-without}
use Rattle.cnb_world.proofs.Joins.{file_is_path, parent_of_file}
use Rattle.cnb_world.proofs.Trees.{bytes_eq-other, get-insert_bytes, get-remove_bytes}
use Rattle.cnb_world.specs.Path.{beside, is_part, is_path, is_short_path, joined, parent_of}
use Rattle.cnb_world.specs.Tree.{Tree, can_make_folder, folder_made, folders_above, is_file_or_absent, is_folder}
use Rattle.cnb_world.specs.Tree.{is_root, is_within, item_at, kind_of}
use Rattle.cnb_world.specs.Whole.{can_write}
use Rattle.cnb_world.specs.declared.world.Item.{Item}
use Rattle.cnb_world.specs.declared.world.Item.TheVariants.{File, Folder}
use Rattle.cnb_world.specs.declared.world.Kind.{Kind}
use Rattle.hex.proofs.HexLemmas.{length-encode_with}
use Rattle.hex.specs.Hex.{encode_lower, lower_digits}
use Rattle.image_docs.specs.declared.analyzed.Analyzed.{Analyzed}
use Rattle.image_docs.specs.declared.layer_row.LayerRow.{LayerRow}
use Rattle.image_files.proofs.PathLemmas.{document_length, document_name_is_part, image_name_fits}
use Rattle.image_files.specs.Images.{reads_image, reads_run_image, writes_readable_image}
use Rattle.image_files.specs.Paths.{document_name, image_path, images_folder, run_path, runs_folder}
use Rattle.layer_flags.specs.declared.export.ExportRow.{ExportRow}
use Rattle.layer_flags.specs.declared.export.ExportRow.TheVariants as table
use Rattle.layer_flags.specs.declared.flags.Flags.{Flags}
use Rattle.layer_paths.specs.Names.{layers_among}
use Rattle.layer_paths.specs.Paths.{layers_folder}
use Rattle.run_docs.specs.Launch.{launch_in}
use Rattle.run_docs.specs.Store.{store_in}
use Rattle.run_docs.specs.declared.group.GroupRow.{GroupRow}
use Rattle.run_docs.specs.declared.layer.LayerDoc.{LayerDoc}
use Rattle.sha2.proofs.Facts256.{length-sha256}
use Rattle.sha2.specs.Sha256.{digest_bytes, sha256}
use Rattle.shelf_set.specs.Caches.{WorldAndCaches, in_world}
use Rattle.shelf_set.specs.Caching.{reads_trees, stores_folders}
use Rattle.steps.proofs.KeepingLaws.{made_free}
use Rattle.steps.specs.Causes.{Cause}
use Rattle.steps.specs.Outside.{Seen}
use Rattle.steps.specs.Steps.{◌>>=◌, gives, map_err, yields}
use Rattle.tree_canon.proofs.DigestTexts.{lower_text}
use Rattle.tree_canon.specs.Spelling.{spelling_of}
use Rattle.tree_canon.specs.declared.node.Node.{Node}
use Rattle.tree_store.proofs.StorePaths.{digest_part}
use Rattle.tree_store.specs.Reading.{tree_in}
use Rattle.tree_store.specs.Caching.{digests_folder}
use Rattle.tree_store.specs.Steps.{LeavesFolder, LeavesPut, can_name, can_put, can_put_folder, folder_put}
use Rattle.tree_store.specs.Steps.{looks_for_tree, puts_folder, puts_tree, reads_tree}
use Rattle.tree_store.specs.Store.{left_or_written, tree_path, tree_put}
use Rattle.tree_store.specs.Writing.{bytes_put, can_begin, named_or_left, new_path, trees_of}
use Rattle.tree_store.specs.declared.fault.StoreFault.{StoreFault}
use Rattle.cnb_lifecycle.proofs.FitPasses.{Goes, Passes, behind_passed, goes_bind, goes_each, goes_looks, goes_told}
use Rattle.cnb_lifecycle.proofs.FitPasses.{passes_on, passes_same}
use Rattle.cnb_lifecycle.proofs.FitSteps.{Looks, Minds, by_allows, given_then, join, looks_bind, looks_each}
use Rattle.cnb_lifecycle.proofs.FitSteps.{looks_gives, looks_reads, looks_told, looks_yields, minds_told, minds_writes}
use Rattle.cnb_lifecycle.proofs.FitSteps.{narrow, reads_then, unmoved}
use Rattle.cnb_lifecycle.proofs.PutFits.{all_short, can_be_folder, child_longer, file_over, folder_over, folder_within}
use Rattle.cnb_lifecycle.proofs.PutFits.{file_kept, joined_within, not_root, tree_longer, trees_long}
use Rattle.cnb_lifecycle.specs.Fitting.{FitsExport, FitsImage, IsListed, NoMisuse}

-- ---- the file of a tree

abbrev is_byte : ℕ → Bool
is_byte b = nat_lt b 256

high_first : (k n : ℕ) → list_all is_byte (bytes_high_first k n) ≡ true
high_first zero n = refl
high_first (suc k) n = and_from _ _ (lt-ltb (byte_at k n) 256 (one k)) (high_first k n)
  where
    one : (k : ℕ) → byte_at k n < 256
    one zero = omega arith
    one (suc k) = omega arith

digest_fits : (h : List ℕ) (n : ℕ) → list_all is_byte (digest_bytes h n) ≡ true
unfolding digest_bytes
digest_fits h zero = refl
digest_fits h (suc n) = list_all-append is_byte (digest_bytes h n) (to_be_bytes w32 (slice_index h n))
    ∙ and_from _ _ (digest_fits h n) (high_first 4 (slice_index h n))

each_fits : (xs : List ℕ) → list_all is_byte xs ≡ true → (i : ℕ) → slice_index xs i < 256
each_fits [] h i = omega arith
each_fits (x ∷ xs) h zero = ltb-true x 256 (and_parts (is_byte x) (list_all is_byte xs) h).0
each_fits (x ∷ xs) h (suc i) = each_fits xs (and_parts (is_byte x) (list_all is_byte xs) h).1 i

-- a digest's name is a part of a path
digest_name : (bytes : List ℕ) → IsTrue (is_part (encode_lower (sha256 bytes)))
unfolding sha256
digest_name bytes = digest_part (encode_lower (sha256 bytes)) (encode_lower (sha256 bytes)) refl
    (lower_text (sha256 bytes) (length-sha256 bytes) (each_fits (sha256 bytes) (digest_fits _ 8)))

tree_far : (store bytes : List ℕ) → length (trees_of store) + 1 < length (tree_path store (sha256 bytes))
tree_far store bytes = by (bytes_eq (trees_of store) (47 ∷ []))
    (not_root (trees_of store) (omega (arith, trees_long store)))
  where
    size : length (encode_lower (sha256 bytes)) ≡ 64
    size = omega (arith, length-encode_with lower_digits (sha256 bytes), length-sha256 bytes)

    by : (root : Bool) → root ≡ false → length (trees_of store) + 1
        < length (cond root (trees_of store) (trees_of store ++ 47 ∷ []) ++ encode_lower (sha256 bytes))
    by true is = absurd (cc)
    by false is = omega (
      arith,
      size,
      length-append (trees_of store ++ 47 ∷ [])
          (encode_lower (sha256 bytes)),
      length-append (trees_of store) (47 ∷ []),
    )

trees_path : (store : List ℕ) → IsTrue (is_short_path store) → is_path (trees_of store) ≡ true
trees_path store path =
    let short = and_parts (nat_le (length store) 4096) (is_path store) path in
    let few : length store ≤ 4096 = leb-true (length store) 4096 short.0 in
    file_is_path store (codes "trees") short.1 refl (omega (arith, few, joined_within store (codes "trees")))

-- it stands in the folder of the trees
tree_parent : (store bytes : List ℕ) → IsTrue (is_short_path store)
    → parent_of (tree_path store (sha256 bytes)) ≡ trees_of store
tree_parent store bytes path = parent_of_file (trees_of store) (encode_lower (sha256 bytes))
    (trees_path store path) (digest_name bytes)

-- ---- what a tree that is put leaves

-- Below the folder of the trees a file or nothing stays one; where no tree's file can be a folder or nothing stays one;
-- and what is apart from that folder stays.
record IsPut (store : List ℕ) (t u : Tree) : Type 0 where
  files : (q : List ℕ) → length (trees_of store) < length q → is_file_or_absent (item_at t q) ≡ true
      → is_file_or_absent (item_at u q) ≡ true
  folders : (q : List ℕ) → length q ≤ length (trees_of store) + 1 → can_be_folder (item_at t q) ≡ true
      → can_be_folder (item_at u q) ≡ true
  apart : (q : List ℕ) → are_apart (trees_of store) q ≡ true → item_at u q ≡ item_at t q

not_first : (a b : Bool) → not (a || b) ≡ true → a ≡ false
not_first true b h = absurd (cc)
not_first false b h = refl

not_second : (a b c : Bool) → not (a || (b || c)) ≡ true → b ≡ false
not_second true b c h = absurd (cc)
not_second false true c h = absurd (cc)
not_second false false c h = refl

module _ (store bytes : List ℕ) (t : Tree) where
  abbrev file : List ℕ
  file = tree_path store (sha256 bytes)

  abbrev folders : List (List ℕ)
  folders = folders_above (trees_of store) ++ trees_of store ∷ []

  abbrev made : Tree
  made = folder_made (trees_of store) t

  -- the file stands, and nothing at one more path
  abbrev filed : List ℕ → Tree
  filed extra = insert (remove made extra) file (File false bytes)

  get_filed : (extra q : List ℕ) → get (filed extra) q ≡ cond (bytes_eq q file) (Some (File false bytes))
      (cond (bytes_eq q extra) None (get made q))
  get_filed extra q = get-insert_bytes (remove made extra) file (File false bytes) q
      ∙ ap (cond (bytes_eq q file) (Some (File false bytes))) (get-remove_bytes made extra q)

  short_other : (q : List ℕ) → length q ≤ length (trees_of store) + 1 → bytes_eq q file ≡ false
  short_other q short = bytes_eq-other q file (λ e. let same : length q ≡ length file = ap length e
      in omega (arith, same, short, tree_far store bytes))

  folder_item : (q : List ℕ) → get made q ≡ cond (list_any (bytes_eq q) folders && not (is_root q)) (Some Folder)
      (get t q)
  folder_item q = get-with_folders folders t q

  filed_is : (extra : List ℕ) → ((q : List ℕ) → are_apart (trees_of store) q ≡ true → bytes_eq q extra ≡ false)
      → IsPut store t (filed extra)
  filed_is extra other = record { files = files; folders = stay; apart = same }
    where
      files : (q : List ℕ) → length (trees_of store) < length q → is_file_or_absent (item_at t q) ≡ true
          → is_file_or_absent (item_at (filed extra) q) ≡ true
      files q long h =
          let plain : is_root q ≡ false = not_root q (omega (arith, long, trees_long store)) in
          let here : is_file_or_absent (get made q) ≡ true = ap is_file_or_absent
          (get-folder_made_longer (trees_of store) q t long) ∙ subst
          (λ v. is_file_or_absent (cond v (Some Folder) (get t q)) ≡ true) plain h in
          ap (λ v. is_file_or_absent (cond v (Some Folder) (get (filed extra) q))) plain
          ∙ ap is_file_or_absent (get_filed extra q) ∙ file_over (bytes_eq q file) (bytes_eq q extra) bytes
          (get made q) here

      stay : (q : List ℕ) → length q ≤ length (trees_of store) + 1 → can_be_folder (item_at t q) ≡ true
          → can_be_folder (item_at (filed extra) q) ≡ true
      stay q short h =
          ap (λ v. can_be_folder (cond (is_root q) (Some Folder) v))
          (get_filed extra q ∙ ap (λ v. cond v (Some (File false bytes))
          (cond (bytes_eq q extra) None (get made q))) (short_other q short)
          ∙ ap (cond (bytes_eq q extra) None) (folder_item q))
          ∙ folder_over (is_root q) (bytes_eq q extra) (list_any (bytes_eq q) folders) (get t q) h

      same : (q : List ℕ) → are_apart (trees_of store) q ≡ true → item_at (filed extra) q ≡ item_at t q
      same q apart =
          ap (cond (is_root q) (Some Folder))
          (get_filed extra q
          ∙ ap (λ v. cond v (Some (File false bytes)) (cond (bytes_eq q extra) None (get made q)))
          (not_first (bytes_eq q file) _ (free_of_trees store q apart (sha256 bytes)))
          ∙ ap (λ v. cond v None (get made q)) (other q apart))
          ∙ made_free t (trees_of store) q (free_itself (trees_of store) q apart)

  bytes_put_is : IsPut store t (bytes_put store bytes t)
  bytes_put_is = record {
    files = file_kept store bytes t;
    folders = stay (item_at t file);
    apart = same
        (item_at t file);
  }
    where
      inside : (q : List ℕ) → are_apart (trees_of store) q ≡ true → Inside (trees_of store) (new_path store)
      inside q apart = inside_joined (trees_of store) (codes "new") (folder_not_root (trees_of store) q apart)

      is : IsPut store t (filed (new_path store))
      is = filed_is (new_path store) (λ q apart. not_first (bytes_eq q (new_path store)) _
          (free_document (trees_of store) q apart (new_path store) (inside q apart)))

      stay : (found : Option Item) (q : List ℕ) → length q ≤ length (trees_of store) + 1
          → can_be_folder (item_at t q) ≡ true → can_be_folder (item_at
          (named_or_left found (new_path store) file bytes made) q) ≡ true
      stay None q short h = is.folders q short h
      stay (Some found) q short h =
          ap (λ v. can_be_folder (cond (is_root q) (Some Folder) v))
          (get-without (new_path store) made q ∙ ap (λ v. cond (not (is_within (new_path store) q)) v None)
          (folder_item q))
          ∙ folder_within (is_root q) (not (is_within (new_path store) q)) (list_any (bytes_eq q) folders) (get t q) h

      same : (found : Option Item) (q : List ℕ) → are_apart (trees_of store) q ≡ true
          → item_at (named_or_left found (new_path store) file bytes made) q ≡ item_at t q
      same None q apart = is.apart q apart
      same (Some found) q apart =
          ap (cond (is_root q) (Some Folder)) (emptied_elsewhere made (new_path store) q
          (not_within (trees_of store) q apart (omega (arith, trees_long store)) (new_path store)
          (inside q apart)))
          ∙ made_free t (trees_of store) q (free_itself (trees_of store) q apart)

  written_is : IsTrue (is_short_path store) → (found : Option Item) → IsPut store t (left_or_written found file bytes t)
  written_is path (Some found) = record { files = λ q long h. h; folders = λ q short h. h; apart = λ q apart. refl }
  written_is path None =
      subst (λ p. IsPut store t (insert (remove (folder_made p t) (beside file)) file (File false bytes)))
      (sym (tree_parent store bytes path))
      (filed_is (beside file) (λ q apart. not_second (bytes_eq q file) (bytes_eq q (beside file)) _
      (free_of_trees store q apart (sha256 bytes))))

module _ (store : List ℕ) (t u : Tree) (put : IsPut store t u) where
  makes_so : (q : List ℕ) → length q ≤ length (trees_of store) + 1 → can_make_folder t q ≡ true
      → can_make_folder u q ≡ true
  makes_so q short h =
      let F : List ℕ → Bool = λ r. can_be_folder (item_at t r) in
      let G : List ℕ → Bool = λ r. can_be_folder (item_at u r) in
      let step : (r : List ℕ) → length r ≤ length q → F r ≡ true
      → G r ≡ true = λ r le x. put.folders r (omega (arith, le, short)) x in
      let parts = and_parts (list_all F (folders_above q)) (list_all F (q ∷ []))
      (sym (list_all-append F (folders_above q) (q ∷ [])) ∙ h) in
      list_all-append G (folders_above q) (q ∷ []) ∙ and_from _ _
      (all_short store [] t F G (length q) step [] q (omega arith) parts.0)
      (let last = and_parts (F q) true parts.1 in and_from (G q) true (step q (omega arith) last.0) refl)

  writes_so : (path : List ℕ) → length (trees_of store) < length path
      → length (parent_of path) ≤ length (trees_of store) + 1 → can_write path t ≡ true → can_write path u ≡ true
  writes_so path long short h =
      let outer = and_parts (is_file_or_absent (item_at t path) && is_file_or_absent (item_at t (beside path)))
      (can_make_folder t (parent_of path)) h in
      let both = and_parts (is_file_or_absent (item_at t path)) (is_file_or_absent (item_at t (beside path))) outer.0 in
      and_from _ _ (and_from _ _ (put.files path long both.0)
      (put.files (beside path) (omega (arith, long, length-append path (46 ∷ 110 ∷ 101 ∷ 119 ∷ []))) both.1))
      (makes_so (parent_of path) short outer.1)

  begins_so : can_begin store t ≡ true → can_begin store u ≡ true
  begins_so h =
      let parts = and_parts (is_file_or_absent (item_at t (new_path store))) (can_make_folder t (trees_of store)) h in
      and_from _ _ (put.files (new_path store) (omega (arith, child_longer (trees_of store) (codes "new")))
      parts.0) (makes_so (trees_of store) (omega arith) parts.1)

-- ---- what fits an export, behind a tree that was put

-- folders of one folder
sizes : (folder a b : List ℕ) → length (joined folder a) + length b ≡ length (joined folder b) + length a
sizes folder a b = by (bytes_eq folder (47 ∷ []))
  where
    by : (root : Bool) → length (cond root folder (folder ++ 47 ∷ []) ++ a) + length b
        ≡ length (cond root folder (folder ++ 47 ∷ []) ++ b) + length a
    by true = omega (arith, length-append folder a, length-append folder b)
    by false = omega (arith, length-append (folder ++ 47 ∷ []) a, length-append (folder ++ 47 ∷ []) b)

run_longer : (store name : List ℕ) → length (trees_of store) < length (run_path store name)
run_longer store name = omega (
  arith,
  sizes store (codes "trees") (codes "runs"),
  child_longer (runs_folder store)
      (document_name name),
  document_length name,
)

image_longer : (store name : List ℕ) → length (trees_of store) < length (image_path store name)
image_longer store name = omega (
  arith,
  sizes store (codes "trees") (codes "images"),
  child_longer
      (images_folder store) (document_name name),
  document_length name,
)

image_parent : (store name : List ℕ) → IsTrue (is_short_path store) → IsTrue (is_image_name name)
    → parent_of (image_path store name) ≡ images_folder store
image_parent store name path named =
    let short = and_parts (nat_le (length store) 4096) (is_path store) path in
    let few : length store ≤ 4096 = leb-true (length store) 4096 short.0 in
    let part = image_name_fits name named in
    parent_of_file (images_folder store) (document_name name)
    (file_is_path store (codes "images") short.1 refl (omega (arith, few, joined_within store (codes "images"))))
    (document_name_is_part name part.part (omega (arith, part.short)))

-- what lies in a folder that is apart from another is apart from that too
apart_inside : (folder other q : List ℕ) → 0 < length folder → are_apart folder other ≡ true → Inside folder q
    → are_apart other q ≡ true
apart_inside folder other q long apart inside = and_from _ _ (ap not (out (is_within other q) refl))
    (ap not (not_within folder other apart long q inside))
  where
    never : (is_root other ≡ true) ⊎ Below other q → ⊥
    never (inl root) = false≢true (sym (path_not_root folder other apart) ∙ root)
    never (inr below) = not_above folder other apart q inside below

    out : (v : Bool) → is_within other q ≡ v → is_within other q ≡ false
    out true e = absurd (never (within_so other q e))
    out false e = e

some_byte : (path : List ℕ) → is_path path ≡ true → 0 < length path
some_byte [] h = absurd (cc)
some_byte (c ∷ cs) h = omega arith

-- ---- a value that is known, and steps behind it

ok_is : {A E : Type 0} (a b : A) → (let r : Result A E = Ok a in r) ≡ Ok b → a ≡ b
ok_is a b h = cc

looks_given : {E A B : Type 0} (Fit : Tree → Type 0) (cause : E → Cause) (value : A)
    (next : A → Seen → Result B E → Seen → Type 0) → Looks Fit (next value)
    → Looks Fit (gives cause (Ok value) >>= next)
looks_given Fit cause value next looks = given_then Fit cause (Ok value) next
    (λ a is. subst (λ x. Looks Fit (next x)) (ok_is value a is) looks)

goes_given : {E A B : Type 0} (Fit : Tree → Type 0) (cause : E → Cause) (value : A)
    (next : A → Seen → Result B E → Seen → Type 0) → Goes Fit (next value)
    → Goes Fit (gives cause (Ok value) >>= next)
unfolding ◌>>=◌ gives
goes_given {E = E} {B = B} Fit cause value next goes old new result h = by result h
  where
    behind : (result : Result B E) (a : _) (mid : Seen) → mid ≡ old → value ≡ a → next a mid result new
        → NoMisuse Fit old new × OnOk result (Passes Fit old.files new.files)
    behind result a mid same is k = goes old new result
        (subst (λ (s : Seen). next value s result new) same (subst (λ x. next x mid result new) (sym is) k))

    by : (result : Result B E) → (gives cause (Ok value) >>= next) old result new → NoMisuse Fit old new
        × OnOk result (Passes Fit old.files new.files)
    by (Ok told) (a, mid, given, k) = behind (Ok told) a mid given.0 (ok_is value a given.1) k
    by (Err fault) (inl given) = ((unmoved Fit old new given.0).1, tt)
    by (Err fault) (inr (a, mid, given, k)) = behind (Err fault) a mid given.0 (ok_is value a given.1) k

-- ---- what is read

module _ (Fit : Tree → Type 0) where
  looks_as : {A : Type 0} (form : List ℕ → Result A DocFault) (at : List ℕ)
      → ((t : Tree) → Fit t → IsTrue (is_file_or_absent (item_at t at))) → Looks Fit (reads_as form at)
  unfolding reads_as
  looks_as form at so = looks_bind Fit _ _ (looks_reads Fit cause_of _ _ _ so) (λ found. looks_gives Fit cause_of _)

  looks_some : {A : Type 0} (form : List ℕ → Result A DocFault) (at : List ℕ)
      → ((t : Tree) → Fit t → IsTrue (is_file_or_absent (item_at t at))) → Looks Fit (reads_some form at)
  unfolding reads_some
  looks_some form at so = looks_bind Fit _ _ (looks_reads Fit cause_of _ _ _ so) (λ found. looks_gives Fit cause_of _)

  looks_needed : {A : Type 0} (form : List ℕ → Result A DocFault) (folder name : List ℕ)
      → ((t : Tree) → Fit t → IsTrue (is_file_or_absent (item_at t (joined folder name))))
      → Looks Fit (reads_needed form folder name)
  unfolding reads_needed
  looks_needed form folder name so = looks_given Fit cause_of (joined folder name) _
      (looks_bind Fit _ _ (looks_reads Fit cause_of _ _ _ so) (λ found. looks_gives Fit cause_of _))

  looks_pattern : (id text : List ℕ) → Looks Fit (reads_pattern id text)
  unfolding reads_pattern
  looks_pattern id text old new result h = unmoved Fit old new h.0

  looks_patterns : (id text : List ℕ) (patterns : List (List PatternItem)) → Looks Fit (adds_pattern id text patterns)
  unfolding adds_pattern
  looks_patterns id text patterns = looks_bind Fit _ _ (looks_pattern id text) (λ pattern. looks_gives Fit cause_of _)

  looks_slice : (id : List ℕ) (texts : List (List ℕ)) (slices : Slices) → Looks Fit (adds_slice id texts slices)
  unfolding adds_slice
  looks_slice id texts slices = looks_bind Fit _ _
      (looks_each Fit (adds_pattern id) texts [] (λ text patterns. looks_patterns id text patterns))
      (λ patterns. looks_gives Fit cause_of _)

  looks_slices : (id : List ℕ) (slices : List (List (List ℕ))) → Looks Fit (reads_slices id slices)
  looks_slices id slices = looks_each Fit (adds_slice id) slices [] (λ texts so_far. looks_slice id texts so_far)

  looks_cut : (app : List ℕ) (slices : Slices) → Looks Fit (cuts_app app slices)
  unfolding cuts_app reads_tree
  looks_cut app slices = looks_bind Fit _ _ (looks_told Fit Store _ (looks_reads Fit _ _ _ _ (λ t fit. refl)))
      (λ tree. looks_gives Fit cause_of _)

  looks_layer : (at : List ℕ) → Looks Fit (reads_layer at)
  unfolding reads_layer
  looks_layer at = looks_bind Fit _ _ (looks_reads Fit cause_of _ _ _ (λ t fit. refl))
      (λ found. looks_gives Fit cause_of _)

  looks_contents : (at : List ℕ) → Looks Fit (looks_for_contents at)
  unfolding looks_for_contents
  looks_contents at = looks_bind Fit _ _ (looks_reads Fit cause_of _ _ _ (λ t fit. refl))
      (λ kind. looks_gives Fit cause_of (there_by at kind))

  looks_stored : (store digest : List ℕ) → Looks Fit (looks_for_stored store digest)
  unfolding looks_for_stored looks_for_tree
  looks_stored store digest = looks_bind Fit _ _ (looks_told Fit Store _ (looks_reads Fit _ _ _ _ (λ t fit. refl)))
      (λ stored. looks_gives Fit cause_of _)

  looks_checked : (store : List ℕ) (digest : Option (List ℕ)) (before : Option LayerRow)
      → Looks Fit (checks_reused store digest before)
  looks_checked store (Some digest) before = looks_yields Fit tt
  looks_checked store None None = looks_yields Fit tt
  looks_checked store None (Some row) = looks_stored store row.digest

  looks_settled : (line : ExportRow) (store id layer : List ℕ) (digest : Option (List ℕ))
      (before : Option LayerRow) → Looks Fit (settles_by line store id layer digest before)
  unfolding reuses
  looks_settled table.Skip store id layer digest before = looks_yields Fit _
  looks_settled table.Add store id layer digest before = looks_yields Fit _
  looks_settled table.Reuse store id layer digest before = looks_bind Fit _ _ (looks_checked store digest before)
      (λ checked. looks_yields Fit _)
  looks_settled table.NoContents store id layer digest before = looks_gives Fit cause_of _
  looks_settled table.NoPrevious store id layer digest before = looks_gives Fit cause_of _

  -- where it is known what stands at a folder's path
  abbrev Known : List ℕ → Kind → Tree → Type 0
  Known folder kind t = Fit t × (◌≡◌ {A = Result Kind ExportFault} (Ok (kind_of (item_at t folder))) (Ok kind))

  looks_names : (folder : List ℕ) → ((t : Tree) → Fit t → IsListed folder t) → Looks Fit (reads_layer_names folder)
  unfolding reads_layer_names reads_names
  looks_names folder so = looks_bind Fit _ _ (reads_then Fit cause_of _ _ _ _ (λ t fit. refl)
      (λ kind. by kind (is_absent kind) refl)) (λ names. looks_gives Fit cause_of (Ok (layers_among names)))
    where
      some_kind : (found : Option Item) → is_absent (kind_of found) ≡ false → is_some found ≡ true
      some_kind None h = absurd (cc)
      some_kind (Some item) h = refl

      by : (kind : Kind) (absent : Bool) → is_absent kind ≡ absent
          → Looks (Known folder kind) (lists_unless absent folder)
      by kind true is = looks_yields (Known folder kind) []
      by kind false is = looks_reads (Known folder kind) cause_of _ _ _
          (λ t fit. so t fit.0 (some_kind (item_at t folder)
          (ap is_absent (ok_is (kind_of (item_at t folder)) kind fit.1) ∙ is)))

  looks_rows : (store name : List ℕ) → ((t : Tree) → Fit t
      → IsTrue (is_file_or_absent (item_at t (image_path store name)))) → Looks Fit (reads_layers store name)
  unfolding reads_layers reads_image
  looks_rows store name so = looks_bind Fit _ _ (looks_told Fit of_image_fault _ (looks_reads Fit _ _ _ _ so))
      (λ image. looks_yields Fit image.layers)

  looks_previous : (store : List ℕ) (name : Option (List ℕ))
      → ((t : Tree) → Fit t → (name : List ℕ) → IsTrue (is_file_or_absent (item_at t (image_path store name))))
      → Looks Fit (reads_previous store name)
  looks_previous store None so = looks_yields Fit []
  looks_previous store (Some name) so = looks_rows store name (λ t fit. so t fit name)

  looks_run : (store name : List ℕ) → ((t : Tree) → Fit t
      → IsTrue (is_file_or_absent (item_at t (run_path store name)))) → Looks Fit (reads_run_image store name)
  unfolding reads_run_image
  looks_run store name so = looks_reads Fit _ _ _ _ so

-- ---- what puts trees

module _ (store layers image : List ℕ) (path : IsTrue (is_short_path store))
    (named : IsTrue (is_image_name image)) (layered : is_path layers ≡ true) where
  abbrev Fits : Tree → Type 0
  Fits = FitsImage store layers image

  in_layers : (t : Tree) → Fits t → (q : List ℕ) → Inside layers q → are_apart (trees_of store) q ≡ true
  in_layers t fit q inside = apart_inside layers (trees_of store) q (some_byte layers layered) fit.apart inside

  folder_inside : (t : Tree) → Fits t → (id : List ℕ) → Inside layers (layers_folder layers id)
  folder_inside t fit id = inside_joined layers _ (folder_not_root layers (trees_of store) fit.apart)

  put_fits : (t u : Tree) → IsPut store t u → Fits t → Fits u
  put_fits t u put fit = record {
    apart = fit.apart;
    folders = λ id. subst (λ found. is_some found ≡ true → IsTrue (is_folder found))
        (sym (put.apart (layers_folder layers id) (in_layers t fit _ (folder_inside t fit id)))) (fit.folders id);
    launch = λ id. ap is_file_or_absent (put.apart (joined (layers_folder layers id) (codes "launch.toml"))
        (in_layers t fit _ (inside_deeper layers _ _ (folder_inside t fit id)))) ∙ fit.launch id;
    kept = λ id. ap is_file_or_absent (put.apart (joined (layers_folder layers id) (codes "store.toml"))
        (in_layers t fit _ (inside_deeper layers _ _ (folder_inside t fit id)))) ∙ fit.kept id;
    runs = λ name. put.files (run_path store name) (run_longer store name) (fit.runs name);
    images = λ name. put.files (image_path store name) (image_longer store name) (fit.images name);
    begun = begins_so store t u put fit.begun;
    trees = λ tree. writes_so store t u put _ (tree_longer store _)
        (subst (λ p. length p ≤ length (trees_of store) + 1) (sym (tree_parent store (spelling_of tree) path))
        (omega arith)) (fit.trees tree);
    written = writes_so store t u put (image_path store image) (image_longer store image)
        (subst (λ p. length p ≤ length (trees_of store) + 1) (sym (image_parent store image path named))
        (omega (arith, sizes store (codes "trees") (codes "images")))) fit.written;
  }

  passes_put : (o o1 : Option Tree) (change : Tree → Tree) → ((t : Tree) → IsPut store t (change t))
      → o1 ≡ option_map change o → Passes Fits o o1
  passes_put None o1 change put is = tt
  passes_put (Some t) o1 change put is = λ fit. (change t, is, put_fits t (change t) (put t) fit)

  may_put : (folder : List ℕ) (t : Tree) → Fits t → can_put_folder store folder t ≡ true
  may_put folder t fit = and_from _ _ fit.begun (may_name (tree_in folder t))
    where
      may_name : (read : Result Node StoreFault) → can_name store read t ≡ true
      may_name (Ok tree) = let outer = and_parts _ _ (fit.trees tree) in (and_parts _ _ outer.0).0
      may_name (Err fault) = refl

  goes_folder : (folder : List ℕ) → Goes Fits (puts_folder store folder)
  unfolding puts_folder
  goes_folder folder old new result h = (
    narrow (λ t. IsTrue (can_put_folder store folder t)) Fits old.files
        old.misused new.misused (may_put folder) (by_allows (can_put_folder store folder) old.files old.misused
        new.misused h.allows),
    left result h.leaves,
  )
    where
      left : (result : Result (List ℕ) StoreFault) → LeavesFolder store folder old result new
          → OnOk result (Passes Fits old.files new.files)
      left (Ok digest) (tree, is, told, files) = passes_put old.files new.files (folder_put store tree)
          (λ t. bytes_put_is store (spelling_of tree) t) files
      left (Err fault) leaves = tt

  goes_tree : (tree : Node) → Goes Fits (puts_tree store tree)
  unfolding puts_tree
  goes_tree tree old new result h = (
    narrow (λ t. IsTrue (can_put store tree t)) Fits old.files old.misused
        new.misused (λ t fit. fit.trees tree) (by_allows (can_put store tree) old.files old.misused new.misused
        h.allows),
    left result h.leaves,
  )
    where
      left : (result : Result (List ℕ) StoreFault) → LeavesPut store tree old result new
          → OnOk result (Passes Fits old.files new.files)
      left (Ok digest) (is, files) = passes_put old.files new.files (tree_put store tree)
          (λ t. written_is store (spelling_of tree) t path
          (item_at t (tree_path store (sha256 (spelling_of tree))))) files
      left (Err fault) leaves = tt

  goes_put : (at : List ℕ) → Goes Fits (puts_contents store at)
  unfolding puts_contents
  goes_put at = goes_bind Fits _ _ (goes_told Fits Store _ (goes_folder at))
      (λ digest. goes_looks Fits _ (looks_yields Fits _))

  goes_there : (cache launch : Bool) (at : List ℕ) → Goes Fits (takes_there store cache launch at)
  unfolding digests_contents digests_folder reads_tree
  goes_there true true at = goes_put at
  goes_there false true at = goes_put at
  goes_there true false at = goes_looks Fits _ (looks_bind Fits _ _ (looks_told Fits Store _ (looks_bind Fits _ _
      (looks_reads Fits _ _ _ _ (λ t fit. refl)) (λ tree. looks_yields Fits _))) (λ digest. looks_yields Fits _))
  goes_there false false at = goes_looks Fits _ (looks_yields Fits _)

  goes_taken : (flags : Flags) (at : List ℕ) (there : Bool) → Goes Fits (takes_contents store flags at there)
  goes_taken flags at true = goes_there flags.cache flags.launch at
  goes_taken flags at false = goes_looks Fits _ (looks_yields Fits _)

  goes_contents : (folder layer : List ℕ) (flags : Flags) → Goes Fits (finds_contents store folder layer flags)
  unfolding finds_contents
  goes_contents folder layer flags = goes_given Fits cause_of (joined folder layer) _
      (goes_bind Fits _ _ (goes_looks Fits _ (looks_contents Fits _)) (λ there. goes_taken flags _ there))

  goes_found : (previous : List LayerRow) (id folder layer : List ℕ) (doc : Option LayerDoc)
      → Goes Fits (keeps_found store previous id folder layer doc)
  unfolding keeps_documented
  goes_found previous id folder layer None = goes_looks Fits _ (looks_yields Fits None)
  goes_found previous id folder layer (Some doc) =
      goes_bind Fits _ _ (goes_contents folder layer (flags_of doc))
      (λ contents. goes_looks Fits _ (looks_bind Fits _ _
      (looks_settled Fits (decision_of (flags_of doc) contents (row_of previous id layer)) store id layer
      contents.digest (row_of previous id layer)) (λ settled. looks_gives Fits cause_of _)))

  goes_layer : (previous : List LayerRow) (id folder layer : List ℕ)
      → Goes Fits (keeps_layer store previous id folder layer)
  unfolding keeps_layer
  goes_layer previous id folder layer =
      goes_bind Fits _ _ (goes_looks Fits _ (looks_gives Fits cause_of _))
      (λ document. goes_bind Fits _ _ (goes_looks Fits _ (looks_layer Fits document))
      (λ doc. goes_found previous id folder layer doc))

  goes_layers : (previous : List LayerRow) (id : List ℕ) (gathered : _)
      → Goes Fits (exports_layers store previous id (layers_folder layers id) gathered)
  unfolding exports_layers exports_layer
  goes_layers previous id gathered =
      goes_bind Fits _ _ (goes_looks Fits _ (looks_names Fits (layers_folder layers id)
      (λ t (fit : FitsImage store layers image t). fit.folders id)))
      (λ names. goes_each Fits (exports_layer store previous id (layers_folder layers id)) names gathered
      (λ layer so_far. goes_bind Fits _ _ (goes_layer previous id (layers_folder layers id) layer)
      (λ kept. goes_looks Fits _ (looks_gives Fits cause_of _))))

  looks_launch : (id : List ℕ) → Looks Fits (reads_launch (layers_folder layers id) id)
  unfolding reads_launch
  looks_launch id =
      looks_given Fits cause_of (joined (layers_folder layers id) (codes "launch.toml")) _
      (looks_bind Fits _ _ (looks_as Fits launch_in _ (λ t (fit : FitsImage store layers image t). fit.launch id))
      (λ launch. looks_gives Fits cause_of (one_default id launch)))

  looks_store : (id : List ℕ) → Looks Fits (reads_store_document (layers_folder layers id))
  unfolding reads_store_document
  looks_store id = looks_given Fits cause_of (joined (layers_folder layers id) (codes "store.toml")) _
      (looks_some Fits store_in _ (λ t (fit : FitsImage store layers image t). fit.kept id))

  looks_documents : (id : List ℕ) (gathered : _) → Looks Fits (exports_documents (layers_folder layers id) id gathered)
  unfolding exports_documents exports_store_document
  looks_documents id gathered =
      looks_bind Fits _ _ (looks_launch id)
      (λ launch. looks_bind Fits _ _ (looks_slices Fits id launch.slices)
      (λ slices. looks_bind Fits _ _ (looks_store id) (λ store_document. looks_gives Fits cause_of _)))

  goes_links : (processes : List Process) → Goes Fits (puts_links store processes)
  unfolding puts_links
  goes_links processes = goes_bind Fits _ _ (goes_looks Fits _ (looks_gives Fits cause_of _))
      (λ tree. goes_bind Fits _ _ (goes_told Fits Store _ (goes_tree tree))
      (λ digest. goes_looks Fits _ (looks_yields Fits _)))

  goes_process : (processes : List Process) → Goes Fits (puts_process store processes)
  goes_process [] = goes_looks Fits _ (looks_yields Fits None)
  goes_process (process ∷ processes) = goes_links (process ∷ processes)

  goes_app : (app : List ℕ) (slices : Slices) → Goes Fits (puts_app store app slices)
  unfolding puts_whole puts_parts puts_part
  goes_app app [] = goes_bind Fits _ _ (goes_told Fits Store _ (goes_folder app))
      (λ digest. goes_looks Fits _ (looks_gives Fits cause_of _))
  goes_app app (slice ∷ slices) =
      goes_bind Fits _ _ (goes_looks Fits _ (looks_cut Fits app (slice ∷ slices)))
      (λ parts. goes_each Fits (puts_part store) parts []
      (λ tree digests. goes_bind Fits _ _ (goes_told Fits Store _ (goes_tree tree))
      (λ digest. goes_looks Fits _ (looks_gives Fits cause_of _))))

-- ---- an export

module _ (frame : ExportFrame) (image : List ℕ) (path : IsTrue (is_short_path frame.store))
    (named : IsTrue (is_image_name image)) (layered : is_path frame.layers ≡ true) where
  abbrev Fitting : Tree → Type 0
  Fitting = FitsImage frame.store frame.layers image

  goes_buildpack : (previous : List LayerRow) (row : GroupRow) (gathered : _)
      → Goes Fitting (exports_buildpack frame previous row gathered)
  unfolding exports_buildpack
  goes_buildpack previous row gathered =
      goes_given Fitting cause_of (layers_folder frame.layers row.key.id) _
      (goes_bind Fitting _ _ (goes_looks Fitting _ (looks_documents frame.store frame.layers image path named
      layered row.key.id gathered))
      (λ documents. goes_layers frame.store frame.layers image path named layered previous row.key.id documents))

  goes_trees : (slices : Slices) (processes : List Process) → Goes Fitting (puts_trees frame slices processes)
  unfolding puts_trees
  goes_trees slices processes =
      goes_bind Fitting _ _ (goes_app frame.store frame.layers image path named layered frame.app slices)
      (λ app. goes_bind Fitting _ _ (goes_told Fitting Store _
      (goes_folder frame.store frame.layers image path named layered frame.launcher))
      (λ launcher. goes_bind Fitting _ _ (goes_looks Fitting _ (looks_gives Fitting cause_of _))
      (λ last. goes_bind Fitting _ _ (goes_process frame.store frame.layers image path named layered last)
      (λ process. goes_looks Fitting _ (looks_yields Fitting _)))))

  pub goes_gains : (group : List GroupRow) (analyzed : Analyzed) → Goes Fitting (gains frame group analyzed)
  unfolding gains
  goes_gains group analyzed =
      goes_bind Fitting _ _ (goes_looks Fitting _ (looks_told Fitting of_image_fault _
      (looks_run Fitting frame.store analyzed.run (λ t (fit : FitsImage frame.store frame.layers image t).
      fit.runs analyzed.run))))
      (λ run. goes_bind Fitting _ _ (goes_looks Fitting _
      (looks_previous Fitting frame.store analyzed.previous
      (λ t (fit : FitsImage frame.store frame.layers image t). fit.images)))
      (λ previous. goes_bind Fitting _ _ (goes_each Fitting (exports_buildpack frame previous) group
      nothing_gathered (λ row so_far. goes_buildpack previous row so_far))
      (λ gathered. goes_bind Fitting _ _ (goes_trees _ _)
      (λ digests. goes_looks Fitting _ (looks_bind Fitting _ _ (looks_gives Fitting cause_of _)
      (λ made. looks_bind Fitting _ _ (looks_gives Fitting cause_of _) (λ rows. looks_yields Fitting _)))))))

-- ---- the same of steps over the world and the caches

abbrev pub CachedMinds : {E A : Type 0} → (Tree → Type 0)
    → (WorldAndCaches → Result A E → WorldAndCaches → Type 0) → Type 0
CachedMinds {E} {A} Fit step = (old new : WorldAndCaches) (result : Result A E) → step old result new
    → NoMisuse Fit old.world new.world

abbrev pub CachedGoes : {E A : Type 0} → (Tree → Type 0) → (WorldAndCaches → Result A E → WorldAndCaches → Type 0)
    → Type 0
CachedGoes {E} {A} Fit step = (old new : WorldAndCaches) (result : Result A E) → step old result new
    → NoMisuse Fit old.world new.world × OnOk result (Passes Fit old.world.files new.world.files)

module _ (Fit : Tree → Type 0) where
  in_place : {E A : Type 0} (old new : Seen) (result : Result A E) → new ≡ old → NoMisuse Fit old new
      × OnOk result (Passes Fit old.files new.files)
  in_place old new (Ok value) same = let one = unmoved Fit old new same
      in (one.1, passes_same Fit old.files new.files one.0)
  in_place old new (Err fault) same = ((unmoved Fit old new same).1, tt)

  pub cached_gives : {E A : Type 0} (cause : E → Cause) (want : Result A E) → CachedGoes Fit (gives cause want)
  unfolding gives
  cached_gives cause want old new result h = in_place old.world new.world result
      (ap (λ (s : WorldAndCaches). s.world) h.0)

  pub cached_yields : {E A : Type 0} (want : A) → CachedGoes {E = E} {A = A} Fit (yields want)
  unfolding yields
  cached_yields {E = E} want old new (Ok value) h = in_place {E = E} old.world new.world (Ok value)
      (ap (λ (s : WorldAndCaches). s.world) h.1)
  cached_yields want old new (Err fault) h = absurd h

  -- trees that are stored are read alone
  pub cached_stores : (readable : Bool) (rows : List LayerRow) (folders : List (List ℕ))
      → CachedGoes Fit (stores_folders readable rows folders)
  unfolding stores_folders reads_trees
  cached_stores readable rows folders old new result h =
      let one = looks_reads Fit _ _ _ _ (λ t fit. refl) old.world new.world h.read h.reads in (one.1, went result)
    where
      went : (r : Result (List ℕ) StoreFault) → OnOk r (Passes Fit old.world.files new.world.files)
      went (Ok gone) = passes_same Fit old.world.files new.world.files
          (looks_reads Fit _ _ _ _ (λ t fit. refl) old.world new.world h.read h.reads).0
      went (Err fault) = tt

  pub cached_world : {E A : Type 0} (step : Seen → Result A E → Seen → Type 0) → Goes Fit step
      → CachedGoes Fit (in_world step)
  unfolding in_world
  cached_world step goes old new result h = goes old.world new.world result h.0

  pub cached_told : {E F A : Type 0} (of : E → F) (step : WorldAndCaches → Result A E → WorldAndCaches → Type 0)
      → CachedGoes Fit step → CachedGoes Fit (map_err of step)
  unfolding map_err
  cached_told of step p old new (Ok value) h = p old new (Ok value) h
  cached_told of step p old new (Err refusal) (fault, is, h) = p old new (Err fault) h

  pub cached_bind : {E A B : Type 0} (first : WorldAndCaches → Result A E → WorldAndCaches → Type 0)
      (next : A → WorldAndCaches → Result B E → WorldAndCaches → Type 0) → CachedGoes Fit first
      → ((a : A) → CachedGoes Fit (next a)) → CachedGoes Fit (first >>= next)
  unfolding ◌>>=◌
  cached_bind first next p q old new (Ok value) (a, mid, h, k) =
      let one = p old mid (Ok a) h in
      let two = q a mid new (Ok value) k in (
        behind_passed Fit old.world.files mid.world.files old.world.misused mid.world.misused new.world.misused
            one.1 one.0 two.0,
        passes_on Fit old.world.files mid.world.files new.world.files one.1 two.1,
      )
  cached_bind first next p q old new (Err fault) (inl h) = ((p old new (Err fault) h).0, tt)
  cached_bind first next p q old new (Err fault) (inr (a, mid, h, k)) =
      let one = p old mid (Ok a) h in (
        behind_passed Fit old.world.files mid.world.files old.world.misused mid.world.misused new.world.misused
            one.1 one.0 (q a mid new (Err fault) k).0,
        tt,
      )

  pub cached_behind : {E A B : Type 0} (first : WorldAndCaches → Result A E → WorldAndCaches → Type 0)
      (next : A → WorldAndCaches → Result B E → WorldAndCaches → Type 0) → CachedGoes Fit first
      → ((a : A) → CachedMinds Fit (next a)) → CachedMinds Fit (first >>= next)
  unfolding ◌>>=◌
  cached_behind first next p q old new (Ok value) (a, mid, h, k) = let one = p old mid (Ok a) h
      in behind_passed Fit old.world.files mid.world.files old.world.misused mid.world.misused new.world.misused
      one.1 one.0 (q a mid new (Ok value) k)
  cached_behind first next p q old new (Err fault) (inl h) = (p old new (Err fault) h).0
  cached_behind first next p q old new (Err fault) (inr (a, mid, h, k)) = let one = p old mid (Ok a) h
      in behind_passed Fit old.world.files mid.world.files old.world.misused mid.world.misused new.world.misused
      one.1 one.0 (q a mid new (Err fault) k)

  -- a last step over the world, and a value that is known
  pub cached_last : {E A B : Type 0} (step : Seen → Result A E → Seen → Type 0) (value : B) → Minds Fit step
      → CachedMinds Fit (in_world step >>= (λ done. yields value))
  unfolding ◌>>=◌ in_world yields
  cached_last step value p old new (Ok told) (a, mid, h, k) = subst
      (λ (s : WorldAndCaches). NoMisuse Fit old.world s.world) (sym k.1) (p old.world mid.world (Ok a) h.0)
  cached_last step value p old new (Err fault) (inl h) = p old.world new.world (Err fault) h.0
  cached_last step value p old new (Err fault) (inr (a, mid, h, k)) = absurd k

-- a first step over the world, of whose value this holds, and steps behind it where that holds
cached_where : {E A B : Type 0} (Fit Inner : Tree → Type 0) (first : Seen → Result A E → Seen → Type 0)
    (next : A → WorldAndCaches → Result B E → WorldAndCaches → Type 0) (P : A → Type 0)
    → ((t : Tree) → Fit t → Inner t) → Looks Fit first → ((old new : Seen) (a : A) → first old (Ok a) new → P a)
    → ((a : A) → P a → CachedMinds Inner (next a)) → CachedMinds Fit (in_world first >>= next)
unfolding ◌>>=◌ in_world
cached_where {E = E} {A = A} {B = B} Fit Inner first next P so looks holds later old new result h = by result h
  where
    behind : (result : Result B E) (a : A) (mid : WorldAndCaches) → first old.world (Ok a) mid.world
        → next a mid result new → NoMisuse Fit old.world new.world
    behind result a mid h k =
        let one = looks old.world mid.world (Ok a) h in
        join Fit old.world.files mid.world.files old.world.misused mid.world.misused new.world.misused one.0 one.1
        (narrow Inner Fit mid.world.files mid.world.misused new.world.misused so
        (later a (holds old.world mid.world a h) mid new result k))

    by : (result : Result B E) → (in_world first >>= next) old result new → NoMisuse Fit old.world new.world
    by (Ok value) (a, mid, h, k) = behind (Ok value) a mid h.0 k
    by (Err fault) (inl h) = (looks old.world new.world (Err fault) h.0).1
    by (Err fault) (inr (a, mid, h, k)) = behind (Err fault) a mid h.0 k

-- ---- the command

module _ (words : ExportWords) (path : IsTrue (is_short_path words.store))
    (named : IsTrue (is_image_name words.image)) (layered : is_path words.layers ≡ true) where
  abbrev FitsWords : Tree → Type 0
  FitsWords = FitsImage words.store words.layers words.image

  minds_finish : (exported : Exported) → CachedMinds FitsWords (finishes_export words exported)
  unfolding finishes_export writes_readable_image
  minds_finish exported =
      cached_behind FitsWords _ _ (cached_gives FitsWords refusal_cause _)
      (λ text. cached_last FitsWords _ text (minds_told FitsWords Fault _
      (minds_told FitsWords of_image_fault _ (minds_writes FitsWords _ _ _ (λ t fit. fit.written)))))

  goes_exports : (readable : Bool) (group : List GroupRow) (analyzed : Analyzed)
      → CachedGoes FitsWords (exports readable (frame_of words) group analyzed)
  unfolding exports
  goes_exports readable group analyzed =
      cached_bind FitsWords _ _ (cached_world FitsWords _
      (goes_gains (frame_of words) words.image path named layered group analyzed))
      (λ gained. cached_bind FitsWords _ _ (cached_gives FitsWords cause_of _)
      (λ folders. cached_bind FitsWords _ _
      (cached_told FitsWords Store _ (cached_stores FitsWords readable gained.cached folders))
      (λ gone. cached_yields FitsWords _)))

  looks_group : Looks (FitsExport words) (reads_group words.work)
  unfolding reads_group
  looks_group =
      looks_bind _ _ _ (looks_told _ Fault _ (looks_needed (FitsExport words) _ words.work (codes "group.toml")
      (λ t (fit : FitsExport words t). fit.group)))
      (λ group. looks_bind _ _ _ (looks_gives _ refusal_cause _) (λ allowed. looks_yields _ group))

  looks_given_words : Looks (FitsExport words) (reads_given words)
  unfolding reads_given
  looks_given_words =
      looks_bind _ _ _ looks_group
      (λ group. looks_bind _ _ _ (looks_told _ Fault _
      (looks_needed (FitsExport words) _ words.work (codes "analyzed.toml")
      (λ t (fit : FitsExport words t). fit.analyzed))) (λ analyzed. looks_gives _ refusal_cause _))

  -- what was read is exported over the frame of the words
  minds_where : (frame : ExportFrame) (group : List GroupRow) (analyzed : Analyzed) → frame ≡ frame_of words
      → CachedMinds FitsWords (map_err Fault (exports true frame group analyzed) >>= finishes_export words)
  minds_where frame group analyzed is =
      subst (λ (f : ExportFrame). CachedMinds FitsWords
      (map_err Fault (exports true f group analyzed) >>= finishes_export words)) (sym is)
      (cached_behind FitsWords _ (finishes_export words)
      (cached_told FitsWords Fault _ (goes_exports true group analyzed)) (λ exported. minds_finish exported))

  pub export_minds : CachedMinds (FitsExport words) (exports_command words)
  unfolding exports_command exports_given reads_given gives ◌>>=◌
  export_minds =
      cached_where (FitsExport words) FitsWords (reads_given words) (exports_given words)
      (λ given. given.frame ≡ frame_of words) (λ t (fit : FitsExport words t). fit.image) looks_given_words
      (λ old new given (group, first, grouped, (analyzed, second, analyzing, (same, made, cause))). let is = ok_is
      _ given made in cc)
      (λ given is. minds_where given.frame given.group given.analyzed is)
