-- The store has the trees of an image that is exported.
use Rattle.std.proofs.Common.{◌≡◌, ◌∙◌, refl, sym, ap, subst, ℕ, Bool, true, false, cond, List, [], ◌∷◌, ◌++◌, map}
use Rattle.std.proofs.Common.{append_assoc, codes, Option, Some, None, Result, Ok, Err, inl, inr, ◌⊎◌}
use Rattle.std.specs.Prelude.{IfSome}
use Rattle.std.specs.List.{AllByRecursion, AllZip}
use Rattle.std.specs.Str.{IsUtf8}
use Rattle.std.proofs.lemmas.Str.{IsUtf8-from_is_utf8}
use Rattle.app_slices.specs.Slices.{slices_of}
use Rattle.app_slices.specs.Slots.{Slices}
use Rattle.app_slices.proofs.CutTrees.{cut_trees}
use Rattle.cnb_export.specs.Exports.{exported_row, exports, gains}
use Rattle.cnb_export.specs.Image.{image_of}
use Rattle.cnb_export.specs.Images.{reads_layers, reads_previous, reads_run_image}
use Rattle.cnb_export.specs.Processes.{links_of}
use Rattle.cnb_export.specs.Rows.{app_row, launcher_row, layer_row, process_rows, rows_of}
use Rattle.cnb_export.specs.Trees.{cuts_app, links_tree, puts_app, puts_links, puts_part, puts_parts, puts_process}
use Rattle.cnb_export.specs.Trees.{puts_trees, puts_whole}
use Rattle.cnb_export.specs.declared.exported.Exported.{Exported}
use Rattle.cnb_export.specs.declared.exported.ExportedRow.{ExportedRow}
use Rattle.cnb_layers.specs.Gathering.{layer_of}
use Rattle.cnb_layers.specs.Refusals.{of_image_fault}
use Rattle.cnb_layers.specs.declared.fault.ExportFault.TheVariants.{Store}
use Rattle.cnb_layers.specs.declared.frame.ExportFrame.{ExportFrame}
use Rattle.cnb_layers.specs.declared.gathered.ImageLayer.{ImageLayer}
use Rattle.cnb_toml.specs.declared.process.Process.{Process}
use Rattle.cnb_world.specs.Tree.{Tree, is_file}
use Rattle.cnb_world.specs.declared.limits.LimitKind.TheVariants.{Tree as TreeLimit}
use Rattle.image_docs.specs.DigestText.{is_digest}
use Rattle.image_docs.specs.Row.{is_run}
use Rattle.image_docs.specs.declared.image.ImageDoc.{ImageDoc}
use Rattle.image_docs.specs.declared.layer_row.LayerRow.{LayerRow}
use Rattle.image_docs.specs.declared.row.Role.TheVariants.{Process as ProcessRole}
use Rattle.image_docs.specs.declared.row.Row.{Row}
use Rattle.image_docs.specs.declared.run_image.RunDoc.{RunDoc}
use Rattle.image_files.specs.Faults.{cause_of as image_cause}
use Rattle.image_files.specs.Images as images
use Rattle.image_files.specs.RunPart.{run_row}
use Rattle.run_docs.specs.declared.group.GroupRow.{GroupRow}
use Rattle.shelf_set.specs.Caches.{WorldAndCaches, in_world}
use Rattle.shelf_set.specs.Caching.{reads_trees, stores_folders}
use Rattle.steps.specs.Each.{for_each}
use Rattle.steps.specs.Outside.{Seen}
use Rattle.steps.specs.Steps.{◌>>=◌, gives, map_err, reads, yields}
use Rattle.store_prune.specs.Verifying.{HasTreeFile}
use Rattle.tree_canon.specs.Fits.{is_tree}
use Rattle.tree_canon.specs.declared.node.Node.{Node}
use Rattle.tree_store.specs.Steps.{puts_folder}
use Rattle.tree_store.specs.declared.fault.StoreFault.TheVariants.{Limit}
use Rattle.tree_store.proofs.Blames.{within_itself}
use Rattle.unpack_laws.proofs.VerifiedLaws.{on_told}
use Rattle.store_laws.specs.Sound.{Grows, HasFile, IsSound}
use Rattle.store_laws.specs.Texts.{AreTexts}
use Rattle.store_laws.specs.Stored.{ExportsStored, HasRow, HoldsRows, IsAdded}
use Rattle.store_laws.proofs.DigestRows.{layers_typed}
use Rattle.store_laws.proofs.GroupStores.{Comes, IsThere, LayersThere, all_more, all_weaker, group_there, layers_still}
use Rattle.store_laws.proofs.GroupStores.{read_comes}
use Rattle.store_laws.proofs.PutSteps.{Reading, Went, folder_went, read_files, read_told, tree_read, tree_reading}
use Rattle.store_laws.proofs.PutSteps.{tree_went, went_none, went_read}
use Rattle.store_laws.proofs.Putting.{grows_on, sound_kept, tree_kept}

-- ---- the digests of the trees above the layers

abbrev AnswerOf : {S A E : Type 0} → (S → Result A E → S → Type 0) → Type 0
AnswerOf {A = A} step = A

abbrev Digests : Type 0
Digests = AnswerOf (puts_trees (record { store = []; layers = []; app = []; launcher = [] }) [] [])

module _ (store top : List ℕ) (text : IsUtf8 store) (a : Tree) (texts : AreTexts top a) where
  -- a tree was put under a digest
  abbrev IsPutUnder : Tree → List ℕ → Type 0
  IsPutUnder files digest = (is_digest digest ≡ true) × HasTreeFile store files digest

  abbrev ArePut : Tree → List (List ℕ) → Type 0
  ArePut files digests = AllByRecursion (IsPutUnder files) digests

  abbrev MayBePut : Tree → Option (List ℕ) → Type 0
  MayBePut files digest = IfSome digest (IsPutUnder files)

  put_still : (b c : Tree) → Grows store b c → (digest : List ℕ) → IsPutUnder b digest → IsPutUnder c digest
  put_still b c grows digest h = (h.0, tree_kept store b c grows digest h.0 h.1)

  all_still : (b c : Tree) → Grows store b c → (digests : List (List ℕ)) → ArePut b digests → ArePut c digests
  all_still b c grows digests = all_weaker (IsPutUnder b) (IsPutUnder c) digests (put_still b c grows)

  may_still : (b c : Tree) → Grows store b c → (digest : Option (List ℕ)) → MayBePut b digest → MayBePut c digest
  may_still b c grows None h = tt
  may_still b c grows (Some digest) h = put_still b c grows digest h

  -- ---- the application

  whole_put : (app : List ℕ) → AreTexts app a → (digests : List (List ℕ)) (old new : Seen) (before : Went store a old)
      → puts_whole store app old (Ok digests) new → Comes store top text a texts old before
      (λ files. ArePut files digests) new
  unfolding puts_whole map_err gives ◌>>=◌
  whole_put app names digests old new before (digest, mid, put, (same, is, cause)) =
      let one = folder_went store text a old mid before app names app digest (within_itself app) put in
      let e : digest ∷ [] ≡ digests = cc in
      record {
        went = went_read store a mid new (ap (λ (s : Seen). s.files) same) one.went;
        on = one.on;
        is = subst (ArePut one.went.files) e ((one.is, one.has), tt);
      }

  each_put : (trees : List Node) (so_far digests : List (List ℕ)) (old new : Seen) (before : Went store a old)
      → AllByRecursion (λ tree. is_tree tree ≡ true) trees → ArePut before.files so_far
      → for_each (puts_part store) trees so_far old (Ok digests) new
      → Comes store top text a texts old before (λ files. ArePut files digests) new
  unfolding for_each puts_part map_err gives yields ◌>>=◌
  each_put [] so_far digests old new before fit all (is, same) =
      read_comes store top text a texts old new before (λ files. ArePut files digests) (ap (λ (s : Seen). s.files) same)
      (subst (ArePut before.files) (sym is) all)
  each_put (tree ∷ trees) so_far digests old new before fit all
      (more, mid, (digest, next, put, (same, is, cause)), later) =
      let one = tree_went store text a old next before tree digest fit.0 put in
      let went = went_read store a next mid (ap (λ (s : Seen). s.files) same) one.went in
      let e : so_far ++ digest ∷ [] ≡ more = cc in
      let rest = each_put trees more digests mid new went fit.1 (subst (ArePut one.went.files) e
      (all_more (IsPutUnder one.went.files) so_far digest
      (all_still before.files one.went.files one.on so_far all) (one.is, one.has))) later in
      record {
        went = rest.went;
        on = grows_on store before.files one.went.files rest.went.files one.on rest.on;
        is = rest.is;
      }

  parts_put : (app : List ℕ) → AreTexts app a → (slices : Slices) (digests : List (List ℕ)) (old new : Seen)
      (before : Went store a old)
      → puts_parts store app slices old (Ok digests) new
      → Comes store top text a texts old before (λ files. ArePut files digests) new
  unfolding puts_parts cuts_app map_err gives ◌>>=◌
  parts_put app names slices digests old new before (parts, mid, (tree, next, read, (same, is, cause)), each) =
      let quiet : mid.files ≡ old.files = ap (λ (s : Seen). s.files) same ∙ tree_reading app old next tree read in
      let e : slices_of slices tree ≡ parts = cc in
      let fit = subst (AllByRecursion (λ t. is_tree t ≡ true)) e
      (cut_trees slices tree (tree_read app tree old next before.files (before.texts app names) before.told read)) in
      let rest = each_put parts [] digests mid new (went_read store a old mid quiet before) fit tt each in
      record { went = rest.went; on = rest.on; is = rest.is }

  app_put : (app : List ℕ) → AreTexts app a → (slices : Slices) (digests : List (List ℕ)) (old new : Seen)
      (before : Went store a old)
      → puts_app store app slices old (Ok digests) new
      → Comes store top text a texts old before (λ files. ArePut files digests) new
  app_put app names [] digests old new before h = whole_put app names digests old new before h
  app_put app names (slice ∷ slices) digests old new before h = parts_put app names
      (slice ∷ slices) digests old new before h

  -- ---- the links of the process types

  links_fit : (processes : List Process) (tree : Node) → links_tree processes ≡ Ok tree → is_tree tree ≡ true
  links_fit processes tree h = by (is_tree (links_of processes)) refl h
    where
      by : (v : Bool) → is_tree (links_of processes) ≡ v → cond v (Ok (links_of processes))
          (Err (Store (Limit TreeLimit))) ≡ Ok tree → is_tree tree ≡ true
      by true e h = let same : links_of processes ≡ tree = cc in subst (λ t. is_tree t ≡ true) same e
      by false e h = absurd (cc)

  process_put : (processes : List Process) (digest : Option (List ℕ)) (old new : Seen) (before : Went store a old)
      → puts_process store processes old (Ok digest) new
      → Comes store top text a texts old before (λ files. MayBePut files digest) new
  unfolding puts_links map_err gives yields ◌>>=◌
  process_put [] digest old new before (is, same) =
      read_comes store top text a texts old new before (λ files. MayBePut files digest)
      (ap (λ (s : Seen). s.files) same)
      (subst (MayBePut before.files) (sym is) tt)
  process_put (process ∷ processes) digest old new before
      (tree, m1, (s1, is1, c1), (put, m2, puts, (is, same))) =
      let before1 = went_read store a old m1 (ap (λ (s : Seen). s.files) s1) before in
      let one = tree_went store text a m1 m2 before1 tree put (links_fit (process ∷ processes) tree is1) puts in
      record {
        went = went_read store a m2 new (ap (λ (s : Seen). s.files) same) one.went;
        on = one.on;
        is = subst (MayBePut one.went.files) (sym is) (one.is, one.has);
      }

  -- ---- all of them

  record DigestsPut (files : Tree) (digests : Digests) : Type 0 where
    app : ArePut files digests.app
    launcher : IsPutUnder files digests.launcher
    process : MayBePut files digests.process

  trees_put : (frame : ExportFrame) (slices : Slices) (processes : List Process) (digests : Digests) (old new : Seen)
      (before : Went store a old) → AreTexts frame.app a → AreTexts frame.launcher a → frame.store ≡ store
      → puts_trees frame slices processes old (Ok digests) new
      → Comes store top text a texts old before (λ files. DigestsPut files digests) new
  unfolding puts_trees map_err gives yields ◌>>=◌
  trees_put frame slices processes digests old new before app_names launcher_names at
      (app, m1, put1, (launcher, m2, put2, (last, m3, (s3, is3, c3), (process, m4, put3, (is, same))))) =
      let one = app_put frame.app app_names slices app old m1 before
      (subst (λ s. puts_app s frame.app slices old (Ok app) m1) at put1) in
      let two = folder_went store text a m1 m2 one.went frame.launcher launcher_names frame.launcher launcher
      (within_itself frame.launcher)
      (subst (λ s. puts_folder s frame.launcher m1 (Ok launcher) m2) at put2) in
      let three = process_put last process m3 m4
      (went_read store a m2 m3 (ap (λ (s : Seen). s.files) s3) two.went)
      (subst (λ s. puts_process s last m3 (Ok process) m4) at put3) in
      let on : Grows store two.went.files three.went.files = three.on in
      record {
        went = went_read store a m4 new (ap (λ (s : Seen). s.files) same) three.went;
        on = grows_on store before.files one.went.files three.went.files one.on
            (grows_on store one.went.files two.went.files three.went.files two.on on);
        is = subst (DigestsPut three.went.files) (sym is) (record {
          app = all_still one.went.files three.went.files
              (grows_on store one.went.files two.went.files three.went.files two.on on) app one.is;
          launcher = put_still two.went.files three.went.files on launcher (two.is, two.has);
          process = three.is;
        });
      }

  -- ---- the rows of the image

  module _ (after : Tree) (grows : Grows store a after) where
    record IsRow (row : Row) : Type 0 where
      is : is_digest row.digest ≡ true
      has : HasRow store a after row

    abbrev Has : Row → Type 0
    Has row = is_run row ≡ false → IsRow row

    put_row : (row : Row) → IsPutUnder after row.digest → IsRow row
    put_row row h = record { is = h.0; has = inl h.1 }

    runs_aside : (name : List ℕ) (rows : List (List ℕ)) → AllByRecursion Has (map (run_row name) rows)
    runs_aside name [] = tt
    runs_aside name (digest ∷ rows) = (λ other. absurd (let no : true ≡ false = other in cc), runs_aside name rows)

    layers_have : (group : List GroupRow) (layers : List ImageLayer) → LayersThere store top text a texts after layers
        → AllByRecursion Has (map (layer_row group) layers)
    layers_have group [] all = tt
    layers_have group (layer ∷ layers) all = (
      λ other. record { is = all.0.is; has = by all.0 all.0.there },
      layers_have group layers all.1,
    )
      where
        by : IsThere store top text a texts after layer.reused layer.row.digest
            → HasTreeFile store after layer.row.digest ⊎ HasFile store a layer.row.digest
            → HasRow store a after (layer_row group layer)
        by there (inl tree) = inl tree
        by there (inr file) = inr (refl, file, grows.keeps layer.row.digest there.is file)

    apps_have : (digests : List (List ℕ)) → ArePut after digests → AllByRecursion Has (map app_row digests)
    apps_have [] all = tt
    apps_have (digest ∷ digests) all = (λ other. put_row (app_row digest) all.0, apps_have digests all.1)

    process_has : (digest : Option (List ℕ)) → MayBePut after digest → AllByRecursion Has (process_rows digest)
    process_has None h = tt
    process_has (Some digest) h = (
      λ other. put_row (record {
        role = ProcessRole;
        place = codes "/cnb/process";
        digest = digest;
        by = codes "process";
      }) h,
      tt,
    )

    both : (xs ys : List Row) → AllByRecursion Has xs → AllByRecursion Has ys → AllByRecursion Has (xs ++ ys)
    both [] ys h k = k
    both (x ∷ xs) ys h k = (h.0, both xs ys h.1 k)

    rows_are : (name : List ℕ) (run : RunDoc) (group : List GroupRow) (layers : List ImageLayer) (digests : Digests)
        → rows_of name run group layers digests ≡ map (run_row name) run.rows
        ++ (map (layer_row group) layers ++ (map app_row digests.app
        ++ (launcher_row digests.launcher ∷ process_rows digests.process)))
    rows_are name run group layers digests = simp append_assoc

    rows_have : (name : List ℕ) (run : RunDoc) (group : List GroupRow) (layers : List ImageLayer) (digests : Digests)
        → LayersThere store top text a texts after layers → DigestsPut after digests
        → AllByRecursion Has (rows_of name run group layers digests)
    rows_have name run group layers digests there put = subst (AllByRecursion Has)
        (sym (rows_are name run group layers digests))
        (both (map (run_row name) run.rows) _ (runs_aside name run.rows)
        (both (map (layer_row group) layers) _ (layers_have group layers there)
        (both (map app_row digests.app) _ (apps_have digests.app put.app)
        (λ other. put_row (launcher_row digests.launcher) put.launcher, process_has digests.process put.process))))

    -- so each has its tree in a store that is sound
    in_sound : IsSound store after → (row : Row) → Has row → is_run row ≡ false → HasTreeFile store after row.digest
    in_sound sound row h other = by (h other).has
      where
        by : HasRow store a after row → HasTreeFile store after row.digest
        by (inl tree) = tree
        by (inr taken) = sound.spells row.digest (h other).is (ap is_file taken.2 ∙ taken.1)

    holds : (rows : List Row) → AllByRecursion Has rows → HoldsRows store a after rows
    holds rows all = record {
      grows = grows;
      above = all_weaker Has (λ row. is_run row ≡ false → HasRow store a after row) rows
          (λ row h other. (h other).has) all;
      sound = sound_kept store a after grows;
      trees = λ sound. all_weaker Has (λ row. is_run row ≡ false → HasTreeFile store after row.digest) rows
          (in_sound (sound_kept store a after grows sound)) all;
    }

  -- a layer that is told as added was put
  layers_added : (after : Tree) (layers : List ImageLayer) → LayersThere store top text a texts after layers
      → AllZip (IsAdded store after) (map exported_row layers) (map layer_of layers)
  layers_added after [] all = tt
  layers_added after (layer ∷ layers) all = (all.0.added, layers_added after layers all.1)

-- ---- an export

previous_typed : (store : List ℕ) (name : Option (List ℕ)) (layers : List LayerRow) (old new : Seen) (files : Tree)
    → old.files ≡ Some files → reads_previous store name old (Ok layers) new
    → AllByRecursion (λ row. is_digest row.digest ≡ true) layers × (new.files ≡ old.files)
unfolding reads_layers images.reads_image reads map_err yields ◌>>=◌
previous_typed store None layers old new files told (is, same) =
    (subst (AllByRecursion (λ row. is_digest row.digest ≡ true)) (sym is) tt, ap (λ (s : Seen). s.files) same)
previous_typed store (Some name) layers old new files told (image, mid, read, (is, same)) =
    let found : images.image_at store name files ≡ Ok image = on_told old.files files
    (λ t. images.image_at store name t ≡ Ok image) told read.answer in (
      subst (AllByRecursion (λ row. is_digest row.digest ≡ true)) (sym is) (layers_typed store name files image found),
      ap (λ (s : Seen). s.files) same ∙ read.same.files,
    )

run_reading : (store name : List ℕ) → Reading (reads_run_image store name)
unfolding images.reads_run_image
run_reading store name = read_told of_image_fault (images.reads_run_image store name) (read_files image_cause _ _ _)

folders_reading : (readable : Bool) (rows : List LayerRow) (folders : List (List ℕ)) (old new : WorldAndCaches)
    (gone : List ℕ) → stores_folders readable rows folders old (Ok gone) new → new.world.files ≡ old.world.files
unfolding stores_folders reads_trees reads
folders_reading readable rows folders old new gone h = h.reads.same.files

pub exported_stored : ExportsStored
unfolding exports gains in_world map_err gives yields ◌>>=◌
exported_stored readable frame group analyzed files texts old new exported told (
  gained,
  m1,
  (
    (
      run,
      n1,
      r1,
      (
        previous,
        n2,
        r2,
        (gathered, n3, r3, (digests, n4, r4, (image, n5, (s5, is5, c5), (rows, n6, (s6, is6, c6), (made, s7))))),
      ),
    ),
    same1,
  ),
  (folders, m2, (s8, is8, c8), (gone, m3, stored, (is, s9))),
) =
    let store = frame.store in
    let text : IsUtf8 store = IsUtf8-from_is_utf8 store texts.store in
    let begun = went_none store files old.world told in
    let quiet1 : n1.files ≡ old.world.files = run_reading store analyzed.run old.world n1 run r1 in
    let at1 = went_read store files old.world n1 quiet1 begun in
    let (typed, quiet2) = previous_typed store analyzed.previous previous n1 n2 files at1.told r2 in
    let at2 = went_read store files n1 n2 quiet2 at1 in
    let layers = group_there store frame.layers text files texts.layers previous typed frame group gathered n2 n3 at2
    refl refl r3 in
    let put = trees_put store frame.layers text files texts.layers frame gathered.slices gathered.processes
    digests n3 n4
    layers.went texts.app texts.launcher refl r4 in
    let after = put.went.files in
    let there = layers_still store frame.layers text files texts.layers layers.went.files after gathered.layers
    put.on layers.is in
    let e : image_of analyzed.run run group gathered digests ≡ image = cc in
    let told_as : map exported_row gathered.layers ≡ rows = cc in
    let image_is : exported.image ≡ image = ap (λ (x : Exported). x.image) is ∙ ap (λ g. g.image) made in
    let rows_is : exported.rows ≡ rows = ap (λ (x : Exported). x.rows) is ∙ ap (λ g. g.rows) made in
    let quiet : new.world.files ≡ n4.files = ap (λ (s : WorldAndCaches). s.world.files) s9
    ∙ folders_reading readable gained.cached folders m2 m3 gone stored
    ∙ ap (λ (s : WorldAndCaches). s.world.files) s8
    ∙ ap (λ (s : Seen). s.files) (s7 ∙ s6 ∙ s5) in
    record {
      after = after;
      told = quiet ∙ put.went.told;
      holds = subst (HoldsRows store files after) (sym (ap (λ (i : ImageDoc). i.rows) (image_is ∙ sym e)))
          (holds store frame.layers text files texts.layers after put.went.grows _
          (rows_have store frame.layers text files texts.layers after put.went.grows analyzed.run run group
          gathered.layers digests there
          put.is));
      added = subst (λ (told : List ExportedRow). AllZip (IsAdded store after) told exported.image.layers)
          (sym (rows_is ∙ sym told_as))
          (subst (AllZip (IsAdded store after) (map exported_row gathered.layers))
          (sym (ap (λ (i : ImageDoc). i.layers) (image_is ∙ sym e)))
          (layers_added store frame.layers text files texts.layers after gathered.layers there));
    }
