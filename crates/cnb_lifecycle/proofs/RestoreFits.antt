-- Where the files and the caches fit `restore`, it makes no call on a path of the wrong kind.
use Rattle.std.proofs.Common.{◌≡◌, ◌∙◌, refl, sym, ap, subst, arith, ℕ, ◌-◌, ◌<◌, ◌≤◌, Bool, true, false, not}
use Rattle.std.proofs.Common.{cond, List, [], ◌∷◌, ◌++◌, codes, map, nat_le, length}
use Rattle.std.proofs.Common.{Option, Some, None, Result, Ok, Err, ◌+◌, is_some}
use Rattle.std.proofs.lemmas.Bool.{and_parts, leb-true}
use Rattle.std.specs.List.{AllByRecursion, list_all}
use Rattle.std.specs.Option.{option_map, unwrap_or}
use Rattle.std.specs.Prelude.{IfOk, IfSome, IsTrue, fold, nat_lt}
use Rattle.std.specs.Result.{result_ok}
use Rattle.cnb_restore.specs.Analyzes.{image_found, is_fit_image, previous_in, some_named}
use Rattle.cnb_restore.specs.Commands.{analyzed_at, group_at, group_document, refusal_cause, restores_analyzed}
use Rattle.cnb_restore.specs.Commands.{restores_command}
use Rattle.cnb_restore.specs.Faults.{cause_of, of_laying_fault, of_read_fault}
use Rattle.cnb_restore.specs.Images.{layers_of}
use Rattle.cnb_restore.specs.Layers.{writes_layer, writes_store}
use Rattle.cnb_restore.specs.Restores.{prepares_folder, restores, restores_buildpack, restores_contents}
use Rattle.cnb_restore.specs.Restores.{restores_document, restores_each, restores_found, restores_group, restores_held}
use Rattle.cnb_restore.specs.Restores.{restores_layer, restores_layers, restores_part, restores_rows}
use Rattle.cnb_restore.specs.Rows.{layer_names, row_of, rows_of}
use Rattle.cnb_restore.specs.declared.fault.RestoreFault.{RestoreFault}
use Rattle.cnb_restore.specs.declared.refusal.RestoreRefusal.{RestoreRefusal}
use Rattle.cnb_restore.specs.declared.refusal.RestoreRefusal.TheVariants.{Fault}
use Rattle.cnb_restore.specs.declared.restored.Restored.{Restored}
use Rattle.cnb_restore.specs.declared.sources.Sources.{Sources}
use Rattle.cnb_toml.proofs.Ids.{folder_is_part}
use Rattle.cnb_toml.specs.Distinct.{has_key}
use Rattle.cnb_toml.specs.Names.{folder_of, is_bp_id}
use Rattle.cnb_toml.specs.declared.fault.DocFault.{DocFault}
use Rattle.cnb_words.specs.declared.restore.RestoreWords.{RestoreWords}
use Rattle.cnb_restore.specs.Commands.{group_document}
use Rattle.cnb_world.proofs.Joins.{file_is_path}
use Rattle.cnb_world.proofs.Lengths.{length_joined, part_within}
use Rattle.cnb_world.specs.Path.{is_part, is_path, is_short_path, joined}
use Rattle.cnb_world.specs.Shelf.{Held}
use Rattle.cnb_world.specs.Tree.{Tree, can_make_folder}
use Rattle.cnb_world.specs.Whole.{written}
use Rattle.image_docs.specs.CacheRows.{cache_in}
use Rattle.image_docs.specs.Image.{image_table_in}
use Rattle.image_docs.specs.LayerRow.{layer_key, layers_at, same_layer}
use Rattle.image_docs.specs.declared.analyzed.Analyzed.{Analyzed}
use Rattle.image_docs.specs.declared.image.ImageDoc.{ImageDoc}
use Rattle.image_docs.specs.declared.layer_row.LayerRow.{LayerRow}
use Rattle.image_docs.specs.declared.store_row.StoreRow.{StoreRow}
use Rattle.image_files.specs.Documents.{document_in, is_fit_document}
use Rattle.image_files.specs.Paths.{document_name, image_path}
use Rattle.image_files.specs.Target.{analyzed_document}
use Rattle.layer_flags.specs.declared.restore.RestoreRow.{RestoreRow}
use Rattle.layer_flags.specs.declared.restore.RestoreRow.TheVariants as part
use Rattle.run_docs.specs.declared.group.GroupRow.{GroupRow}
use Rattle.shelf_set.specs.CacheSteps.{gathers}
use Rattle.shelf_set.specs.Caches.{WorldAndCaches, in_caches}
use Rattle.shelf_set.specs.Dropping.{Turn, before_of, left_of}
use Rattle.shelf_set.specs.Finding.{TellsSame}
use Rattle.shelf_set.specs.Gathering.{Gathers, HaveGiven, all_rows, document_rows, given_by, held_rows, with_row}
use Rattle.shelf_set.specs.Restoring.{AllTell, Tells}
use Rattle.shelf_set.specs.ShelfState.{ShelfState}
use Rattle.shelf_set.specs.declared.gathering.Gathered.{Gathered}
use Rattle.shelf_set.specs.declared.restoring.Found.{Found}
use Rattle.shelf_set.specs.declared.restoring.Found.TheVariants as found
use Rattle.shelf_set.proofs.RestoreLemmas.{drops_tell}
use Rattle.steps.specs.Each.{for_each}
use Rattle.steps.specs.Outside.{Seen}
use Rattle.steps.specs.Steps.{gives}
use Rattle.tree_store.proofs.Places.{named}
use Rattle.cnb_lifecycle.specs.Fitting.{FitsRestore, NoMisuse, have_plain_names, is_document_like, is_plain_row}
use Rattle.cnb_lifecycle.specs.Fitting.{is_plain_shelf, tells_plain_names}
use Rattle.cnb_restore.specs.Analyzes.{is_fit_image}
use Rattle.image_files.specs.Documents.{is_fit_document}
use Rattle.image_files.specs.Target.{analyzed_document}
use Rattle.cnb_lifecycle.proofs.LeadingSteps.{Brings, LaidOr, Leads, beside_caches, itself, leads_bind, leads_each}
use Rattle.cnb_lifecycle.proofs.LeadingSteps.{leads_given, leads_gives, leads_in_world, leads_kept, leads_makes}
use Rattle.cnb_lifecycle.proofs.LeadingSteps.{leads_reads, leads_removes, leads_restored, leads_so, leads_told}
use Rattle.cnb_lifecycle.proofs.LeadingSteps.{leads_writes}
use Rattle.cnb_lifecycle.proofs.LeadingSteps.{leads_yields, minds_same}
use Rattle.cnb_lifecycle.proofs.KeptFolders.{AreOnce, IsClean, IsDue, IsNew, IsOpen, IsPlain, child_plain}
use Rattle.cnb_lifecycle.proofs.KeptFolders.{document_is_like, made_anew, make_parent, may_lay, may_write, none_fits}
use Rattle.cnb_lifecycle.proofs.KeptFolders.{open_laid, open_new, open_written, parts_of_plain, removed, stands_above}
use Rattle.cnb_lifecycle.proofs.LayerNames.{IsPlainRow, all_append, all_filter, names_once, row_named, source_named}
use Rattle.cnb_lifecycle.proofs.ReadNames.{HasId, HasLayerName, document_read, from_ok, group_read, image_layers}
use Rattle.cnb_lifecycle.proofs.ReadNames.{layers_read, ok_is, table_read, with_ok}

-- ---- a layer

module _ (folder : List ℕ) (path : is_path folder ≡ true) where
  abbrev Open : List (List ℕ) → WorldAndCaches → Tree → Type 0
  Open names s t = IsOpen folder names t × AllTell s.caches

  abbrev Due : List (List ℕ) → List ℕ → Tree → Type 0
  Due names layer t = IsOpen folder names t × IsDue folder layer t

  document_leads : (row : LayerRow) (names : List (List ℕ)) (contents : Bool) (restored : Restored)
      → IsPlain row.layer → AreOnce names
      → Leads beside_caches (λ s t. Due names row.layer t × AllTell s.caches) (λ so_far. Open names)
      (restores_document folder row contents restored)
  unfolding restores_document writes_layer
  document_leads row names contents restored plain once =
      let name = document_name row.layer in
      let part : IsTrue (is_part name) = (parts_of_plain row.layer plain).document in
      let like : is_document_like name ≡ true = document_is_like row.layer in
      let Fit : Tree → Type 0 = IsOpen folder names in
      leads_bind beside_caches (λ s t. Due names row.layer t × AllTell s.caches) (λ done. Open names)
      (λ so_far. Open names) _ _
      (leads_in_world (λ caches t. Due names row.layer t × AllTell caches) (λ done caches t. Fit t × AllTell caches) _
      (λ caches. leads_kept itself (AllTell caches) (λ s. Due names row.layer) (λ done s. Fit) _
      (leads_writes (Due names row.layer) Fit cause_of _ _ (λ t fit. may_write folder path name part like t
      fit.0.made fit.1.document fit.1.near) (λ bytes t fit. open_written folder path name part like bytes t names
      once fit.0))))
      (λ written. leads_gives beside_caches (Open names) cause_of _)

  fewer : (name : List ℕ) (names : List (List ℕ)) (t : Tree) → IsOpen folder (name ∷ names) t → IsOpen folder names t
  fewer name names t fit = record { there = fit.there; made = fit.made; free = fit.free.1 }

  skips : {A E : Type 0} (name : List ℕ) (names : List (List ℕ))
      (step : WorldAndCaches → Result A E → WorldAndCaches → Type 0)
      → Leads beside_caches (Open (name ∷ names)) (λ so_far. Open (name ∷ names)) step
      → Leads beside_caches (Open (name ∷ names)) (λ so_far. Open names) step
  skips name names step p = leads_so beside_caches (Open (name ∷ names)) (Open (name ∷ names))
      (λ so_far. Open (name ∷ names)) (λ so_far. Open names) step (λ s t fit. fit)
      (λ so_far s t fit. (fewer name names t fit.0, fit.1)) p

  -- by what was found of a layer
  abbrev ByFound : LayerRow → List (List ℕ) → Found → WorldAndCaches → Tree → Type 0
  ByFound row names answer s t = LaidOr (IsOpen folder (row.layer ∷ names)) (Due names row.layer) answer t
      × AllTell s.caches

  found_leads : (row : LayerRow) (names : List (List ℕ)) (restored : Restored) (answer : Found)
      → AreOnce (row.layer ∷ names)
      → Leads beside_caches (ByFound row names answer) (λ so_far. Open names)
      (restores_found folder row restored answer)
  unfolding restores_found
  found_leads row names restored found.None once = skips row.layer names _
      (leads_yields beside_caches (Open (row.layer ∷ names)) restored)
  found_leads row names restored (found.Damaged asked is bad) once = skips row.layer names _
      (leads_gives beside_caches (Open (row.layer ∷ names)) cause_of _)
  found_leads row names restored found.Laid once = document_leads row names true restored once.0 once.2

  held_leads : (row : LayerRow) (names : List (List ℕ)) → AreOnce (row.layer ∷ names)
      → Leads beside_caches (Open (row.layer ∷ names)) (λ search. ByFound row names search.found)
      (restores_held folder row)
  held_leads row names once =
      let before : List (List ℕ) = row.layer ∷ names in
      leads_told beside_caches (Open before) (λ search. ByFound row names search.found) of_laying_fault _
      (leads_restored (IsOpen folder before) (Due names row.layer) row.digest (joined folder row.layer)
      (λ t fit. stands_above folder row.layer before t path once.0 fit)
      (λ tree t fit. may_lay folder row.layer names tree t once.0 fit)
      (λ t after fit around. open_laid folder row.layer t after once.0 around names once fit))

  contents_leads : (row : LayerRow) (names : List (List ℕ)) (restored : Restored) → AreOnce (row.layer ∷ names)
      → Leads beside_caches (Open (row.layer ∷ names)) (λ so_far. Open names) (restores_contents folder row restored)
  unfolding restores_contents
  contents_leads row names restored once =
      leads_bind beside_caches (Open (row.layer ∷ names)) (λ search. ByFound row names search.found)
      (λ so_far. Open names) _ _ (held_leads row names once)
      (λ search. let Fit : WorldAndCaches → Tree → Type 0 = ByFound row names search.found in
      leads_bind beside_caches Fit (λ counted. Fit) (λ so_far. Open names) _ _
      (leads_gives beside_caches Fit cause_of _)
      (λ counted. found_leads row names counted search.found once))

  part_leads : (name : List ℕ) (names : List (List ℕ)) (source : Option LayerRow) (line : RestoreRow)
      (restored : Restored) → IfSome source (λ row. row.layer ≡ name) → AreOnce (name ∷ names)
      → Leads beside_caches (Open (name ∷ names)) (λ so_far. Open names) (restores_part folder source line restored)
  unfolding restores_part
  part_leads name names None line restored is once = skips name names _
      (leads_yields beside_caches (Open (name ∷ names)) restored)
  part_leads name names (Some row) part.Nothing restored is once = skips name names _
      (leads_yields beside_caches (Open (name ∷ names)) restored)
  part_leads name names (Some row) part.Meta restored is once =
      subst (λ n. Leads beside_caches (Open (n ∷ names)) (λ so_far. Open names)
      (restores_document folder row false restored)) is
      (leads_so beside_caches (λ s t. Due names row.layer t × AllTell s.caches) (Open (row.layer ∷ names))
      (λ so_far. Open names) (λ so_far. Open names) _
      (λ s t fit. ((fewer row.layer names t fit.0, fit.0.free.0.1), fit.1))
      (λ so_far s t fit. fit)
      (document_leads row names false restored (subst IsPlain (sym is) once.0) once.2))
  part_leads name names (Some row) part.Both restored is once =
      subst (λ n. Leads beside_caches (Open (n ∷ names)) (λ so_far. Open names)
      (restores_contents folder row restored)) is
      (contents_leads row names restored (subst (λ n. AreOnce (n ∷ names)) (sym is) once))

  each_leads : (app cache : List LayerRow) (names : List (List ℕ)) (restored : Restored) → AreOnce names
      → Leads beside_caches (Open names) (λ so_far. Open [])
      (for_each (restores_layer folder app cache) names restored)
  unfolding for_each restores_layer
  each_leads app cache [] restored once = leads_yields beside_caches (Open []) restored
  each_leads app cache (name ∷ names) restored once =
      leads_bind beside_caches (Open (name ∷ names)) (λ so_far. Open names) (λ so_far. Open []) _ _
      (part_leads name names _ _ restored (source_named name (row_of name app) (row_of name cache)
      (row_named name app) (row_named name cache)) once)
      (λ so_far. each_leads app cache names so_far once.2)

  layers_leads : (app cache : List LayerRow) (restored : Restored) → AreOnce (layer_names app cache)
      → Leads beside_caches (Open (layer_names app cache)) (λ so_far. Open [])
      (restores_layers folder app cache restored)
  unfolding restores_layers restores_each
  layers_leads app cache restored once =
      leads_bind beside_caches (Open (layer_names app cache)) (λ made. Open (layer_names app cache))
      (λ so_far. Open []) _ _ (leads_gives beside_caches (Open (layer_names app cache)) cause_of _)
      (λ made. each_leads app cache (layer_names app cache) restored once)

  store_leads : (names : List (List ℕ)) (kept : Option StoreRow) → AreOnce names
      → Leads itself (λ s. IsNew folder) (λ done s. IsOpen folder names) (writes_store folder kept)
  unfolding writes_store
  store_leads names None once = leads_so itself (λ s. IsNew folder) (λ s. IsNew folder)
      (λ done s. IsNew folder) (λ done s. IsOpen folder names) _ (λ s t new. new)
      (λ done s t new. open_new folder names t once new) (leads_yields itself (λ s. IsNew folder) tt)
  store_leads names (Some row) once =
      leads_writes (IsNew folder) (IsOpen folder names) cause_of _ _
      (λ t new. may_write folder path (codes "store.toml") refl refl t new.clean.made
      (none_fits _ (new.clean.empty _ refl)) (none_fits _ (new.clean.empty _ refl)))
      (λ bytes t new. open_written folder path (codes "store.toml") refl refl bytes t names once
      (open_new folder names t once new))

-- ---- a buildpack

-- the folder of layers can be made
abbrev Room : List ℕ → Tree → Type 0
Room layers t = IsTrue (can_make_folder t layers)

-- and all caches tell what they hold
abbrev Ready : List ℕ → WorldAndCaches → Tree → Type 0
Ready layers s t = Room layers t × AllTell s.caches

module _ (layers : List ℕ) (short : IsTrue (is_short_path layers)) where
  parts_of_short : (nat_le (length layers) 4096 ≡ true) × (is_path layers ≡ true)
  parts_of_short = and_parts (nat_le (length layers) 4096) (is_path layers) short

  some_layers : 0 < length layers
  some_layers = by layers parts_of_short.1
    where
      by : (path : List ℕ) → is_path path ≡ true → 0 < length path
      by [] is = absurd (cc)
      by (c ∷ cs) is = omega arith

  folder_path : (id : List ℕ) → IsTrue (is_bp_id id) → is_path (joined layers (folder_of id)) ≡ true
  folder_path id is =
      let part : IsTrue (is_part (folder_of id)) = folder_is_part id is in
      let few : length layers ≤ 4096 = leb-true (length layers) 4096 parts_of_short.0 in
      file_is_path layers (folder_of id) parts_of_short.1 part
      (omega (arith, few, length_joined layers (folder_of id), part_within (folder_of id) part))

  prepares_leads : (id : List ℕ) (kept : List StoreRow) (names : List (List ℕ)) → IsTrue (is_bp_id id)
      → AreOnce names → Leads itself (λ s. Room layers) (λ done s. IsOpen (joined layers (folder_of id)) names)
      (prepares_folder (joined layers (folder_of id)) id kept)
  unfolding prepares_folder
  prepares_leads id kept names is once =
      let part : IsTrue (is_part (folder_of id)) = folder_is_part id is in
      let folder : List ℕ = joined layers (folder_of id) in
      leads_bind itself (λ s. Room layers) (λ done s. IsClean folder) (λ done s. IsOpen folder names) _ _
      (leads_removes (Room layers) (IsClean folder) cause_of folder (child_plain layers (folder_of id) part)
      (λ t room. removed layers (folder_of id) t part room))
      (λ removed. leads_bind itself (λ s. IsClean folder) (λ done s. IsNew folder)
      (λ done s. IsOpen folder names) _ _ (leads_makes (IsClean folder) (IsNew folder) cause_of folder
      (λ t clean. clean.made) (λ t clean. made_anew folder t clean))
      (λ made. store_leads folder (folder_path id is) names _ once))

  buildpack_leads : (sources : Sources) (id : List ℕ) (restored : Restored) → IsTrue (is_bp_id id)
      → AllByRecursion IsPlainRow (layers_of sources.previous) → AllByRecursion IsPlainRow sources.rows
      → Leads beside_caches (Ready layers) (λ so_far. Ready layers) (restores_buildpack layers sources id restored)
  unfolding restores_buildpack restores_rows
  buildpack_leads sources id restored is app cache =
      let folder : List ℕ = joined layers (folder_of id) in
      let old : List LayerRow = rows_of id (layers_of sources.previous) in
      let gathered : List LayerRow = rows_of id sources.rows in
      let names : List (List ℕ) = layer_names old gathered in
      let once : AreOnce names = names_once old gathered
      (all_filter IsPlainRow _ (layers_of sources.previous) app) (all_filter IsPlainRow _ sources.rows cache)
      in
      let Fit : WorldAndCaches → Tree → Type 0 = λ s t. IsOpen folder names t × AllTell s.caches in
      let End : WorldAndCaches → Tree → Type 0 = λ s t. IsOpen folder [] t × AllTell s.caches in
      leads_bind beside_caches (Ready layers) (λ done. Fit) (λ so_far. Ready layers) _ _
      (leads_in_world (λ caches t. Room layers t × AllTell caches)
      (λ done caches t. IsOpen folder names t × AllTell caches) _
      (λ caches. leads_kept itself (AllTell caches) (λ s. Room layers) (λ done s. IsOpen folder names) _
      (prepares_leads id _ names is once)))
      (λ prepared. leads_bind beside_caches Fit (λ made. Fit) (λ so_far. Ready layers) _ _
      (leads_gives beside_caches Fit cause_of _)
      (λ made. leads_so beside_caches Fit Fit (λ so_far. End) (λ so_far. Ready layers) _ (λ s t fit. fit)
      (λ so_far s t fit. (make_parent layers (folder_of id) t some_layers fit.0.made, fit.1))
      (layers_leads folder (folder_path id is) old gathered restored once)))

  group_leads : (sources : Sources) (group : List GroupRow) (restored : Restored)
      → AllByRecursion (λ (row : GroupRow). IsTrue (is_bp_id row.key.id)) group
      → AllByRecursion IsPlainRow (layers_of sources.previous) → AllByRecursion IsPlainRow sources.rows
      → Leads beside_caches (Ready layers) (λ so_far. Ready layers) (restores_group layers sources group restored)
  unfolding restores_group
  group_leads sources group restored ids app cache = leads_each beside_caches (Ready layers)
      (λ (row : GroupRow). IsTrue (is_bp_id row.key.id)) _ group restored ids
      (λ row so_far is. buildpack_leads sources row.key.id so_far is app cache)

-- ---- the rows

not_true : (v : Bool) → not v ≡ true → v ≡ false
not_true true h = absurd (cc)
not_true false h = refl

plain_rows : (rows : List LayerRow) → AllByRecursion HasLayerName rows → have_plain_names rows ≡ true
    → AllByRecursion IsPlainRow rows
plain_rows [] named plain = tt
plain_rows (row ∷ rows) named plain = let parts = and_parts (is_plain_row row) (have_plain_names rows) plain
    in ((named.0, not_true (is_document_like row.layer) parts.0), plain_rows rows named.1 parts.1)

previous_read : (store : List ℕ) (name : Option (List ℕ)) (files : Tree) (previous : Option ImageDoc)
    → ((name : List ℕ) → IfOk (image_found store name files)
    (λ image. IsTrue (have_plain_names (layers_of image)))) → previous_in store name files ≡ Ok previous
    → AllByRecursion IsPlainRow (layers_of previous)
previous_read store None files previous plain h = subst
    (λ previous. AllByRecursion IsPlainRow (layers_of previous))
    (ok_is (let none : Option ImageDoc = None in none) previous h) tt
previous_read store (Some name) files previous plain h = let (found, is, some) = from_ok
    (image_found store name files) (some_named name) previous h in by found is some
  where
    by : (found : Option ImageDoc) → image_found store name files ≡ Ok found → some_named name found ≡ Ok previous
        → AllByRecursion IsPlainRow (layers_of previous)
    by None is some = absurd (cc)
    by (Some image) is some =
        let (table, read) = document_read image_table_in (image_path store name) files image
        (with_ok of_read_fault (document_in image_table_in (image_path store name) files) (Some image) is) in
        let names : IsTrue (have_plain_names image.layers) = subst
        (λ (r : Result (Option ImageDoc) RestoreFault). IfOk r
        (λ image. IsTrue (have_plain_names (layers_of image)))) is (plain name) in
        subst (λ previous. AllByRecursion IsPlainRow (layers_of previous)) (ok_is (Some image) previous some)
        (plain_rows image.layers (image_layers table image read) names)

-- what a cache gives
rows_told : (document : List ℕ) → AllByRecursion HasLayerName (unwrap_or (document_rows document) [])
rows_told document = large (nat_lt 1048576 (length document))
  where
    result : (r : Result (List LayerRow) DocFault) → cache_in document ≡ r
        → AllByRecursion HasLayerName (unwrap_or (result_ok r) [])
    result (Ok rows) is = let (table, read) = table_read (layers_at true) document rows is
        in layers_read true table rows read
    result (Err fault) is = tt

    large : (v : Bool) → AllByRecursion HasLayerName
        (unwrap_or (let o : Option (List LayerRow) = cond v None (result_ok (cache_in document)) in o) [])
    large true = tt
    large false = result (cache_in document) refl

held_plain : (held : Held) (told : Option (List LayerRow)) → AllByRecursion IsPlainRow (unwrap_or told [])
    → AllByRecursion IsPlainRow (unwrap_or (option_map (held_rows held) told) [])
held_plain held None plain = tt
held_plain held (Some rows) plain = all_filter IsPlainRow _ rows plain

given_plain : (held : Option Held) (document : Option (List ℕ)) (rows : Option (List LayerRow))
    → tells_plain_names held document ≡ true → IfSome document
    (λ document. IfSome held (λ held. rows ≡ given_by held document))
    → AllByRecursion IsPlainRow (unwrap_or rows [])
given_plain None None rows plain gave = absurd (cc)
given_plain None (Some document) rows plain gave = absurd (cc)
given_plain (Some held) None rows plain gave = absurd (cc)
given_plain (Some held) (Some document) rows plain gave =
    subst (λ rows. AllByRecursion IsPlainRow (unwrap_or rows [])) (sym gave)
    (held_plain held (document_rows document) (plain_rows (unwrap_or (document_rows document) [])
    (rows_told document) plain))

abbrev IsToldPlain : Turn → Type 0
IsToldPlain t = tells_plain_names t.after.held t.after.rows ≡ true

turns_plain : (turns : List Turn) (earlier : List ShelfState)
    → list_all is_plain_shelf (map before_of turns ++ earlier) ≡ true → AllByRecursion TellsSame turns
    → AllByRecursion IsToldPlain turns
turns_plain [] earlier plain same = tt
turns_plain (t ∷ turns) earlier plain same =
    let parts = and_parts (is_plain_shelf t.before) (list_all is_plain_shelf (map before_of turns ++ earlier))
    plain in (
      ap (λ held. tells_plain_names held t.after.rows) same.0.0 ∙ ap (tells_plain_names t.before.held) same.0.1
          ∙ parts.0,
      turns_plain turns earlier parts.1 same.1,
    )

all_given_plain : (turns : List Turn) (given : _) → AllByRecursion IsToldPlain turns → HaveGiven turns given
    → AllByRecursion IsPlainRow (all_rows given)
all_given_plain [] given plain gave = subst (λ given. AllByRecursion IsPlainRow (all_rows given)) (sym gave) tt
all_given_plain (t ∷ turns) [] plain gave = absurd gave
all_given_plain (t ∷ turns) (one ∷ others) plain gave = all_append IsPlainRow _ _
    (given_plain t.after.held t.after.rows one.rows plain.0 gave.0.1)
    (all_given_plain turns others plain.1 gave.1)

first_plain : (before rows : List LayerRow) → AllByRecursion IsPlainRow before → AllByRecursion IsPlainRow rows
    → AllByRecursion IsPlainRow (fold with_row before rows)
first_plain before [] p q = p
first_plain before (row ∷ rows) p q = first_plain (with_row before row) rows
    (by (has_key same_layer layer_key before (layer_key row))) q.1
  where
    by : (v : Bool) → AllByRecursion IsPlainRow (cond v before (before ++ row ∷ []))
    by true = p
    by false = all_append IsPlainRow before (row ∷ []) p (q.0, tt)

gathered_plain : (old : List ShelfState) (places : List ℕ) (gathered : Gathered) (new : List ShelfState)
    (standing : List ℕ) → list_all is_plain_shelf old ≡ true → Gathers old places gathered new standing
    → AllByRecursion IsPlainRow gathered.rows
gathered_plain old places gathered new standing plain h =
    let told : AllByRecursion IsToldPlain h.turns = turns_plain h.turns h.drops.earlier
    (subst (λ shelves. list_all is_plain_shelf shelves ≡ true) h.drops.entry plain) h.same in
    subst (AllByRecursion IsPlainRow) (sym h.rows)
    (first_plain [] (all_rows h.given) tt (all_given_plain (left_of h.turns) h.given
    (all_filter IsToldPlain _ h.turns told) h.gave))

-- and all caches tell what they hold
held_told : (held : Option Held) (document : Option (List ℕ)) → tells_plain_names held document ≡ true
    → IsTrue (is_some held)
held_told None None plain = absurd (cc)
held_told None (Some document) plain = absurd (cc)
held_told (Some held) document plain = refl

shelves_told : (shelves : List ShelfState) → list_all is_plain_shelf shelves ≡ true → AllByRecursion Tells shelves
shelves_told [] plain = tt
shelves_told (shelf ∷ shelves) plain =
    let parts = and_parts (is_plain_shelf shelf) (list_all is_plain_shelf shelves) plain in
    (held_told shelf.held shelf.rows parts.0, shelves_told shelves parts.1)

gathered_told : (old : List ShelfState) (places : List ℕ) (gathered : Gathered) (new : List ShelfState)
    (standing : List ℕ) → list_all is_plain_shelf old ≡ true → Gathers old places gathered new standing
    → AllByRecursion Tells new
gathered_told old places gathered new standing plain h = drops_tell h.turns old new places standing gathered.gone
    h.drops h.same (shelves_told old plain)

-- ---- the command

gathers_leads : (P : Tree → Type 0) → Leads beside_caches
    (λ s t. P t × (list_all is_plain_shelf s.caches.shelves ≡ true))
    (λ gathered s t. (P t × AllTell s.caches) × AllByRecursion IsPlainRow gathered.rows)
    (in_caches (gathers cause_of))
unfolding in_caches gathers
gathers_leads P old new (Ok gathered) h = (
  minds_same _ old.world.files old.world.misused new.world.misused
      (ap (λ (s : Seen). s.misused) h.1),
  known old.world.files new.world.files (ap (λ (s : Seen). s.files) h.1),
)
  where
    known : (o o1 : Option Tree) → o1 ≡ o → Brings (λ t. P t
        × (list_all is_plain_shelf old.caches.shelves ≡ true))
        (λ t. (P t × AllTell new.caches) × AllByRecursion IsPlainRow gathered.rows) o o1
    known None o1 same = tt
    known (Some t) o1 same = λ both. (
      t,
      same,
      (
        (
          both.0,
          gathered_told old.caches.shelves old.caches.standing
              gathered new.caches.shelves new.caches.standing both.1 h.0,
        ),
        gathered_plain old.caches.shelves old.caches.standing
            gathered new.caches.shelves new.caches.standing both.1 h.0,
      ),
    )
gathers_leads P old new (Err fault) h = (
  minds_same _ old.world.files old.world.misused new.world.misused
      (ap (λ (s : Seen). s.misused) h.1),
  tt,
)

module _ (words : RestoreWords) (short : IsTrue (is_short_path words.layers)) where
  abbrev Start : WorldAndCaches → Tree → Type 0
  Start s = FitsRestore words s.caches.shelves

  pub restores_leads : (previous : Option (List ℕ)) (group : List GroupRow) → AllByRecursion HasId group
      → Leads beside_caches Start (λ restored. Ready words.layers)
      (restores words.store previous group words.layers)
  unfolding restores
  restores_leads name group ids =
      let Fit : Tree → Type 0 = Room words.layers in
      let Told : WorldAndCaches → Tree → Type 0 = λ s t. Fit t × (list_all is_plain_shelf s.caches.shelves ≡ true) in
      leads_bind beside_caches Start (λ previous s t. Told s t × AllByRecursion IsPlainRow (layers_of previous))
      (λ restored. Ready words.layers) _ _
      (leads_in_world (λ caches. FitsRestore words caches.shelves)
      (λ previous caches t. (Fit t × (list_all is_plain_shelf caches.shelves ≡ true))
      × AllByRecursion IsPlainRow (layers_of previous)) _
      (λ caches. leads_so itself (λ s. FitsRestore words caches.shelves) (λ s. FitsRestore words caches.shelves)
      (λ previous s t. FitsRestore words caches.shelves t × (previous_in words.store name t ≡ Ok previous))
      (λ previous s t. (Fit t × (list_all is_plain_shelf caches.shelves ≡ true))
      × AllByRecursion IsPlainRow (layers_of previous)) _
      (λ s t fit. fit) (λ previous s t known. (
        (known.0.layers, known.0.caches),
        previous_read words.store name t
            previous known.0.names known.1,
      ))
      (leads_reads (FitsRestore words caches.shelves) cause_of _ _ _ (λ t fit. fit_image name t fit.images))))
      (λ previous. leads_given beside_caches (AllByRecursion IsPlainRow (layers_of previous)) Told
      (λ restored. Ready words.layers) _
      (λ app. leads_bind beside_caches Told
      (λ gathered s t. Ready words.layers s t × AllByRecursion IsPlainRow gathered.rows)
      (λ restored. Ready words.layers) _ _ (gathers_leads Fit)
      (λ gathered. leads_given beside_caches (AllByRecursion IsPlainRow gathered.rows) (Ready words.layers)
      (λ restored. Ready words.layers) _
      (λ cache. leads_bind beside_caches (Ready words.layers) (λ restored. Ready words.layers)
      (λ restored. Ready words.layers) _ _ (leads_gives beside_caches (Ready words.layers) cause_of _)
      (λ restored. group_leads words.layers short (record { previous = previous; rows = gathered.rows }) group
      restored ids app cache)))))
    where
      fit_image : (name : Option (List ℕ)) (t : Tree)
          → ((name : List ℕ) → IsTrue (is_fit_document (image_path words.store name) t))
          → IsTrue (is_fit_image words.store name t)
      fit_image None t fit = refl
      fit_image (Some name) t fit = fit name

  analyzed_leads : (analyzed : Analyzed) (group : List GroupRow) → AllByRecursion HasId group
      → Leads beside_caches Start (λ text. Ready words.layers) (restores_analyzed words analyzed group)
  unfolding restores_analyzed
  analyzed_leads analyzed group ids =
      leads_bind beside_caches Start (λ allowed. Start) (λ text. Ready words.layers) _ _
      (leads_gives beside_caches Start refusal_cause _)
      (λ allowed. leads_bind beside_caches Start (λ restored. Ready words.layers) (λ text. Ready words.layers) _ _
      (leads_told beside_caches Start (λ restored. Ready words.layers) Fault _
      (restores_leads analyzed.previous group ids))
      (λ restored. leads_gives beside_caches (Ready words.layers) refusal_cause _))

  restore_leads : Leads beside_caches Start (λ text. Ready words.layers) (restores_command words)
  unfolding restores_command
  restore_leads =
      leads_bind beside_caches Start (λ analyzed. Start) (λ text. Ready words.layers) _ _
      (leads_told beside_caches Start (λ analyzed. Start) Fault _
      (leads_in_world (λ caches. FitsRestore words caches.shelves)
      (λ analyzed caches. FitsRestore words caches.shelves) _
      (λ caches. leads_so itself (λ s. FitsRestore words caches.shelves) (λ s. FitsRestore words caches.shelves)
      (λ analyzed s t. FitsRestore words caches.shelves t
      × (analyzed_at (analyzed_document words.work) t ≡ Ok analyzed))
      (λ analyzed s. FitsRestore words caches.shelves) _ (λ s t fit. fit) (λ analyzed s t known. known.0)
      (leads_reads (FitsRestore words caches.shelves) cause_of _ _ _ (λ t fit. fit.analyzed)))))
      (λ analyzed. leads_bind beside_caches Start (λ group s t. Start s t × AllByRecursion HasId group)
      (λ text. Ready words.layers) _ _
      (leads_told beside_caches Start (λ group s t. Start s t × AllByRecursion HasId group) Fault _
      (leads_in_world (λ caches. FitsRestore words caches.shelves)
      (λ group caches t. FitsRestore words caches.shelves t × AllByRecursion HasId group) _
      (λ caches. leads_so itself (λ s. FitsRestore words caches.shelves) (λ s. FitsRestore words caches.shelves)
      (λ group s t. FitsRestore words caches.shelves t × (group_at (group_document words.work) t ≡ Ok group))
      (λ group s t. FitsRestore words caches.shelves t × AllByRecursion HasId group) _ (λ s t fit. fit)
      (λ group s t known. (known.0, group_read (group_document words.work) t group known.1))
      (leads_reads (FitsRestore words caches.shelves) cause_of _ _ _ (λ t fit. fit.group)))))
      (λ group. leads_given beside_caches (AllByRecursion HasId group) Start (λ text. Ready words.layers) _
      (λ ids. analyzed_leads analyzed group ids)))

-- where the files and the caches fit, no such call is made
pub restore_minds : (words : RestoreWords) → IsTrue (is_short_path words.layers)
    → (old new : WorldAndCaches) (result : Result (List ℕ) RestoreRefusal) → restores_command words old result new
    → NoMisuse (FitsRestore words old.caches.shelves) old.world new.world
restore_minds words short old new result did = (restore_leads words short old new result did).0
