-- What a group left, gathered layer by layer, can be read again once it is an image's or a cache's: no layer and no row
-- of the store stands twice, since no buildpack of a group does.
use Rattle.std.proofs.Common.{◌≡◌, ◌∙◌, refl, sym, ap, subst, ℕ, Bool, true, false, not, ◌&&◌, ◌||◌, List, [], ◌∷◌}
use Rattle.std.proofs.Common.{◌++◌, map, Option, Some, None, Ok}
use Rattle.std.specs.List.{list_all, list_any}
use Rattle.std.specs.Str.{bytes_eq}
use Rattle.std.proofs.lemmas.Bool.{and_from, and_left, and_parts, and_right, false≢true, not-true, or_from, or_left}
use Rattle.std.proofs.lemmas.Bool.{or_parts, or_right}
use Rattle.std.proofs.lemmas.List.{map-append}
use Rattle.std.proofs.lemmas.List.Folds.{list_all-append, list_any-append}
use Rattle.std.proofs.lemmas.Slice.Eq.{bytes_eq-Decides}
use Rattle.app_slices.specs.Slots.{Slices}
use Rattle.cnb_toml.specs.Distinct.{are_distinct, has_key, is_new}
use Rattle.cnb_toml.specs.DistinctLaws.{bytes_eq-symmetric}
use Rattle.cnb_toml.specs.Label.{is_label}
use Rattle.cnb_toml.specs.Meta.{is_kept}
use Rattle.cnb_toml.specs.Process.{is_process}
use Rattle.image_docs.specs.CacheRows.{is_cache_doc}
use Rattle.image_docs.specs.LayerRow.{are_layers, is_layer_row, layer_key, same_layer}
use Rattle.image_docs.specs.LayerRowLaws.{same_layer-symmetric}
use Rattle.image_docs.specs.StoreRow.{is_kept_row, is_store, store_id}
use Rattle.image_docs.specs.declared.layer_row.LayerRow.{LayerRow}
use Rattle.image_docs.specs.declared.store_row.StoreRow.{StoreRow}
use Rattle.image_docs.proofs.Answered.{longer}
use Rattle.run_docs.specs.Group.{is_group_doc, is_listed, row_id}
use Rattle.run_docs.specs.Launch.{is_launch_toml}
use Rattle.run_docs.specs.declared.group.GroupRow.{GroupRow}
use Rattle.run_docs.specs.declared.launch.LaunchToml.{LaunchToml}
use Rattle.run_docs.specs.declared.store.StoreToml.{StoreToml}
use Rattle.steps.specs.Each.{for_each}
use Rattle.steps.specs.Outside.{Seen}
use Rattle.steps.specs.Steps.{◌>>=◌, gives, yields}
use Rattle.cnb_layers.specs.Buildpack.{exports_buildpack, exports_documents, exports_group, exports_layers}
use Rattle.cnb_layers.specs.Buildpack.{exports_store_document, with_documents, with_store_row}
use Rattle.cnb_layers.specs.Gathering.{exports_layer, layer_of, nothing_gathered, with_image, with_kept, with_row}
use Rattle.cnb_layers.specs.declared.frame.ExportFrame.{ExportFrame}
use Rattle.cnb_layers.specs.declared.gathered.Gathered.{Gathered}
use Rattle.cnb_layers.specs.declared.gathered.ImageLayer.{ImageLayer}
use Rattle.cnb_layers.specs.declared.gathering.Kept.{Kept}
use Rattle.cnb_layers.proofs.DistinctLaws.{same_name}
use Rattle.cnb_layers.proofs.LeftLaws.{IsCached, Keeps, is_store_left, launch_left, layer_exported, names_left}
use Rattle.cnb_layers.proofs.LeftLaws.{store_left}

-- ---- keys that no row has

other_key : {A : Type 0} (key_of : A → List ℕ) (rows : List A) (a b : List ℕ)
    → has_key bytes_eq key_of rows a ≡ false → has_key bytes_eq key_of rows b ≡ true → bytes_eq a b ≡ false
other_key key_of rows a b none listed = by (bytes_eq a b) refl
  where
    by : (same : Bool) → bytes_eq a b ≡ same → same ≡ false
    by false e = refl
    by true e = absurd (false≢true (sym none ∙ ap (has_key bytes_eq key_of rows) ((bytes_eq-Decides a b).0 e) ∙ listed))

itself : (a : List ℕ) (later : Bool) → (bytes_eq a a || later) ≡ true
itself a later = or_left (bytes_eq a a) later ((bytes_eq-Decides a a).1 refl)

-- whether one of the layers is this buildpack's
abbrev pub has_owner : List LayerRow → List ℕ → Bool
has_owner rows id = list_any (λ (row : LayerRow). bytes_eq row.id id) rows

-- whether this layer of this buildpack is one of them
abbrev has_layer : List LayerRow → List ℕ → List ℕ → Bool
has_layer rows id name = has_key same_layer layer_key rows (record { id = id; layer = name })

no_layers : (rows : List LayerRow) (id name : List ℕ) → has_owner rows id ≡ false → has_layer rows id name ≡ false
no_layers [] id name h = refl
no_layers (row ∷ rows) id name h =
    let parts = or_parts (bytes_eq row.id id) (has_owner rows id) h in
    or_from (same_layer (layer_key row) (record { id = id; layer = name })) (has_layer rows id name)
    (and_left (bytes_eq row.id id) (bytes_eq row.layer name) parts.0) (no_layers rows id name parts.1)

-- ---- the layers of one buildpack, of an image or of a cache

-- rows that can be read, of which none has a name that is still to come, and none is of a buildpack that is still to
-- come
pub record AreApart (cached : Bool) (id : List ℕ) (names : List (List ℕ)) (rest : List GroupRow)
    (rows : List LayerRow) : Type 0 where
  pub sound : are_layers cached rows ≡ true
  pub fresh : (name : List ℕ) → has_key bytes_eq same_name names name ≡ true → has_layer rows id name ≡ false
  pub others : (other : List ℕ) → is_listed rest other ≡ true → has_owner rows other ≡ false

module _ (id : List ℕ) (rest : List GroupRow)
    (apart : (other : List ℕ) → is_listed rest other ≡ true → bytes_eq id other ≡ false) where
  fewer : (cached : Bool) (name : List ℕ) (names : List (List ℕ)) (rows : List LayerRow)
      → AreApart cached id (name ∷ names) rest rows → AreApart cached id names rest rows
  fewer cached name names rows h = record {
    sound = h.sound;
    fresh = λ other listed. h.fresh other
        (or_right (bytes_eq name other) (has_key bytes_eq same_name names other) listed);
    others = h.others;
  }

  module _ (name : List ℕ) (names : List (List ℕ)) (new : has_key bytes_eq same_name names name ≡ false) where
    with_one : (cached : Bool) (rows : List LayerRow) (row : LayerRow)
        → AreApart cached id (name ∷ names) rest rows → row.id ≡ id → row.layer ≡ name
        → is_layer_row cached row ≡ true → AreApart cached id names rest (rows ++ row ∷ [])
    with_one cached rows row h e f kept =
        let none : has_key same_layer layer_key rows (layer_key row) ≡ false =
        ap (λ i. has_layer rows i row.layer) e ∙ ap (has_layer rows id) f
        ∙ h.fresh name (itself name (has_key bytes_eq same_name names name)) in
        record {
          sound = longer same_layer layer_key same_layer-symmetric (is_layer_row cached) rows row h.sound
              (and_from (is_layer_row cached row) (is_new same_layer layer_key rows row) kept (ap not none));
          fresh = λ other listed.
              list_any-append (λ (r : LayerRow). same_layer (layer_key r) (record { id = id; layer = other }))
              rows (row ∷ [])
              ∙ or_from (has_layer rows id other) (same_layer (layer_key row) (record { id = id; layer = other })
              || false)
              (h.fresh other (or_right (bytes_eq name other) (has_key bytes_eq same_name names other) listed))
              (or_from (same_layer (layer_key row) (record { id = id; layer = other })) false
              (and_right (bytes_eq row.id id) (bytes_eq row.layer other)
              (ap (λ l. bytes_eq l other) f ∙ other_key same_name names name other new listed)) refl);
          others = λ other listed.
              list_any-append (λ (r : LayerRow). bytes_eq r.id other) rows (row ∷ [])
              ∙ or_from (has_owner rows other) (bytes_eq row.id other || false) (h.others other listed)
              (or_from (bytes_eq row.id other) false (ap (λ i. bytes_eq i other) e ∙ apart other listed) refl);
        }

    with_reused : (layers : List ImageLayer) (row : LayerRow) (reused : Option Bool)
        → AreApart false id (name ∷ names) rest (map layer_of layers) → row.id ≡ id → row.layer ≡ name
        → is_kept row.meta ≡ true
        → AreApart false id names rest (map layer_of (with_image layers row reused))
    with_reused layers row None h e f kept = fewer false name names (map layer_of layers) h
    with_reused layers row (Some reused) h e f kept =
        subst (AreApart false id names rest) (sym (map-append layer_of layers
        (record { row = row; reused = reused } ∷ []))) (with_one false (map layer_of layers) row h e f kept)

    with_cached : (rows : List LayerRow) (row : LayerRow) (goes : Bool)
        → AreApart true id (name ∷ names) rest rows → row.id ≡ id → row.layer ≡ name → IsCached row goes
        → is_kept row.meta ≡ true
        → AreApart true id names rest (with_row rows row goes)
    with_cached rows row false h e f cached kept = fewer true name names rows h
    with_cached rows row true h e f cached kept =
        with_one true rows row h e f (and_from (not (true && not row.flags.cache)) (is_kept row.meta)
        (ap (λ cache. not (true && not cache)) (cached refl)) kept)

    image_after : (gathered : Gathered) (kept : Option Kept)
        → AreApart false id (name ∷ names) rest (map layer_of gathered.layers) → Keeps id name kept
        → AreApart false id names rest (map layer_of (with_kept gathered kept).layers)
    image_after gathered None h k = fewer false name names (map layer_of gathered.layers) h
    image_after gathered (Some kept) h k = with_reused gathered.layers kept.row kept.reused h k.of_buildpack
        k.of_layer k.meta

    cached_after : (gathered : Gathered) (kept : Option Kept)
        → AreApart true id (name ∷ names) rest gathered.cached → Keeps id name kept
        → AreApart true id names rest (with_kept gathered kept).cached
    cached_after gathered None h k = fewer true name names gathered.cached h
    cached_after gathered (Some kept) h k = with_cached gathered.cached kept.row kept.cached h k.of_buildpack
        k.of_layer k.cached k.meta

  -- only the layers are others
  pub record After (start all : Gathered) (names : List (List ℕ)) : Type 0 where
    pub labels : all.labels ≡ start.labels
    pub processes : all.processes ≡ start.processes
    pub store : all.store_rows ≡ start.store_rows
    pub layers : AreApart false id names rest (map layer_of all.layers)
    pub cached : AreApart true id names rest all.cached

  kept_after : (start gathered : Gathered) (kept : Option Kept) (names : List (List ℕ))
      → gathered.labels ≡ start.labels → gathered.processes ≡ start.processes
      → gathered.store_rows ≡ start.store_rows
      → AreApart false id names rest (map layer_of (with_kept gathered kept).layers)
      → AreApart true id names rest (with_kept gathered kept).cached
      → After start (with_kept gathered kept) names
  kept_after start gathered None names a b c d e = record
      { labels = a; processes = b; store = c; layers = d; cached = e }
  kept_after start gathered (Some kept) names a b c d e = record
      { labels = a; processes = b; store = c; layers = d; cached = e }

  layers_after : (store : List ℕ) (previous : List LayerRow) (folder : List ℕ) (names : List (List ℕ))
      (start gathered all : Gathered) (old new : Seen) → are_distinct bytes_eq same_name names ≡ true
      → After start gathered names → for_each (exports_layer store previous id folder) names gathered old
      (Ok all) new → After start all []
  unfolding for_each ◌>>=◌ yields
  layers_after store previous folder [] start gathered all old new distinct h (is, same) = subst
      (λ g. After start g []) (sym is) h
  layers_after store previous folder (name ∷ names) start gathered all old new distinct h (more, mid, one, later) =
      let parts = and_parts (not (has_key bytes_eq same_name names name))
      (are_distinct bytes_eq same_name names) distinct in
      let fresh = not-true (has_key bytes_eq same_name names name) parts.0 in
      let (kept, k, is) = layer_exported store previous id folder name gathered more old mid one in
      let after : After start (with_kept gathered kept) names = kept_after start gathered kept names h.labels
      h.processes h.store (image_after name names fresh gathered kept h.layers k)
      (cached_after name names fresh gathered kept h.cached k) in
      layers_after store previous folder names start more all mid new parts.1
      (subst (λ g. After start g names) (sym is) after) later

-- ---- the documents of one buildpack

-- what was gathered can be read, and none of it is of a buildpack that is still to come
pub record Gathers (rest : List GroupRow) (gathered : Gathered) : Type 0 where
  pub labels : list_all is_label gathered.labels ≡ true
  pub processes : list_all is_process gathered.processes ≡ true
  pub store : is_store gathered.store_rows ≡ true
  pub layers : are_layers false (map layer_of gathered.layers) ≡ true
  pub cached : is_cache_doc gathered.cached ≡ true
  pub stores : (other : List ℕ) → is_listed rest other ≡ true
      → has_key bytes_eq store_id gathered.store_rows other ≡ false
  pub owners : (other : List ℕ) → is_listed rest other ≡ true → has_owner (map layer_of gathered.layers) other ≡ false
  pub cached_owners : (other : List ℕ) → is_listed rest other ≡ true → has_owner gathered.cached other ≡ false

module _ (row : GroupRow) (rest : List GroupRow) (new : is_listed rest row.key.id ≡ false) where
  apart_from : (other : List ℕ) → is_listed rest other ≡ true → bytes_eq row.key.id other ≡ false
  apart_from other listed = other_key row_id rest row.key.id other new listed

  later_listed : (other : List ℕ) → is_listed rest other ≡ true → is_listed (row ∷ rest) other ≡ true
  later_listed other listed = or_right (bytes_eq row.key.id other) (is_listed rest other) listed

  store_sound : (rows : List StoreRow) (store : Option StoreToml) → is_store rows ≡ true
      → has_key bytes_eq store_id rows row.key.id ≡ false → is_store_left store ≡ true
      → is_store (with_store_row rows row.key.id store) ≡ true
  store_sound rows None h fresh left = h
  store_sound rows (Some store) h fresh left =
      longer bytes_eq store_id bytes_eq-symmetric is_kept_row rows (record { id = row.key.id; meta = store.meta }) h
      (and_from (is_kept store.meta) (not (has_key bytes_eq store_id rows row.key.id)) left (ap not fresh))

  store_apart : (rows : List StoreRow) (store : Option StoreToml) (other : List ℕ)
      → has_key bytes_eq store_id rows other ≡ false → bytes_eq row.key.id other ≡ false
      → has_key bytes_eq store_id (with_store_row rows row.key.id store) other ≡ false
  store_apart rows None other h apart = h
  store_apart rows (Some store) other h apart =
      list_any-append (λ (r : StoreRow). bytes_eq (store_id r) other) rows
      (record { id = row.key.id; meta = store.meta } ∷ [])
      ∙ or_from (has_key bytes_eq store_id rows other) (bytes_eq row.key.id other || false) h
      (or_from (bytes_eq row.key.id other) false apart refl)

  documents_gather : (gathered : Gathered) (launch : LaunchToml) (slices : Slices) (store : Option StoreToml)
      → Gathers (row ∷ rest) gathered → is_launch_toml launch ≡ true → is_store_left store ≡ true
      → Gathers rest (with_documents gathered row.key.id launch slices store)
  documents_gather gathered launch slices store h is-launch left =
      let parts = and_parts (list_all is_label launch.labels) (list_all is_process launch.processes) is-launch in
      record {
        labels = list_all-append is_label gathered.labels launch.labels
            ∙ and_from (list_all is_label gathered.labels) (list_all is_label launch.labels) h.labels parts.0;
        processes = list_all-append is_process gathered.processes launch.processes
            ∙ and_from (list_all is_process gathered.processes) (list_all is_process launch.processes) h.processes
            parts.1;
        store = store_sound gathered.store_rows store h.store
            (h.stores row.key.id (itself row.key.id (is_listed rest row.key.id))) left;
        layers = h.layers;
        cached = h.cached;
        stores = λ other listed. store_apart gathered.store_rows store other
            (h.stores other (later_listed other listed)) (apart_from other listed);
        owners = λ other listed. h.owners other (later_listed other listed);
        cached_owners = λ other listed. h.cached_owners other (later_listed other listed);
      }

  layers_gather : (start all : Gathered) → Gathers rest start → After row.key.id rest apart_from start all []
      → Gathers rest all
  layers_gather start all h after = record {
    labels = ap (list_all is_label) after.labels ∙ h.labels;
    processes = ap (list_all is_process) after.processes ∙ h.processes;
    store = ap is_store after.store ∙ h.store;
    layers = after.layers.sound;
    cached = after.cached.sound;
    stores = λ other listed. ap (λ rows. has_key bytes_eq store_id rows other) after.store ∙ h.stores other listed;
    owners = after.layers.others;
    cached_owners = after.cached.others;
  }

  start_after : (gathered documents : Gathered) (names : List (List ℕ)) → documents.layers ≡ gathered.layers
      → documents.cached ≡ gathered.cached → Gathers (row ∷ rest) gathered → Gathers rest documents
      → After row.key.id rest apart_from documents documents names
  start_after gathered documents names same same_cached before h = record {
    labels = refl;
    processes = refl;
    store = refl;
    layers = record {
      sound = h.layers;
      fresh = λ name listed. no_layers (map layer_of documents.layers) row.key.id name
          (ap (λ layers. has_owner (map layer_of layers) row.key.id) same
          ∙ before.owners row.key.id (itself row.key.id (is_listed rest row.key.id)));
      others = h.owners;
    };
    cached = record {
      sound = h.cached;
      fresh = λ name listed. no_layers documents.cached row.key.id name
          (ap (λ rows. has_owner rows row.key.id) same_cached ∙ before.cached_owners row.key.id
          (itself row.key.id (is_listed rest row.key.id)));
      others = h.cached_owners;
    };
  }

  buildpack_gathers : (frame : ExportFrame) (previous : List LayerRow) (gathered all : Gathered) (old new : Seen)
      → Gathers (row ∷ rest) gathered → exports_buildpack frame previous row gathered old (Ok all) new
      → Gathers rest all
  unfolding exports_buildpack exports_documents exports_store_document exports_layers ◌>>=◌ gives
  buildpack_gathers frame previous gathered all old new h (
    folder,
    m1,
    at,
    (
      documents,
      m2,
      (launch, m3, rl, (slices, m4, rp, (store, m5, rs, (same, is, cause)))),
      (names, m6, listed, layers),
    ),
  ) =
      let e : with_documents gathered row.key.id launch slices store ≡ documents = cc in
      let read : Gathers rest documents = subst (Gathers rest) e
      (documents_gather gathered launch slices store h (launch_left folder row.key.id m1 m3 launch rl)
      (store_left folder m4 m5 store rs)) in
      let start : After row.key.id rest apart_from documents documents names = start_after gathered documents
      names (ap (λ (g : Gathered). g.layers) (sym e)) (ap (λ (g : Gathered). g.cached) (sym e)) h read in
      layers_gather documents all read
      (layers_after row.key.id rest apart_from frame.store previous folder names documents documents all m6 new
      (names_left folder m2 m6 names listed) start layers)

-- ---- a group

each_gathers : (frame : ExportFrame) (previous : List LayerRow) (group : List GroupRow) (gathered all : Gathered)
    (old new : Seen) → is_group_doc group ≡ true → Gathers group gathered
    → for_each (exports_buildpack frame previous) group gathered old (Ok all) new → Gathers [] all
unfolding for_each ◌>>=◌ yields
each_gathers frame previous [] gathered all old new distinct h (is, same) = subst (Gathers []) (sym is) h
each_gathers frame previous (row ∷ rest) gathered all old new distinct h (more, mid, one, later) =
    let parts = and_parts (not (is_listed rest row.key.id)) (is_group_doc rest) distinct in
    each_gathers frame previous rest more all mid new parts.1
    (buildpack_gathers row rest (not-true (is_listed rest row.key.id) parts.0) frame previous gathered more old
    mid h one) later

pub group_gathers : (frame : ExportFrame) (previous : List LayerRow) (group : List GroupRow) (all : Gathered)
    (old new : Seen) → is_group_doc group ≡ true → exports_group frame previous group old (Ok all) new
    → Gathers [] all
group_gathers frame previous group all old new distinct h =
    each_gathers frame previous group nothing_gathered all old new distinct
    (record {
      labels = refl;
      processes = refl;
      store = refl;
      layers = refl;
      cached = refl;
      stores = λ other
          listed. refl;
      owners = λ other listed. refl;
      cached_owners = λ other listed. refl;
    }) h
