-- An image, or a run image, that was read can be read again from what is written of it.
use Rattle.std.proofs.Common.{◌≡◌, refl, ap, ℕ, ℤ, Bool, true, false, not, ◌&&◌, List, [], ◌∷◌, codes, map, Option}
use Rattle.std.proofs.Common.{Some, None, Result, Ok, Err}
use Rattle.std.specs.Prelude.{if◌then◌else◌}
use Rattle.std.specs.List.{list_all}
use Rattle.std.specs.Str.{bytes_eq}
use Rattle.std.proofs.lemmas.Bool.{and_from, and_parts}
use Rattle.toml.specs.Data.{Data, Members, as_str}
use Rattle.cnb_world.specs.Path.{is_short_path}
use Rattle.cnb_world.specs.declared.env.Variable.{Variable}
use Rattle.cnb_toml.specs.declared.fault.DocFault.{DocFault}
use Rattle.cnb_toml.specs.declared.fault.DocFault.TheVariants.{Wrong}
use Rattle.cnb_toml.specs.declared.label.Label.{Label}
use Rattle.cnb_toml.specs.declared.meta.Meta.{Meta}
use Rattle.cnb_toml.specs.declared.names.Key.{Key}
use Rattle.cnb_toml.specs.declared.process.Process.{Process}
use Rattle.cnb_toml.specs.Distinct.{has_key}
use Rattle.cnb_toml.specs.DistinctLaws.{bytes_eq-symmetric}
use Rattle.cnb_toml.specs.Fields.{filled_list_at, list_at, optional_at, required_at, some_of, truth_at, value_or}
use Rattle.cnb_toml.specs.Form.{list_of, name_of, or_wrong, table_of, text_of, filled_text_of}
use Rattle.cnb_toml.specs.Keys.{key_in}
use Rattle.cnb_toml.specs.Label.{is_label, label_in}
use Rattle.cnb_toml.specs.Meta.{is_kept, metadata_in}
use Rattle.cnb_toml.specs.Names.{is_bp_id, is_image_name, is_layer_name, is_process_type, is_target_name}
use Rattle.cnb_toml.specs.Process.{is_process, is_working_dir, process_in}
use Rattle.cnb_toml.specs.Reading.{◌>>=◌}
use Rattle.cnb_toml.specs.Rows.{rows_of}
use Rattle.cnb_toml.specs.Written.{is_filled}
use Rattle.cnb_toml.proofs.Kept.{metadata_kept}
use Rattle.image_docs.specs.declared.base.Base.{Base}
use Rattle.image_docs.specs.declared.image.ImageDoc.{ImageDoc}
use Rattle.image_docs.specs.declared.image.Provided.{Provided}
use Rattle.image_docs.specs.declared.launch_doc.LaunchDoc.{LaunchDoc}
use Rattle.image_docs.specs.declared.layer_row.LayerRow.{LayerRow}
use Rattle.image_docs.specs.declared.old_row.OldRow.{OldRow}
use Rattle.image_docs.specs.declared.row.Role.{Role}
use Rattle.image_docs.specs.declared.row.Role.TheVariants as held
use Rattle.image_docs.specs.declared.row.Row.{Row}
use Rattle.image_docs.specs.declared.store_row.StoreRow.{StoreRow}
use Rattle.image_docs.specs.Base.{base_in, is_base}
use Rattle.image_docs.specs.By.{by_in, by_of, is_by}
use Rattle.image_docs.specs.ByLaws.{plain_is_plain, run_by_read}
use Rattle.image_docs.specs.DigestText.{digest_of}
use Rattle.image_docs.specs.EnvRows.{env_at, env_in, env_of, is_env, variable_in}
use Rattle.image_docs.specs.Image.{image_table_in, is_image_doc, is_one, provided_in, rows_of_version, version_of}
use Rattle.image_docs.specs.LaunchDoc.{is_launch_doc, launch_doc_table_in, process_kind, process_row_in}
use Rattle.image_docs.specs.LayerRow.{are_layers, cache_flag, is_layer_row, layer_in, layer_key, layer_row_in}
use Rattle.image_docs.specs.LayerRow.{layers_at, same_layer}
use Rattle.image_docs.specs.LayerRowLaws.{same_layer-symmetric}
use Rattle.image_docs.specs.OldRow.{migrated, old_by, old_row_in, old_rows_at}
use Rattle.image_docs.specs.Row.{are_ordered, are_rows, is_row, ordered_rows, role_of, row_in, rows_at}
use Rattle.image_docs.specs.RunImage.{is_run_doc, table_in}
use Rattle.image_docs.specs.StoreRow.{is_kept_row, is_store, store_id, store_row_in}
use Rattle.image_docs.proofs.Answered.{Holds, and_then, at_list, at_or, at_required, follows, holds_by, in_distinct_row}
use Rattle.image_docs.proofs.Answered.{in_filled, in_filled_text, in_name, in_rows, in_table, tested}

-- ---- the parts of an image

-- a note of a run image that was read: its name is one
abbrev is_named_base : Base → Bool
is_named_base base = is_image_name base.name && is_base base

base_made : (name top os arch : Result (List ℕ) DocFault) → Holds is_image_name name → Holds is_target_name os
    → Holds is_target_name arch
    → Holds is_named_base (name >>= (λ n. top >>= (λ t. os >>=
    (λ o. arch >>= (λ a. Ok (record { name = n; top = t; os = o; arch = a }))))))
base_made (Err fault) top os arch g h k = tt
base_made (Ok n) (Err fault) os arch g h k = tt
base_made (Ok n) (Ok t) (Err fault) arch g h k = tt
base_made (Ok n) (Ok t) (Ok o) (Err fault) g h k = tt
base_made (Ok n) (Ok t) (Ok o) (Ok a) g h k = and_from (is_image_name n) (is_target_name o && is_target_name a) g
    (and_from (is_target_name o) (is_target_name a) h k)

base_holds : (table : Members) → Holds is_named_base (base_in table)
base_holds table =
    base_made (required_at (name_of is_image_name) (codes "name") table)
    (required_at digest_of (codes "top") table) (required_at (name_of is_target_name) (codes "os") table)
    (required_at (name_of is_target_name) (codes "arch") table)
    (at_required (name_of is_image_name) is_image_name (in_name is_image_name) (codes "name") table)
    (at_required (name_of is_target_name) is_target_name (in_name is_target_name) (codes "os") table)
    (at_required (name_of is_target_name) is_target_name (in_name is_target_name) (codes "arch") table)

row_made : (role : Result Role DocFault) (place digest by : Result (List ℕ) DocFault) → Holds is_short_path place
    → Holds is_by by
    → Holds is_row (role >>= (λ r. place >>= (λ p. digest >>=
    (λ d. by >>= (λ b. Ok (record { role = r; place = p; digest = d; by = b }))))))
row_made (Err fault) place digest by h k = tt
row_made (Ok r) (Err fault) digest by h k = tt
row_made (Ok r) (Ok p) (Err fault) by h k = tt
row_made (Ok r) (Ok p) (Ok d) (Err fault) h k = tt
row_made (Ok r) (Ok p) (Ok d) (Ok b) h k = and_from (is_short_path p) (is_by b) h k

by_holds : (value : Data) → Holds is_by (by_of value)
by_holds value = by (as_str value)
  where
    by : (o : Option (List ℕ)) → Holds is_by (or_wrong o >>= by_in)
    by (Some text) = tested is_by text (Wrong [])
    by None = tt

row_holds : (table : Members) → Holds is_row (row_in table)
row_holds table =
    row_made (required_at role_of (codes "role") table)
    (required_at (name_of is_short_path) (codes "place") table) (required_at digest_of (codes "digest") table)
    (required_at by_of (codes "by") table)
    (at_required (name_of is_short_path) is_short_path (in_name is_short_path) (codes "place") table)
    (at_required by_of is_by by_holds (codes "by") table)

ordered_hold : (rows : List Row) (ordered : Bool) → are_ordered rows ≡ ordered → list_all is_row rows ≡ true
    → Holds are_rows (if ordered then Ok rows else Err (Wrong (codes "rows")))
ordered_hold rows true e each = and_from (list_all is_row rows) (are_ordered rows) each e
ordered_hold rows false e each = tt

rows_hold : (table : Members) → Holds are_rows (rows_at table)
rows_hold table =
    and_then (list_all is_row) are_rows (list_at (table_of row_in) (codes "rows") table) ordered_rows
    (at_list (table_of row_in) is_row (codes "rows") table (in_table row_in is_row row_holds))
    (λ rows each. ordered_hold rows (are_ordered rows) refl each)

-- ---- the rows of version 1

abbrev is_old_row : OldRow → Bool
is_old_row old = is_short_path old.place

old_row_made : (role : Result Role DocFault) (place digest : Result (List ℕ) DocFault) → Holds is_short_path place
    → Holds is_old_row (role >>= (λ r. place >>= (λ p. digest
    >>= (λ d. Ok (record { role = r; place = p; digest = d })))))
old_row_made (Err fault) place digest h = tt
old_row_made (Ok r) (Err fault) digest h = tt
old_row_made (Ok r) (Ok p) (Err fault) h = tt
old_row_made (Ok r) (Ok p) (Ok d) h = h

old_row_holds : (table : Members) → Holds is_old_row (old_row_in table)
old_row_holds table =
    old_row_made (required_at role_of (codes "role") table)
    (required_at (name_of is_short_path) (codes "place") table) (required_at digest_of (codes "digest") table)
    (at_required (name_of is_short_path) is_short_path (in_name is_short_path) (codes "place") table)

old_by_holds : (base : List ℕ) (role : Role) (place : List ℕ) → is_image_name base ≡ true
    → is_by (old_by base role place) ≡ true
old_by_holds base held.Run place named = run_by_read base named
old_by_holds base held.Layer place named = plain_is_plain place
old_by_holds base held.App place named = plain_is_plain place
old_by_holds base held.Launcher place named = plain_is_plain place
old_by_holds base held.Process place named = plain_is_plain place

migrated_hold : (base : List ℕ) (rows : List OldRow) → is_image_name base ≡ true → list_all is_old_row rows ≡ true
    → list_all is_row (map (migrated base) rows) ≡ true
migrated_hold base [] named each = refl
migrated_hold base (old ∷ rows) named each =
    let (first, rest) = and_parts (is_old_row old) (list_all is_old_row rows) each in
    and_from (is_row (migrated base old)) (list_all is_row (map (migrated base) rows))
    (and_from (is_short_path old.place) (is_by (old_by base old.role old.place)) first
    (old_by_holds base old.role old.place named)) (migrated_hold base rows named rest)

old_rows_hold : (base : List ℕ) (table : Members) → is_image_name base ≡ true → Holds are_rows (old_rows_at base table)
old_rows_hold base table named =
    and_then (list_all is_old_row) are_rows (list_at (table_of old_row_in) (codes "rows") table)
    (λ rows. ordered_rows (map (migrated base) rows))
    (at_list (table_of old_row_in) is_old_row (codes "rows") table (in_table old_row_in is_old_row old_row_holds))
    (λ rows each. ordered_hold (map (migrated base) rows) (are_ordered (map (migrated base) rows)) refl
    (migrated_hold base rows named each))

version_rows_hold : (version : ℤ) (base : List ℕ) (table : Members) → is_image_name base ≡ true
    → Holds are_rows (rows_of_version version base table)
version_rows_hold version base table named = by (is_one version)
  where
    by : (old : Bool) → Holds are_rows (if old then old_rows_at base table else rows_at table)
    by true = old_rows_hold base table named
    by false = rows_hold table

-- ---- the environment, and what buildpacks gave

env_holds : (value : Data) → Holds is_env (env_of value)
env_holds value = by (list_of (table_of variable_in) value)
  where
    by : (r : Result (List Variable) DocFault) → Holds is_env (r >>= env_in)
    by (Ok variables) = tested is_env variables (Wrong [])
    by (Err fault) = tt

env_at_holds : (table : Members) → Holds is_env (env_at table)
env_at_holds table = at_or env_of is_env env_holds [] (codes "env") table refl

label_made : (key value : Result (List ℕ) DocFault) → Holds is_filled key
    → Holds is_label (key >>= (λ k. value >>= (λ v. Ok (record { key = k; value = v }))))
label_made (Err fault) value h = tt
label_made (Ok k) (Err fault) h = tt
label_made (Ok k) (Ok v) h = h

pub label_holds : (table : Members) → Holds is_label (label_in table)
label_holds table =
    label_made (required_at filled_text_of (codes "key") table) (required_at text_of (codes "value") table)
    (at_required filled_text_of is_filled in_filled_text (codes "key") table)

process_made : (kind : Result (List ℕ) DocFault) (command args : Result (List (List ℕ)) DocFault)
    (default : Result Bool DocFault) (dir : Result (Option (List ℕ)) DocFault) → Holds is_filled command
    → Holds is_working_dir dir
    → Holds is_process (kind >>= (λ k. command >>= (λ c. args
    >>= (λ a. default >>= (λ d. dir >>= (λ w. Ok (record
    { kind = k; command = c; args = a; default = d; dir = w })))))))
process_made (Err fault) command args default dir h k = tt
process_made (Ok kind) (Err fault) args default dir h k = tt
process_made (Ok kind) (Ok c) (Err fault) default dir h k = tt
process_made (Ok kind) (Ok c) (Ok a) (Err fault) dir h k = tt
process_made (Ok kind) (Ok c) (Ok a) (Ok d) (Err fault) h k = tt
process_made (Ok kind) (Ok c) (Ok a) (Ok d) (Ok w) h k = and_from (is_filled c) (is_working_dir w) h k

dir_holds : (value : Data) → Holds is_working_dir (some_of (name_of is_short_path) value)
dir_holds value = and_then is_short_path is_working_dir (name_of is_short_path value) (λ read. Ok (Some read))
    (in_name is_short_path value) (λ dir h. h)

pub process_holds : (table : Members) → Holds is_process (process_in table)
process_holds table =
    process_made (required_at (name_of is_process_type) (codes "type") table)
    (filled_list_at text_of (codes "command") table) (list_at text_of (codes "args") table)
    (truth_at (codes "default") table) (optional_at (name_of is_short_path) (codes "working-dir") table)
    (in_filled (codes "command") (list_at text_of (codes "command") table))
    (at_or (some_of (name_of is_short_path)) is_working_dir dir_holds None (codes "working-dir") table refl)

launch_made : (buildpacks : Result (List Key) DocFault) (processes : Result (List Process) DocFault)
    (default : Result (Option (List ℕ)) DocFault)
    → Holds (λ all. is_launch_doc (record { buildpacks = []; processes = all; default = None })) processes
    → Holds is_launch_doc (buildpacks >>= (λ b. processes >>=
    (λ p. default >>= (λ d. Ok (record { buildpacks = b; processes = p; default = d })))))
launch_made (Err fault) processes default h = tt
launch_made (Ok b) (Err fault) default h = tt
launch_made (Ok b) (Ok p) (Err fault) h = tt
launch_made (Ok b) (Ok p) (Ok d) h = h

pub launch_holds : (table : Members) → Holds is_launch_doc (launch_doc_table_in table)
launch_holds table =
    launch_made (list_at (table_of key_in) (codes "buildpacks") table)
    (value_or [] (rows_of process_row_in) (codes "processes") table)
    (optional_at (name_of is_process_type) (codes "default") table)
    (at_or (rows_of process_row_in) (λ all. is_launch_doc (record { buildpacks = []; processes = all; default = None }))
    (in_rows bytes_eq process_kind bytes_eq-symmetric process_row_in is_process
    (in_distinct_row bytes_eq process_kind process_in is_process process_holds)) []
    (codes "processes") table refl)

pub meta_holds : (table : Members) → Holds is_kept (metadata_in table)
meta_holds table = holds_by is_kept (metadata_in table) (metadata_kept table)

layer_made : (id layer : Result (List ℕ) DocFault) (launch build cache : Result Bool DocFault)
    (digest : Result (List ℕ) DocFault) (meta : Result Meta DocFault) → Holds is_kept meta
    → Holds (is_layer_row false) (id >>= (λ i. layer
    >>= (λ l. launch >>= (λ la. build >>= (λ b. cache
    >>= (λ c. cache_flag false c >>= (λ kept. digest >>= (λ d. meta >>= (λ m.
    Ok (record {
      id = i;
      layer = l;
      flags = record { launch = la; build = b; cache = c };
      meta = m;
      digest =
          d;
    }))))))))))
layer_made (Err fault) layer launch build cache digest meta h = tt
layer_made (Ok i) (Err fault) launch build cache digest meta h = tt
layer_made (Ok i) (Ok l) (Err fault) build cache digest meta h = tt
layer_made (Ok i) (Ok l) (Ok la) (Err fault) cache digest meta h = tt
layer_made (Ok i) (Ok l) (Ok la) (Ok b) (Err fault) digest meta h = tt
layer_made (Ok i) (Ok l) (Ok la) (Ok b) (Ok c) (Err fault) meta h = tt
layer_made (Ok i) (Ok l) (Ok la) (Ok b) (Ok c) (Ok d) (Err fault) h = tt
layer_made (Ok i) (Ok l) (Ok la) (Ok b) (Ok c) (Ok d) (Ok m) h = h

layer_holds : (table : Members) → Holds (is_layer_row false) (layer_in false table)
layer_holds table =
    layer_made (required_at (name_of is_bp_id) (codes "id") table)
    (required_at (name_of is_layer_name) (codes "layer") table) (truth_at (codes "launch") table)
    (truth_at (codes "build") table) (truth_at (codes "cache") table)
    (required_at digest_of (codes "digest") table) (metadata_in table) (meta_holds table)

layers_hold : (table : Members) → Holds (are_layers false) (layers_at false table)
layers_hold table =
    at_or (rows_of (layer_row_in false)) (are_layers false)
    (in_rows same_layer layer_key same_layer-symmetric (layer_row_in false) (is_layer_row false)
    (in_distinct_row same_layer layer_key (layer_in false) (is_layer_row false) layer_holds)) []
    (codes "layers") table refl

store_row_made : (before : List StoreRow) (id : List ℕ) (listed : Bool) (meta : Result Meta DocFault)
    → has_key bytes_eq store_id before id ≡ listed → Holds is_kept meta
    → Holds (follows bytes_eq store_id is_kept_row before)
    ((if listed then Err (Wrong (codes "id")) else Ok id) >>=
    (λ new. meta >>= (λ m. Ok (record { id = id; meta = m }))))
store_row_made before id true meta e h = tt
store_row_made before id false (Err fault) e h = tt
store_row_made before id false (Ok m) e h = and_from (is_kept m) (not (has_key bytes_eq store_id before id)) h
    (ap not e)

store_row_read : (before : List StoreRow) (id : Result (List ℕ) DocFault) (meta : Result Meta DocFault)
    → Holds is_kept meta
    → Holds (follows bytes_eq store_id is_kept_row before)
    (id >>= (λ i. (if has_key bytes_eq store_id before i then Err (Wrong (codes "id")) else Ok i)
    >>= (λ new. meta >>= (λ m. Ok (record { id = i; meta = m })))))
store_row_read before (Err fault) meta h = tt
store_row_read before (Ok id) meta h = store_row_made before id (has_key bytes_eq store_id before id) meta refl h

store_row_holds : (before : List StoreRow) (table : Members)
    → Holds (follows bytes_eq store_id is_kept_row before) (store_row_in before table)
store_row_holds before table = store_row_read before (required_at (name_of is_bp_id) (codes "id") table)
    (metadata_in table) (meta_holds table)

store_holds : (table : Members) → Holds is_store (value_or [] (rows_of store_row_in) (codes "store") table)
store_holds table = at_or (rows_of store_row_in) is_store
    (in_rows bytes_eq store_id bytes_eq-symmetric store_row_in is_kept_row store_row_holds) []
    (codes "store") table refl

-- ---- images

abbrev is_provided : Provided → Bool
is_provided provided = list_all is_label provided.labels
    && (is_launch_doc provided.launch && (are_layers false provided.layers && is_store provided.store))

provided_made : (labels : Result (List Label) DocFault) (launch : Result LaunchDoc DocFault)
    (layers : Result (List LayerRow) DocFault) (store : Result (List StoreRow) DocFault)
    → Holds (list_all is_label) labels → Holds is_launch_doc launch → Holds (are_layers false) layers
    → Holds is_store store
    → Holds is_provided (labels >>= (λ a. launch >>= (λ b. layers
    >>= (λ c. store >>= (λ d. Ok (record { labels = a; launch = b; layers = c; store = d }))))))
provided_made (Err fault) launch layers store ha hb hc hd = tt
provided_made (Ok a) (Err fault) layers store ha hb hc hd = tt
provided_made (Ok a) (Ok b) (Err fault) store ha hb hc hd = tt
provided_made (Ok a) (Ok b) (Ok c) (Err fault) ha hb hc hd = tt
provided_made (Ok a) (Ok b) (Ok c) (Ok d) ha hb hc hd = and_from (list_all is_label a)
    (is_launch_doc b && (are_layers false c && is_store d)) ha
    (and_from (is_launch_doc b) (are_layers false c && is_store d) hb
    (and_from (are_layers false c) (is_store d) hc hd))

provided_holds : (table : Members) → Holds is_provided (provided_in table)
provided_holds table =
    provided_made (list_at (table_of label_in) (codes "labels") table)
    (required_at (table_of launch_doc_table_in) (codes "launch") table) (layers_at false table)
    (value_or [] (rows_of store_row_in) (codes "store") table)
    (at_list (table_of label_in) is_label (codes "labels") table (in_table label_in is_label label_holds))
    (at_required (table_of launch_doc_table_in) is_launch_doc
    (in_table launch_doc_table_in is_launch_doc launch_holds) (codes "launch") table)
    (layers_hold table) (store_holds table)

image_made : (base : Base) (rows : Result (List Row) DocFault) (env : Result (List Variable) DocFault)
    (entrypoint : Result (List ℕ) DocFault) (provided : Result Provided DocFault)
    → is_base base ≡ true → Holds are_rows rows → Holds is_env env → Holds is_short_path entrypoint
    → Holds is_provided provided
    → Holds is_image_doc (rows >>= (λ r. env >>= (λ e. entrypoint >>= (λ n. provided >>= (λ p.
    Ok (record {
      base = base;
      rows = r;
      env = e;
      entrypoint = n;
      labels = p.labels;
      launch = p.launch;
      layers =
          p.layers;
      store = p.store;
    }))))))
image_made b (Err fault) env entrypoint provided hb hr he hn hp = tt
image_made b (Ok r) (Err fault) entrypoint provided hb hr he hn hp = tt
image_made b (Ok r) (Ok e) (Err fault) provided hb hr he hn hp = tt
image_made b (Ok r) (Ok e) (Ok n) (Err fault) hb hr he hn hp = tt
image_made b (Ok r) (Ok e) (Ok n) (Ok p) hb hr he hn hp =
    and_from (is_base b) (are_rows r && (is_env e && (is_short_path n && is_provided p))) hb
    (and_from (are_rows r) (is_env e && (is_short_path n && is_provided p)) hr
    (and_from (is_env e) (is_short_path n && is_provided p) he
    (and_from (is_short_path n) (is_provided p) hn hp)))

-- what is read behind the version and the note of the run image
abbrev image_behind : ℤ → Members → Base → Result ImageDoc DocFault
image_behind version table base =
    rows_of_version version base.name table >>= (λ r. env_at table
    >>= (λ e. required_at (name_of is_short_path) (codes "entrypoint") table
    >>= (λ n. provided_in table >>= (λ p.
    Ok (record {
      base = base;
      rows = r;
      env = e;
      entrypoint = n;
      labels = p.labels;
      launch = p.launch;
      layers =
          p.layers;
      store = p.store;
    })))))

behind_holds : (version : ℤ) (table : Members) (base : Base) → is_named_base base ≡ true
    → Holds is_image_doc (image_behind version table base)
behind_holds version table base h =
    let parts = and_parts (is_image_name base.name) (is_base base) h in
    image_made base (rows_of_version version base.name table) (env_at table)
    (required_at (name_of is_short_path) (codes "entrypoint") table) (provided_in table)
    parts.1 (version_rows_hold version base.name table parts.0) (env_at_holds table)
    (at_required (name_of is_short_path) is_short_path (in_name is_short_path) (codes "entrypoint") table)
    (provided_holds table)

-- an image that was read
pub image_holds : (table : Members) → Holds is_image_doc (image_table_in table)
image_holds table =
    let version = required_at version_of (codes "version") table in
    and_then (λ (v : ℤ). true) is_image_doc version
    (λ v. required_at (table_of base_in) (codes "base") table >>= image_behind v table)
    (holds_by (λ (v : ℤ). true) version (λ v is. refl))
    (λ v any. and_then is_named_base is_image_doc (required_at (table_of base_in) (codes "base") table)
    (image_behind v table)
    (at_required (table_of base_in) is_named_base (in_table base_in is_named_base base_holds)
    (codes "base") table) (behind_holds v table))

run_made : (os arch : Result (List ℕ) DocFault) (rows : Result (List (List ℕ)) DocFault)
    (env : Result (List Variable) DocFault) → Holds is_target_name os → Holds is_target_name arch
    → Holds is_filled rows → Holds is_env env
    → Holds is_run_doc (os >>= (λ o. arch >>= (λ a. rows >>=
    (λ r. env >>= (λ e. Ok (record { os = o; arch = a; rows = r; env = e }))))))
run_made (Err fault) arch rows env ho ha hr he = tt
run_made (Ok o) (Err fault) rows env ho ha hr he = tt
run_made (Ok o) (Ok a) (Err fault) env ho ha hr he = tt
run_made (Ok o) (Ok a) (Ok r) (Err fault) ho ha hr he = tt
run_made (Ok o) (Ok a) (Ok r) (Ok e) ho ha hr he =
    and_from (is_target_name o && is_target_name a) (is_filled r && is_env e)
    (and_from (is_target_name o) (is_target_name a) ho ha) (and_from (is_filled r) (is_env e) hr he)

-- a run image that was read
pub run_holds : (table : Members) → Holds is_run_doc (table_in table)
run_holds table =
    run_made (required_at (name_of is_target_name) (codes "os") table)
    (required_at (name_of is_target_name) (codes "arch") table)
    (filled_list_at digest_of (codes "rows") table) (env_at table)
    (at_required (name_of is_target_name) is_target_name (in_name is_target_name) (codes "os") table)
    (at_required (name_of is_target_name) is_target_name (in_name is_target_name) (codes "arch") table)
    (in_filled (codes "rows") (list_at digest_of (codes "rows") table)) (env_at_holds table)
