-- What holds of the documents that were read: each can be read again.
use Rattle.std.proofs.Common.{◌≡◌, ◌∙◌, refl, ap, ℕ, Bool, true, false, not, ◌&&◌, List, [], codes, Option, Some, None}
use Rattle.std.proofs.Common.{Result, Ok, Err}
use Rattle.std.specs.Prelude.{if◌then◌else◌}
use Rattle.std.specs.List.{list_all}
use Rattle.std.specs.Str.{bytes_eq}
use Rattle.std.proofs.lemmas.Bool.{and_from}
use Rattle.toml.specs.Data.{Members}
use Rattle.cnb_toml.specs.declared.fault.DocFault.{DocFault}
use Rattle.cnb_toml.specs.declared.fault.DocFault.TheVariants as fault
use Rattle.cnb_toml.specs.declared.label.Label.{Label}
use Rattle.cnb_toml.specs.declared.meta.Meta.{Meta}
use Rattle.cnb_toml.specs.declared.process.Process.{Process}
use Rattle.cnb_toml.specs.DistinctLaws.{bytes_eq-symmetric}
use Rattle.cnb_toml.specs.Fields.{list_at, required_at, value_or}
use Rattle.cnb_toml.specs.Form.{name_of, table_of, text_of}
use Rattle.cnb_toml.specs.Label.{is_label, label_in}
use Rattle.cnb_toml.specs.Meta.{is_kept, metadata_in}
use Rattle.cnb_toml.specs.Names.{is_bp_id, is_bp_version}
use Rattle.cnb_toml.specs.Process.{is_process, process_in}
use Rattle.cnb_toml.specs.Reading.{◌>>=◌}
use Rattle.cnb_toml.specs.Rows.{rows_of}
use Rattle.image_docs.proofs.Answered.{Holds, at_list, at_or, follows, holds_of, in_document, in_rows, in_table}
use Rattle.image_docs.proofs.ReadLaws.{label_holds, meta_holds, process_holds}
use Rattle.run_docs.specs.Group as group_doc
use Rattle.run_docs.specs.Group.{group_in, is_group_doc, is_listed, row_id}
use Rattle.run_docs.specs.Launch as launch_doc
use Rattle.run_docs.specs.Launch.{is_launch_toml, launch_in}
use Rattle.run_docs.specs.Layer as layer_doc
use Rattle.run_docs.specs.Layer.{is_layer_doc, layer_in}
use Rattle.run_docs.specs.Store as store_doc
use Rattle.run_docs.specs.Store.{is_store_toml, store_in}
use Rattle.run_docs.specs.declared.group.GroupRow.{GroupRow}
use Rattle.run_docs.specs.declared.launch.LaunchToml.{LaunchToml}
use Rattle.run_docs.specs.declared.layer.LayerDoc.{LayerDoc}
use Rattle.run_docs.specs.declared.store.StoreToml.{StoreToml}
use Rattle.steps.specs.Results.{and_then}
use Rattle.cnb_layers.specs.Reading.{some_value_at, value_at}
use Rattle.cnb_layers.specs.declared.fault.ExportFault.{ExportFault}

-- ---- each document

launch_made : (labels : Result (List Label) DocFault) (processes : Result (List Process) DocFault)
    (slices : Result (List (List (List ℕ))) DocFault) → Holds (list_all is_label) labels
    → Holds (list_all is_process) processes
    → Holds is_launch_toml (labels >>= (λ a. processes
    >>= (λ b. slices >>= (λ c. Ok (record { labels = a; processes = b; slices = c })))))
launch_made (Err fault) processes slices h k = tt
launch_made (Ok a) (Err fault) slices h k = tt
launch_made (Ok a) (Ok b) (Err fault) h k = tt
launch_made (Ok a) (Ok b) (Ok c) h k = and_from (list_all is_label a) (list_all is_process b) h k

launch_holds : (table : Members) → Holds is_launch_toml (launch_doc.table_in table)
launch_holds table =
    launch_made (list_at (table_of label_in) (codes "labels") table)
    (list_at (table_of process_in) (codes "processes") table)
    (list_at (table_of launch_doc.slice_in) (codes "slices") table)
    (at_list (table_of label_in) is_label (codes "labels") table (in_table label_in is_label label_holds))
    (at_list (table_of process_in) is_process (codes "processes") table (in_table process_in is_process process_holds))

pub launch_readable : (bytes : List ℕ) (launch : LaunchToml) → launch_in bytes ≡ Ok launch
    → is_launch_toml launch ≡ true
launch_readable bytes launch h = holds_of is_launch_toml (launch_in bytes) launch
    (in_document launch_doc.table_in is_launch_toml launch_holds bytes) h

store_made : (meta : Result Meta DocFault) → Holds is_kept meta
    → Holds is_store_toml (meta >>= (λ m. Ok (record { meta = m })))
store_made (Err fault) h = tt
store_made (Ok m) h = h

store_holds : (table : Members) → Holds is_store_toml (store_doc.table_in table)
store_holds table = store_made (metadata_in table) (meta_holds table)

pub store_readable : (bytes : List ℕ) (store : StoreToml) → store_in bytes ≡ Ok store → is_store_toml store ≡ true
store_readable bytes store h = holds_of is_store_toml (store_in bytes) store
    (in_document store_doc.table_in is_store_toml store_holds bytes) h

layer_made : {T : Type 0} (types : Result T DocFault) (meta : Result Meta DocFault) (make : T → Meta → LayerDoc)
    → ((t : T) (m : Meta) → (make t m).meta ≡ m) → Holds is_kept meta
    → Holds is_layer_doc (types >>= (λ t. meta >>= (λ m. Ok (make t m))))
layer_made (Err fault) meta make same h = tt
layer_made (Ok t) (Err fault) make same h = tt
layer_made (Ok t) (Ok m) make same h = ap is_kept (same t m) ∙ h

layer_holds : (table : Members) → Holds is_layer_doc (layer_doc.table_in table)
layer_holds table = layer_made (value_or layer_doc.no_types (table_of layer_doc.types_in) (codes "types") table)
    (metadata_in table) _ (λ t m. refl) (meta_holds table)

pub layer_readable : (bytes : List ℕ) (layer : LayerDoc) → layer_in bytes ≡ Ok layer → is_layer_doc layer ≡ true
layer_readable bytes layer h = holds_of is_layer_doc (layer_in bytes) layer
    (in_document layer_doc.table_in is_layer_doc layer_holds bytes) h

-- a row of a group holds nothing but what its type says
abbrev any_row : GroupRow → Bool
any_row row = true

row_new : (before : List GroupRow) (id : List ℕ) (listed : Bool) (version api : Result (List ℕ) DocFault)
    → is_listed before id ≡ listed
    → Holds (follows bytes_eq row_id any_row before)
    ((if listed then Err (fault.Wrong (codes "id")) else Ok id)
    >>= (λ new. version >>= (λ v. api >>= (λ a. Ok
    (record { key = record { id = id; version = v }; api = a })))))
row_new before id true version api e = tt
row_new before id false (Err fault) api e = tt
row_new before id false (Ok v) (Err fault) e = tt
row_new before id false (Ok v) (Ok a) e = ap not e

row_made : (before : List GroupRow) (id version api : Result (List ℕ) DocFault)
    → Holds (follows bytes_eq row_id any_row before)
    (id >>= (λ i. (if is_listed before i then Err (fault.Wrong (codes "id")) else Ok i)
    >>= (λ new. version >>= (λ v. api >>= (λ a. Ok
    (record { key = record { id = i; version = v }; api = a }))))))
row_made before (Err fault) version api = tt
row_made before (Ok i) version api = row_new before i (is_listed before i) version api refl

row_holds : (before : List GroupRow) (table : Members) → Holds (follows bytes_eq row_id any_row before)
    (group_doc.row_in before table)
row_holds before table = row_made before (required_at (name_of is_bp_id) (codes "id") table)
    (required_at (name_of is_bp_version) (codes "version") table) (required_at text_of (codes "api") table)

distinct_rows : (rows : Result (List GroupRow) DocFault)
    → Holds (λ all. list_all any_row all && is_group_doc all) rows → Holds is_group_doc rows
distinct_rows (Err fault) h = tt
distinct_rows (Ok rows) h = second (list_all any_row rows) (is_group_doc rows) h
  where
    second : (a b : Bool) → (a && b) ≡ true → b ≡ true
    second true b e = e
    second false b e = absurd (cc)

group_holds : (table : Members) → Holds is_group_doc (group_doc.rows_in table)
group_holds table =
    distinct_rows (value_or [] (rows_of group_doc.row_in) (codes "group") table)
    (at_or (rows_of group_doc.row_in) (λ all. list_all any_row all && is_group_doc all)
    (in_rows bytes_eq row_id bytes_eq-symmetric group_doc.row_in any_row row_holds) []
    (codes "group") table refl)

pub group_readable : (bytes : List ℕ) (rows : List GroupRow) → group_in bytes ≡ Ok rows → is_group_doc rows ≡ true
group_readable bytes rows h = holds_of is_group_doc (group_in bytes) rows
    (in_document group_doc.rows_in is_group_doc group_holds bytes) h

-- ---- what a reader answered is what bytes read as

pub value_read : {A : Type 0} (path : List ℕ) (answer : Result A DocFault) (value : A)
    → value_at path answer ≡ Ok value → answer ≡ Ok value
value_read path (Ok a) value h = let same : a ≡ value = cc in ap Ok same
value_read path (Err fault.Absent) value h = absurd (cc)
value_read path (Err fault.NotUtf8) value h = absurd (cc)
value_read path (Err fault.NotToml) value h = absurd (cc)
value_read path (Err (fault.MetaKind at)) value h = absurd (cc)
value_read path (Err (fault.Missing at)) value h = absurd (cc)
value_read path (Err (fault.Wrong at)) value h = absurd (cc)
value_read path (Err (fault.Name at)) value h = absurd (cc)
value_read path (Err fault.Memory) value h = absurd (cc)

pub some_value_read : {A : Type 0} (form : List ℕ → Result A DocFault) (path : List ℕ) (found : Option (List ℕ))
    (value : A) → some_value_at form path found ≡ Ok (Some value) → (bytes : List ℕ) × (form bytes ≡ Ok value)
some_value_read form path None value h = absurd (cc)
some_value_read {A} form path (Some bytes) value h = (bytes, by (value_at path (form bytes)) refl h)
  where
    by : (r : Result A ExportFault) → value_at path (form bytes) ≡ r
        → and_then r (λ v. Ok (Some v)) ≡ Ok (Some value) → form bytes ≡ Ok value
    by (Ok a) e k = let same : a ≡ value = cc in value_read path (form bytes) value (e ∙ ap Ok same)
    by (Err fault) e k = absurd (cc)
