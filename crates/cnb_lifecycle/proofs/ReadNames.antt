-- The names of buildpacks and layers that were read from documents.
use Rattle.std.proofs.Common.{◌≡◌, ◌∙◌, refl, ap, subst, ℕ, ◌-◌, Bool, true, false}
use Rattle.std.proofs.Common.{cond, List, [], ◌∷◌, ◌++◌, codes}
use Rattle.std.proofs.Common.{Option, Some, None, Result, Ok, Err, ◌+◌}
use Rattle.std.specs.Fmt.{decimal}
use Rattle.std.specs.List.{AllByRecursion}
use Rattle.std.specs.Prelude.{IsTrue, if◌then◌else◌}
use Rattle.cnb_restore.specs.Commands.{group_at, needed}
use Rattle.cnb_restore.specs.Faults.{of_read_fault}
use Rattle.cnb_toml.specs.Distinct.{has_key}
use Rattle.cnb_toml.specs.Document.{document_in as toml_in, document_of}
use Rattle.cnb_toml.specs.Fields.{list_at, read_or, read_required, required_at, truth_at, value_or}
use Rattle.cnb_toml.specs.Form.{TableForm, name_of, or_wrong, table_of, text_of}
use Rattle.cnb_toml.specs.Label.{label_in}
use Rattle.cnb_toml.specs.Meta.{metadata_in}
use Rattle.cnb_toml.specs.Names.{is_bp_id, is_bp_version, is_layer_name}
use Rattle.cnb_toml.specs.Reading.{under}
use Rattle.cnb_toml.specs.Rows.{RowForm, rows_in, rows_of as toml_rows_of}
use Rattle.cnb_toml.specs.declared.fault.DocFault.{DocFault}
use Rattle.cnb_toml.specs.declared.fault.DocFault.TheVariants.{Absent, Memory, MetaKind, Missing, Name, NotToml}
use Rattle.cnb_toml.specs.declared.fault.DocFault.TheVariants.{NotUtf8, Wrong}
use Rattle.cnb_world.specs.Path.{is_short_path}
use Rattle.cnb_world.specs.Tree.{Tree}
use Rattle.doc_files.specs.Reading.{document_at, read_at}
use Rattle.image_docs.specs.Base.{base_in}
use Rattle.image_docs.specs.DigestText.{digest_of}
use Rattle.image_docs.specs.DistinctRows.{unless_listed}
use Rattle.image_docs.specs.EnvRows.{env_at}
use Rattle.image_docs.specs.Image.{image_table_in, provided_in, rows_of_version, version_of}
use Rattle.image_docs.specs.LaunchDoc.{launch_doc_table_in}
use Rattle.image_docs.specs.LayerRow.{cache_flag, layer_in, layer_key, layer_row_in, layers_at, same_layer}
use Rattle.image_docs.specs.StoreRow.{store_row_in}
use Rattle.image_docs.specs.declared.image.ImageDoc.{ImageDoc}
use Rattle.image_docs.specs.declared.layer_row.LayerRow.{LayerRow}
use Rattle.image_files.specs.Documents.{document_in, found_of, some_of}
use Rattle.layer_flags.specs.declared.restore.RestoreRow.TheVariants as part
use Rattle.run_docs.specs.Group.{new_id, row_in, rows_in as group_rows_in}
use Rattle.run_docs.specs.declared.group.GroupRow.{GroupRow}
use Rattle.steps.specs.Results.{and_then, with_fault}
use Rattle.steps.specs.Steps.{reads}
use Rattle.toml.specs.Data.{Data, Items, Members, as_array, as_table, get_member, item, no_items}
use Rattle.tree_store.proofs.Places.{named}
use Rattle.cnb_lifecycle.proofs.LayerNames.{all_append}

pub ok_is : {A E : Type 0} (a b : A) → (let r : Result A E = Ok a in r) ≡ Ok b → a ≡ b
ok_is a b h = cc

part_is : {A B E : Type 0} (a b : A) → (let r : Result A E = Ok a in r) ≡ Ok b → (part : A → B) → part a ≡ part b
part_is a b h part = ap part (ok_is a b h)

-- what an answer was made of
pub from_ok : {A B E : Type 0} (first : Result A E) (next : A → Result B E) (b : B) → and_then first next ≡ Ok b
    → (a : A) × (first ≡ Ok a) × (next a ≡ Ok b)
from_ok (Ok a) next b h = (a, refl, h)
from_ok (Err fault) next b h = absurd (cc)

pub with_ok : {A E F : Type 0} (of : E → F) (result : Result A E) (a : A) → with_fault of result ≡ Ok a → result ≡ Ok a
with_ok of (Ok value) a h = ap Ok (ok_is value a h)
with_ok of (Err fault) a h = absurd (cc)

under_ok : {A : Type 0} (key : List ℕ) (result : Result A DocFault) (a : A) → under key result ≡ Ok a → result ≡ Ok a
under_ok key (Ok value) a h = h
under_ok key (Err fault) a h = absurd (cc)

name_read : (test : List ℕ → Bool) (text name : List ℕ)
    → (let r : Result (List ℕ) DocFault = if test text then Ok text else Err (Name []) in r) ≡ Ok name
    → IsTrue (test name)
name_read test text name = by (test text) refl
  where
    by : (v : Bool) → test text ≡ v → (let r : Result (List ℕ) DocFault = cond v (Ok text) (Err (Name [])) in r)
        ≡ Ok name → IsTrue (test name)
    by true is h = subst (λ n. test n ≡ true) (ok_is text name h) is
    by false is h = absurd (cc)

required_name : (test : List ℕ → Bool) (key : List ℕ) (table : Members) (name : List ℕ)
    → required_at (name_of test) key table ≡ Ok name → IsTrue (test name)
required_name test key table name = by (get_member key table)
  where
    by : (o : Option Data) → read_required (name_of test) key o ≡ Ok name → IsTrue (test name)
    by None h = absurd (cc)
    by (Some value) h = let (text, is, named) = from_ok (text_of value) _ name
        (under_ok key (name_of test value) name h) in name_read test text name named

-- each row of a list was read by its form
rows_read : {A : Type 0} (P : A → Type 0) (form : RowForm A) (before : List A) (place : ℕ) (values : Items)
    (rows : List A) → ((before : List A) (table : Members) (row : A) → form before table ≡ Ok row → P row)
    → AllByRecursion P before
    → rows_in form before place values ≡ Ok rows → AllByRecursion P rows
rows_read P form before place no_items rows each all h = subst (AllByRecursion P) (ok_is before rows h) all
rows_read P form before place (item value values) rows each all h =
    let (row, is, more) = from_ok (under (decimal place) (table_of (form before) value)) _ rows h in
    let (table, there, read) = from_ok (or_wrong (as_table value)) (form before) row
    (under_ok (decimal place) (table_of (form before) value) row is) in
    rows_read P form (before ++ row ∷ []) (place + 1) values rows each
    (all_append P before (row ∷ []) all (each before table row read, tt)) more

rows_at : {A : Type 0} (P : A → Type 0) (form : RowForm A) (key : List ℕ) (table : Members) (rows : List A)
    → ((before : List A) (table : Members) (row : A) → form before table ≡ Ok row → P row)
    → value_or [] (toml_rows_of form) key table ≡ Ok rows → AllByRecursion P rows
rows_at {A = A} P form key table rows each = by (get_member key table)
  where
    by : (o : Option Data) → read_or [] (toml_rows_of form) key o ≡ Ok rows → AllByRecursion P rows
    by None h = subst (AllByRecursion P) (ok_is (let none : List A = [] in none) rows h) tt
    by (Some value) h = let (values, is, read) = from_ok (or_wrong (as_array value)) (rows_in form [] 0) rows
        (under_ok key (toml_rows_of form value) rows h) in rows_read P form [] 0 values rows each tt read

abbrev pub HasId : GroupRow → Type 0
HasId row = IsTrue (is_bp_id row.key.id)

group_row : (before : List GroupRow) (table : Members) (row : GroupRow) → row_in before table ≡ Ok row → HasId row
group_row before table row h =
    let (id, named, one) = from_ok (required_at (name_of is_bp_id) (codes "id") table) _ row h in
    let (new, free, two) = from_ok (new_id before id) _ row one in
    let (version, numbered, three) = from_ok (required_at (name_of is_bp_version) (codes "version") table) _ row two in
    let (api, is, last) = from_ok (required_at text_of (codes "api") table) _ row three in
    subst HasId (ok_is _ row last) (required_name is_bp_id (codes "id") table id named)

abbrev pub HasLayerName : LayerRow → Type 0
HasLayerName row = IsTrue (is_layer_name row.layer)

layer_row : (cached : Bool) (table : Members) (row : LayerRow) → layer_in cached table ≡ Ok row → HasLayerName row
layer_row cached table row h =
    let (id, a, one) = from_ok (required_at (name_of is_bp_id) (codes "id") table) _ row h in
    let (layer, named, two) = from_ok (required_at (name_of is_layer_name) (codes "layer") table) _ row one in
    let (launch, b, three) = from_ok (truth_at (codes "launch") table) _ row two in
    let (build, c, four) = from_ok (truth_at (codes "build") table) _ row three in
    let (cache, d, five) = from_ok (truth_at (codes "cache") table) _ row four in
    let (kept, e, six) = from_ok (cache_flag cached cache) _ row five in
    let (digest, f, seven) = from_ok (required_at digest_of (codes "digest") table) _ row six in
    let (meta, g, last) = from_ok (metadata_in table) _ row seven in
    subst HasLayerName (ok_is _ row last) (required_name is_layer_name (codes "layer") table layer named)

new_layer : (cached : Bool) (before : List LayerRow) (table : Members) (row : LayerRow)
    → layer_row_in cached before table ≡ Ok row → HasLayerName row
new_layer cached before table row h =
    let (read, is, free) = from_ok (layer_in cached table) (unless_listed same_layer layer_key before) row h in
    by (has_key same_layer layer_key before (layer_key read)) read (layer_row cached table read is) free
  where
    by : (v : Bool) (read : LayerRow) → HasLayerName read →
        (let r : Result LayerRow DocFault = cond v (Err (Wrong [])) (Ok read) in r) ≡ Ok row → HasLayerName row
    by true read named h = absurd (cc)
    by false read named h = subst HasLayerName (ok_is read row h) named

pub layers_read : (cached : Bool) (table : Members) (rows : List LayerRow) → layers_at cached table ≡ Ok rows
    → AllByRecursion HasLayerName rows
layers_read cached table rows h = rows_at HasLayerName (layer_row_in cached) (codes "layers") table rows
    (new_layer cached) h

provided_layers : (table : Members) (provided : _) → provided_in table ≡ Ok provided
    → AllByRecursion HasLayerName provided.layers
provided_layers table provided h =
    let (labels, a, one) = from_ok (list_at (table_of label_in) (codes "labels") table) _ provided h in
    let (launch, b, two) = from_ok (required_at (table_of launch_doc_table_in) (codes "launch") table) _ provided one in
    let (layers, read, three) = from_ok (layers_at false table) _ provided two in
    let (store, c, last) = from_ok (value_or [] (toml_rows_of store_row_in) (codes "store") table) _ provided three in
    subst (AllByRecursion HasLayerName) (part_is _ provided last (λ known. known.layers))
    (layers_read false table layers read)

pub image_layers : (table : Members) (image : ImageDoc) → image_table_in table ≡ Ok image
    → AllByRecursion HasLayerName image.layers
image_layers table image h =
    let (version, a, one) = from_ok (required_at version_of (codes "version") table) _ image h in
    let (base, b, two) = from_ok (required_at (table_of base_in) (codes "base") table) _ image one in
    let (rows, c, three) = from_ok (rows_of_version version base.name table) _ image two in
    let (env, d, four) = from_ok (env_at table) _ image three in
    let (entrypoint, e, five) = from_ok (required_at (name_of is_short_path) (codes "entrypoint") table) _ image four in
    let (provided, is, last) = from_ok (provided_in table) _ image five in
    subst (AllByRecursion HasLayerName) (part_is _ image last (λ known. known.layers))
    (provided_layers table provided is)

-- a document that was read has a table that its form reads
pub table_read : {A : Type 0} (form : TableForm A) (bytes : List ℕ) (value : A) → document_of form bytes ≡ Ok value
    → (table : Members) × (form table ≡ Ok value)
table_read form bytes value h = let (table, is, read) = from_ok (toml_in bytes) form value h in (table, read)

read_ok : {A : Type 0} (path : List ℕ) (result : Result A DocFault) (value : A)
    → some_of (read_at path result) ≡ Ok (Some value) → result ≡ Ok value
read_ok path (Ok read) value h = cc
read_ok path (Err Absent) value h = absurd (cc)
read_ok path (Err NotUtf8) value h = absurd (cc)
read_ok path (Err NotToml) value h = absurd (cc)
read_ok path (Err (MetaKind at)) value h = absurd (cc)
read_ok path (Err (Missing at)) value h = absurd (cc)
read_ok path (Err (Wrong at)) value h = absurd (cc)
read_ok path (Err (Name at)) value h = absurd (cc)
read_ok path (Err Memory) value h = absurd (cc)

pub document_read : {A : Type 0} (form : TableForm A) (path : List ℕ) (files : Tree) (value : A)
    → document_in form path files ≡ Ok (Some value) → (table : Members) × (form table ≡ Ok value)
document_read form path files value h = let (found, is, read) = from_ok (document_at files path)
    (found_of form path) (Some value) h in by found read
  where
    by : (found : Option (List ℕ)) → found_of form path found ≡ Ok (Some value) → (table : Members)
        × (form table ≡ Ok value)
    by None h = absurd (cc)
    by (Some bytes) h = table_read form bytes value (read_ok path (document_of form bytes) value h)

needed_ok : {A : Type 0} (path : List ℕ) (found : Option A) (value : A) → needed path found ≡ Ok value
    → found ≡ Some value
needed_ok path None value h = absurd (cc)
needed_ok path (Some read) value h = ap Some (ok_is read value h)

pub group_read : (path : List ℕ) (files : Tree) (group : List GroupRow) → group_at path files ≡ Ok group
    → AllByRecursion HasId group
group_read path files group h =
    let (found, is, must) = from_ok (with_fault of_read_fault (document_in group_rows_in path files))
    (needed path) group h in
    let (table, read) = document_read group_rows_in path files group
    (with_ok of_read_fault (document_in group_rows_in path files) (Some group)
    (is ∙ ap Ok (needed_ok path found group must))) in
    rows_at HasId row_in (codes "group") table group group_row read
