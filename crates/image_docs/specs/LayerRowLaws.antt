-- The layers of an image, and of a cache, read back.
use Rattle.std.specs.Prelude.{◌≡◌, ◌≤◌, Bool, true, not, ◌&&◌, List, [], Ok, codes}
use Rattle.std.specs.List.{list_all}
use Rattle.std.specs.Str.{bytes_eq}
use Rattle.std.proofs.Common.{refl, ap, ◌∙◌}
use Rattle.std.proofs.Math.Nat.{max-le}
use Rattle.std.proofs.lemmas.Bool.{and_parts, and_from, cond-false, not-true}
use Rattle.toml.specs.Data.{depth, has_valid_dates, members_depth, members_have_valid_dates}
use Rattle.cnb_toml.specs.Distinct.{are_distinct}
use Rattle.cnb_toml.specs.DistinctLaws.{bytes_eq-symmetric}
use Rattle.cnb_toml.specs.Meta.{is_kept}
use Rattle.cnb_toml.specs.Names.{is_bp_id, is_layer_name}
use Rattle.cnb_toml.specs.Rows.{rows_of}
use Rattle.cnb_toml.specs.Written.{table_data, all_follow}
use Rattle.cnb_toml.specs.WrittenLaws.{zero_within, name_read, list_dates, rows_read, rows_within}
use Rattle.cnb_toml.proofs.DataLaws.{metadata_dates, metadata_within}
use Rattle.cnb_toml.proofs.RoundTrip.{kept_read}
use Rattle.image_docs.specs.declared.layer_row.LayerKey.{LayerKey}
use Rattle.image_docs.specs.declared.layer_row.LayerRow.{LayerRow}
use Rattle.image_docs.specs.DigestText.{is_digest}
use Rattle.image_docs.specs.DigestTextLaws.{digest_read}
use Rattle.image_docs.specs.DistinctRows.{may_follow}
use Rattle.image_docs.specs.DistinctRowsLaws.{distinct_row_read, distinct_row_within, distinct_rows_follow}
use Rattle.image_docs.specs.LayerRow.{cache_flag, layer_in, layer_key, same_layer, layer_row_in, has_layer_names}
use Rattle.image_docs.specs.LayerRow.{is_layer_row, are_layers, layer_members, layers_data}

flag_read : (cached cache : Bool) → not (cached && not cache) ≡ true → cache_flag cached cache ≡ Ok cache
flag_read cached cache h = cond-false _ _ _ (not-true (cached && not cache) h)

pub layer_read : (cached : Bool) (row : LayerRow) → has_layer_names row ≡ true → is_layer_row cached row ≡ true
    → layer_in cached (layer_members row) ≡ Ok row
layer_read cached row typed sound =
    let id = and_parts (is_bp_id row.id) (is_layer_name row.layer && is_digest row.digest) typed in
    let names = and_parts (is_layer_name row.layer) (is_digest row.digest) id.1 in
    let parts = and_parts (not (cached && not row.flags.cache)) (is_kept row.meta) sound in
    rw (
      name_read is_bp_id row.id id.0,
      name_read is_layer_name row.layer names.0,
      flag_read cached row.flags.cache parts.0,
      digest_read row.digest names.1,
      kept_read row.meta parts.1 (codes "metadata"),
    )

pub layer_dates : (row : LayerRow) → members_have_valid_dates (layer_members row) ≡ true
layer_dates row = and_from _ _ (metadata_dates row.meta) refl

pub layer_within : (cached : Bool) (row : LayerRow) → is_layer_row cached row ≡ true
    → members_depth (layer_members row) ≤ 33
layer_within cached row sound =
    let kept = (and_parts (not (cached && not row.flags.cache)) (is_kept row.meta) sound).1 in
    max-le (zero_within 33) (max-le (zero_within 33)
    (max-le (zero_within 33) (max-le (zero_within 33)
    (max-le (zero_within 33) (max-le (zero_within 33)
    (max-le (metadata_within row.meta kept) (zero_within 33)))))))

pub same_layer-symmetric : (a b : LayerKey) → same_layer a b ≡ same_layer b a
same_layer-symmetric a b = ap (λ same. same && bytes_eq a.layer b.layer) (bytes_eq-symmetric a.id b.id)
    ∙ ap (λ same. bytes_eq b.id a.id && same) (bytes_eq-symmetric a.layer b.layer)

pub layer_row_read : (cached : Bool) (before : List LayerRow) (row : LayerRow) → has_layer_names row ≡ true
    → may_follow same_layer layer_key (is_layer_row cached) before row ≡ true
    → layer_row_in cached before (layer_members row) ≡ Ok row
layer_row_read cached = distinct_row_read same_layer layer_key (is_layer_row cached) layer_members
    (layer_in cached) has_layer_names (layer_read cached)

pub layer_row_within : (cached : Bool) (before : List LayerRow) (row : LayerRow)
    → may_follow same_layer layer_key (is_layer_row cached) before row ≡ true
    → members_depth (layer_members row) ≤ 33
layer_row_within cached = distinct_row_within same_layer layer_key (is_layer_row cached) layer_members 33
    (layer_within cached)

layers_follow : (cached : Bool) (rows : List LayerRow) → are_layers cached rows ≡ true
    → all_follow (may_follow same_layer layer_key (is_layer_row cached)) [] rows ≡ true
layers_follow cached rows sound =
    let parts = and_parts (list_all (is_layer_row cached) rows) (are_distinct same_layer layer_key rows) sound in
    distinct_rows_follow same_layer layer_key (is_layer_row cached) same_layer-symmetric rows parts.0 parts.1

pub layers_read : (cached : Bool) (rows : List LayerRow) → list_all has_layer_names rows ≡ true
    → are_layers cached rows ≡ true → rows_of (layer_row_in cached) (layers_data rows) ≡ Ok rows
layers_read cached rows typed sound =
    rows_read layer_members (layer_row_in cached) has_layer_names
    (may_follow same_layer layer_key (is_layer_row cached)) (layer_row_read cached) rows typed
    (layers_follow cached rows sound)

pub layers_dates : (rows : List LayerRow) → has_valid_dates (layers_data rows) ≡ true
layers_dates rows = list_dates (table_data layer_members) layer_dates rows

pub layers_within : (cached : Bool) (rows : List LayerRow) → are_layers cached rows ≡ true
    → depth (layers_data rows) ≤ 35
layers_within cached rows sound =
    rows_within layer_members (layer_row_in cached) has_layer_names
    (may_follow same_layer layer_key (is_layer_row cached)) 33 (layer_row_within cached) rows
    (layers_follow cached rows sound)
