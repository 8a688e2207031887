-- What buildpacks keep reads back.
use Rattle.std.specs.Prelude.{◌≡◌, ◌≤◌, true, List, [], Ok, codes}
use Rattle.std.specs.List.{list_all}
use Rattle.std.specs.Str.{bytes_eq}
use Rattle.std.proofs.Common.{refl}
use Rattle.std.proofs.Math.Nat.{max-le}
use Rattle.std.proofs.lemmas.Bool.{and_parts, and_from, not-true}
use Rattle.toml.specs.Data.{depth, has_valid_dates, members_depth, members_have_valid_dates}
use Rattle.cnb_toml.specs.Distinct.{has_key, is_new, are_distinct}
use Rattle.cnb_toml.specs.DistinctLaws.{bytes_eq-symmetric}
use Rattle.cnb_toml.specs.Names.{is_bp_id}
use Rattle.cnb_toml.specs.Rows.{rows_of}
use Rattle.cnb_toml.specs.Written.{table_data, all_follow}
use Rattle.cnb_toml.specs.WrittenLaws.{zero_within, name_read, list_dates, rows_read, rows_within}
use Rattle.cnb_toml.proofs.DataLaws.{metadata_dates, metadata_within}
use Rattle.cnb_toml.proofs.RoundTrip.{kept_read}
use Rattle.image_docs.specs.declared.store_row.StoreRow.{StoreRow}
use Rattle.image_docs.specs.DistinctRows.{may_follow}
use Rattle.image_docs.specs.DistinctRowsLaws.{distinct_row_within, distinct_rows_follow}
use Rattle.image_docs.specs.StoreRow.{store_id, store_row_in, has_id, is_kept_row, is_store, store_members, store_data}

pub store_row_read : (before : List StoreRow) (row : StoreRow) → has_id row ≡ true
    → may_follow bytes_eq store_id is_kept_row before row ≡ true
    → store_row_in before (store_members row) ≡ Ok row
store_row_read before row typed h =
    let parts = and_parts (is_kept_row row) (is_new bytes_eq store_id before row) h in
    rw (
      name_read is_bp_id row.id typed,
      not-true (has_key bytes_eq store_id before row.id) parts.1,
      kept_read
          row.meta parts.0 (codes "metadata"),
    )

pub store_row_dates : (row : StoreRow) → members_have_valid_dates (store_members row) ≡ true
store_row_dates row = and_from _ _ (metadata_dates row.meta) refl

kept_within : (row : StoreRow) → is_kept_row row ≡ true → members_depth (store_members row) ≤ 33
kept_within row kept = max-le (zero_within 33) (max-le (metadata_within row.meta kept) (zero_within 33))

pub store_row_within : (before : List StoreRow) (row : StoreRow)
    → may_follow bytes_eq store_id is_kept_row before row ≡ true → members_depth (store_members row) ≤ 33
store_row_within = distinct_row_within bytes_eq store_id is_kept_row store_members 33 kept_within

store_follows : (rows : List StoreRow) → is_store rows ≡ true
    → all_follow (may_follow bytes_eq store_id is_kept_row) [] rows ≡ true
store_follows rows sound =
    let parts = and_parts (list_all is_kept_row rows) (are_distinct bytes_eq store_id rows) sound in
    distinct_rows_follow bytes_eq store_id is_kept_row bytes_eq-symmetric rows parts.0 parts.1

pub store_read : (rows : List StoreRow) → list_all has_id rows ≡ true → is_store rows ≡ true
    → rows_of store_row_in (store_data rows) ≡ Ok rows
store_read rows typed sound = rows_read store_members store_row_in has_id
    (may_follow bytes_eq store_id is_kept_row) store_row_read rows typed (store_follows rows sound)

pub store_dates : (rows : List StoreRow) → has_valid_dates (store_data rows) ≡ true
store_dates rows = list_dates (table_data store_members) store_row_dates rows

pub store_within : (rows : List StoreRow) → is_store rows ≡ true → depth (store_data rows) ≤ 35
store_within rows sound = rows_within store_members store_row_in has_id
    (may_follow bytes_eq store_id is_kept_row) 33 store_row_within rows (store_follows rows sound)
