-- A group reads back.
use Rattle.std.specs.Prelude.{◌≡◌, ◌≤◌, Bool, true, List, Ok}
use Rattle.std.specs.List.{list_all}
use Rattle.std.specs.Str.{bytes_eq}
use Rattle.std.proofs.Common.{refl}
use Rattle.std.proofs.Math.Nat.{max-le}
use Rattle.std.proofs.lemmas.Bool.{and_parts, and_from, not-true}
use Rattle.toml.specs.Data.{members_depth, members_have_valid_dates}
use Rattle.cnb_toml.specs.Distinct.{is_new}
use Rattle.cnb_toml.specs.DistinctLaws.{bytes_eq-symmetric, distinct_follow}
use Rattle.cnb_toml.specs.Names.{is_bp_id, is_bp_version}
use Rattle.cnb_toml.specs.Written.{table_data}
use Rattle.cnb_toml.specs.WrittenLaws.{zero_within, name_read, list_dates, rows_read, rows_within}
use Rattle.run_docs.specs.declared.group.GroupRow.{GroupRow}
use Rattle.run_docs.specs.Group.{row_id, is_listed, row_in, rows_in, is_group_doc, is_row, row_members, group_members}

pub row_read : (before : List GroupRow) (row : GroupRow) → is_row row ≡ true
    → is_new bytes_eq row_id before row ≡ true → row_in before (row_members row) ≡ Ok row
row_read before row named new =
    let parts = and_parts (is_bp_id row.key.id) (is_bp_version row.key.version) named in
    rw (
      name_read is_bp_id row.key.id parts.0,
      not-true (is_listed before row.key.id) new,
      name_read is_bp_version
          row.key.version parts.1,
    )

pub group_read : (rows : List GroupRow) → list_all is_row rows ≡ true → is_group_doc rows ≡ true
    → rows_in (group_members rows) ≡ Ok rows
group_read rows named sound =
    rw (rows_read row_members row_in is_row (is_new bytes_eq row_id) row_read rows named
    (distinct_follow bytes_eq row_id bytes_eq-symmetric rows sound))

pub group_dates : (rows : List GroupRow) → members_have_valid_dates (group_members rows) ≡ true
group_dates rows = and_from _ _ (list_dates (table_data row_members) (λ row. refl) rows) refl

pub group_within : (rows : List GroupRow) → is_group_doc rows ≡ true → members_depth (group_members rows) ≤ 2
group_within rows sound =
    max-le (rows_within row_members row_in is_row (is_new bytes_eq row_id) 0
    (λ before row new. zero_within 0) rows (distinct_follow bytes_eq row_id bytes_eq-symmetric rows sound))
    (zero_within 2)
