-- The rows of an image read back.
use Rattle.std.specs.Prelude.{◌≡◌, ◌≤◌, true, List, Ok}
use Rattle.std.specs.List.{list_all}
use Rattle.std.proofs.Common.{refl}
use Rattle.std.proofs.Math.Nat.{le_refl}
use Rattle.std.proofs.lemmas.Bool.{and_parts, cond-true}
use Rattle.toml.specs.Data.{depth, has_valid_dates}
use Rattle.cnb_world.specs.Path.{is_short_path}
use Rattle.cnb_toml.specs.Form.{table_of, list_of}
use Rattle.cnb_toml.specs.Written.{table_data}
use Rattle.cnb_toml.specs.WrittenLaws.{all_true, name_read, list_read, list_dates, list_within}
use Rattle.image_docs.specs.declared.row.Role.{Role}
use Rattle.image_docs.specs.declared.row.Role.TheVariants.{Run, Layer, App, Launcher, Process}
use Rattle.image_docs.specs.declared.row.Row.{Row}
use Rattle.image_docs.specs.By.{is_by}
use Rattle.image_docs.specs.ByLaws.{by_read}
use Rattle.image_docs.specs.DigestTextLaws.{digest_read}
use Rattle.image_docs.specs.Row.{role_of, role_data, row_in, are_ordered, ordered_rows, has_digest, is_row, row_members}
use Rattle.image_docs.specs.Row.{rows_data}

pub role_read : (role : Role) → role_of (role_data role) ≡ Ok role
role_read Run = refl
role_read Layer = refl
role_read App = refl
role_read Launcher = refl
role_read Process = refl

pub row_read : (row : Row) → has_digest row ≡ true → is_row row ≡ true → row_in (row_members row) ≡ Ok row
row_read row typed sound =
    let parts = and_parts (is_short_path row.place) (is_by row.by) sound in
    rw (
      role_read row.role,
      name_read is_short_path row.place parts.0,
      digest_read row.digest typed,
      by_read
          row.by parts.1,
    )

pub rows_read_list : (rows : List Row) → list_all has_digest rows ≡ true → list_all is_row rows ≡ true
    → list_of (table_of row_in) (rows_data rows) ≡ Ok rows
rows_read_list rows typed sound = list_read (table_data row_members)
    (table_of row_in) has_digest is_row row_read rows typed sound

pub ordered_read : (rows : List Row) → are_ordered rows ≡ true → ordered_rows rows ≡ Ok rows
ordered_read rows sound = cond-true (are_ordered rows) _ _ sound

pub rows_dates : (rows : List Row) → has_valid_dates (rows_data rows) ≡ true
rows_dates rows = list_dates (table_data row_members) (λ row. refl) rows

pub rows_within_list : (rows : List Row) → depth (rows_data rows) ≤ 2
rows_within_list rows = list_within (table_data row_members) (λ row. true) 1 (λ row sound. le_refl 1) rows
    (all_true rows)
