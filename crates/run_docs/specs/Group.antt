-- `group.toml` (platform.md, "group.toml (TOML)").
use Rattle.std.specs.Prelude.{ℕ, Bool, List, [], ◌∷◌, Option, Result, Ok, Err, codes, if◌then◌else◌, not}
use Rattle.std.specs.List.{find}
use Rattle.std.specs.Str.{bytes_eq}
use Rattle.toml.specs.Data.{string, Members, no_members, member}
use Rattle.cnb_toml.specs.declared.fault.DocFault.{DocFault}
use Rattle.cnb_toml.specs.declared.fault.DocFault.TheVariants.{Wrong}
use Rattle.cnb_toml.specs.Api.{is_served}
use Rattle.cnb_toml.specs.Distinct.{has_key, are_distinct}
use Rattle.cnb_toml.specs.Document.{document_of}
use Rattle.cnb_toml.specs.Fields.{required_at, value_or}
use Rattle.cnb_toml.specs.Form.{TableForm, text_of, name_of}
use Rattle.cnb_toml.specs.Keys.{is_key}
use Rattle.cnb_toml.specs.Names.{is_bp_id, is_bp_version}
use Rattle.cnb_toml.specs.Reading.{◌>>=◌}
use Rattle.cnb_toml.specs.Rows.{RowForm, rows_of}
use Rattle.cnb_toml.specs.Written.{list_data, table_data}
use Rattle.run_docs.specs.declared.group.GroupRow.{GroupRow}

abbrev pub row_id : GroupRow → List ℕ
row_id row = row.key.id

-- whether one of the rows has this id
abbrev pub is_listed : List GroupRow → List ℕ → Bool
is_listed rows id = has_key bytes_eq row_id rows id

-- an id that no row before has
abbrev pub new_id : List GroupRow → List ℕ → Result (List ℕ) DocFault
new_id before id = if is_listed before id then Err (Wrong (codes "id")) else Ok id

-- a row behind others
abbrev pub row_in : RowForm GroupRow
row_in before table = do
  id ← required_at (name_of is_bp_id) (codes "id") table
  new ← new_id before id
  version ← required_at (name_of is_bp_version) (codes "version") table
  api ← required_at text_of (codes "api") table
  Ok (record { key = record { id = id; version = version }; api = api })

abbrev pub rows_in : TableForm (List GroupRow)
rows_in table = value_or [] (rows_of row_in) (codes "group") table

-- the group that bytes read as, or their first fault
abbrev pub group_in : List ℕ → Result (List GroupRow) DocFault
group_in bytes = document_of rows_in bytes

-- a group that can be read: no two rows have one id
abbrev pub is_group_doc : List GroupRow → Bool
is_group_doc rows = are_distinct bytes_eq row_id rows

-- what is written of it
abbrev pub is_row : GroupRow → Bool
is_row row = is_key row.key

abbrev pub row_members : GroupRow → Members
row_members row =
    member (codes "api") (string row.api) (member (codes "id") (string row.key.id)
    (member (codes "version") (string row.key.version) no_members))

abbrev pub group_members : List GroupRow → Members
group_members rows = member (codes "group") (list_data (table_data row_members) rows) no_members

-- the first buildpack of another Buildpack API than the one that is served
abbrev pub foreign_among : List GroupRow → Option GroupRow
foreign_among group = find (λ row. not (is_served row.api)) group
