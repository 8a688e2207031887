-- What buildpacks keep for their next build, in an image.
use Rattle.std.specs.Prelude.{ℕ, Bool, ◌&&◌, List, Result, Ok, Err, codes, if◌then◌else◌}
use Rattle.std.specs.List.{list_all}
use Rattle.std.specs.Str.{bytes_eq}
use Rattle.toml.specs.Data.{Data, string, Members, no_members, member}
use Rattle.cnb_toml.specs.declared.fault.DocFault.{DocFault}
use Rattle.cnb_toml.specs.declared.fault.DocFault.TheVariants.{Wrong}
use Rattle.cnb_toml.specs.Distinct.{has_key, are_distinct}
use Rattle.cnb_toml.specs.Fields.{required_at}
use Rattle.cnb_toml.specs.Form.{name_of}
use Rattle.cnb_toml.specs.Meta.{metadata_in, is_kept}
use Rattle.cnb_toml.specs.Names.{is_bp_id}
use Rattle.cnb_toml.specs.Reading.{◌>>=◌}
use Rattle.cnb_toml.specs.Rows.{RowForm}
use Rattle.cnb_toml.specs.Written.{list_data, table_data, metadata_data}
use Rattle.image_docs.specs.declared.store_row.StoreRow.{StoreRow}

abbrev pub store_id : StoreRow → List ℕ
store_id row = row.id

-- an id that no row before has
abbrev pub new_id : List StoreRow → List ℕ → Result (List ℕ) DocFault
new_id before id = if has_key bytes_eq store_id before id then Err (Wrong (codes "id")) else Ok id

abbrev pub store_row_in : RowForm StoreRow
store_row_in before table = do
  id ← required_at (name_of is_bp_id) (codes "id") table
  new ← new_id before id
  meta ← metadata_in table
  Ok (record { id = id; meta = meta })

abbrev pub has_id : StoreRow → Bool
has_id row = is_bp_id row.id

-- rows that can be read: no two have one id, and each has kept metadata
abbrev pub is_kept_row : StoreRow → Bool
is_kept_row row = is_kept row.meta

abbrev pub is_store : List StoreRow → Bool
is_store rows = list_all is_kept_row rows && are_distinct bytes_eq store_id rows

-- what is written of them
abbrev pub store_members : StoreRow → Members
store_members row = member (codes "id") (string row.id) (member (codes "metadata") (metadata_data row.meta) no_members)

abbrev pub store_data : List StoreRow → Data
store_data rows = list_data (table_data store_members) rows
