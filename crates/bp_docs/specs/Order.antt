-- Orders (platform.md, "order.toml (TOML)"; buildpack.md, "buildpack.toml (TOML)", `order`).
use Rattle.std.specs.Prelude.{ℕ, ◌==◌, List, [], length, Option, Some, None, Result, Ok, Err, codes, if◌then◌else◌}
use Rattle.cnb_toml.specs.declared.fault.DocFault.{DocFault}
use Rattle.cnb_toml.specs.declared.fault.DocFault.TheVariants.{Name}
use Rattle.cnb_toml.specs.Document.{document_in}
use Rattle.cnb_toml.specs.Reading.{◌>>=◌}
use Rattle.cnb_toml.specs.Fields.{required_at, value_or, truth_at, list_at, filled_list_at}
use Rattle.cnb_toml.specs.Form.{Form, TableForm, text_of, name_of, table_of}
use Rattle.cnb_toml.specs.Names.{is_bp_id, is_bp_version}
use Rattle.bp_docs.specs.declared.descriptor.Entry.{Entry}

-- a version, where an empty text is none
abbrev pub version_or_none : List ℕ → Result (Option (List ℕ)) DocFault
version_or_none text = if length text == 0 then Ok None else if is_bp_version text then Ok (Some text) else Err
    (Name [])

abbrev pub optional_version_of : Form (Option (List ℕ))
optional_version_of value = text_of value >>= version_or_none

-- an entry of a group
abbrev pub entry_in : TableForm Entry
entry_in table = do
  id ← required_at (name_of is_bp_id) (codes "id") table
  version ← value_or None optional_version_of (codes "version") table
  optional ← truth_at (codes "optional") table
  Ok (record { id = id; version = version; optional = optional })

-- a group, which has an entry
abbrev pub group_in : TableForm (List Entry)
group_in table = filled_list_at (table_of entry_in) (codes "group") table

-- the groups of a table, in the order in which they are tried
abbrev pub order_at : TableForm (List (List Entry))
order_at table = list_at (table_of group_in) (codes "order") table

-- the order that the bytes of an order file read as
unfoldable pub order_in : List ℕ → Result (List (List Entry)) DocFault
order_in bytes = document_in bytes >>= order_at
