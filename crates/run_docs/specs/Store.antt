-- `store.toml` (buildpack.md, "store.toml (TOML)").
use Rattle.std.specs.Prelude.{ℕ, Bool, List, Result, Ok, codes}
use Rattle.toml.specs.Data.{Members, no_members, member}
use Rattle.cnb_toml.specs.declared.fault.DocFault.{DocFault}
use Rattle.cnb_toml.specs.Document.{document_of}
use Rattle.cnb_toml.specs.Form.{TableForm}
use Rattle.cnb_toml.specs.Meta.{metadata_in, is_kept}
use Rattle.cnb_toml.specs.Reading.{◌>>=◌}
use Rattle.cnb_toml.specs.Written.{metadata_data}
use Rattle.run_docs.specs.declared.store.StoreToml.{StoreToml}

abbrev pub table_in : TableForm StoreToml
table_in table = do
  meta ← metadata_in table
  Ok (record { meta = meta })

-- the store that bytes read as, or their first fault
abbrev pub store_in : List ℕ → Result StoreToml DocFault
store_in bytes = document_of table_in bytes

-- a store that can be read
abbrev pub is_store_toml : StoreToml → Bool
is_store_toml store = is_kept store.meta

-- what is written of it
abbrev pub store_members : StoreToml → Members
store_members store = member (codes "metadata") (metadata_data store.meta) no_members
