-- How an image is launched, in this project's own layout.
use Rattle.std.specs.Prelude.{ℕ, Bool, true, ◌&&◌, List, [], Option, Some, None, Result, Ok, codes}
use Rattle.std.specs.List.{list_all}
use Rattle.std.specs.Str.{bytes_eq}
use Rattle.toml.specs.Data.{string, Members, no_members, member}
use Rattle.cnb_toml.specs.declared.fault.DocFault.{DocFault}
use Rattle.cnb_toml.specs.declared.process.Process.{Process}
use Rattle.cnb_toml.specs.Distinct.{are_distinct}
use Rattle.cnb_toml.specs.Document.{document_of}
use Rattle.cnb_toml.specs.Fields.{optional_at, list_at, value_or}
use Rattle.cnb_toml.specs.Form.{TableForm, name_of, table_of}
use Rattle.cnb_toml.specs.Keys.{key_in, is_key, key_members}
use Rattle.cnb_toml.specs.Names.{is_process_type}
use Rattle.cnb_toml.specs.Process.{process_in, has_type, is_process, process_members}
use Rattle.cnb_toml.specs.Reading.{◌>>=◌}
use Rattle.cnb_toml.specs.Rows.{RowForm, rows_of}
use Rattle.cnb_toml.specs.Written.{list_data, table_data}
use Rattle.image_docs.specs.declared.launch_doc.LaunchDoc.{LaunchDoc}
use Rattle.image_docs.specs.DistinctRows.{distinct_row}

abbrev pub process_kind : Process → List ℕ
process_kind process = process.kind

-- a process behind others, which has a type of its own
abbrev pub process_row_in : RowForm Process
process_row_in = distinct_row bytes_eq process_kind process_in

abbrev pub launch_doc_table_in : TableForm LaunchDoc
launch_doc_table_in table = do
  buildpacks ← list_at (table_of key_in) (codes "buildpacks") table
  processes ← value_or [] (rows_of process_row_in) (codes "processes") table
  default ← optional_at (name_of is_process_type) (codes "default") table
  Ok (record { buildpacks = buildpacks; processes = processes; default = default })

-- the document that bytes read as, or their first fault
abbrev pub launch_doc_in : List ℕ → Result LaunchDoc DocFault
launch_doc_in bytes = document_of launch_doc_table_in bytes

abbrev pub is_optional_type : Option (List ℕ) → Bool
is_optional_type None = true
is_optional_type (Some kind) = is_process_type kind

abbrev pub has_launch_names : LaunchDoc → Bool
has_launch_names launch = list_all is_key launch.buildpacks
    && (list_all has_type launch.processes && is_optional_type launch.default)

-- a document that can be read
abbrev pub is_launch_doc : LaunchDoc → Bool
is_launch_doc launch = list_all is_process launch.processes && are_distinct bytes_eq process_kind launch.processes

-- what is written of it
abbrev pub with_default : Option (List ℕ) → Members → Members
with_default None members = members
with_default (Some kind) members = member (codes "default") (string kind) members

abbrev pub launch_doc_members : LaunchDoc → Members
launch_doc_members launch =
    member (codes "buildpacks") (list_data (table_data key_members) launch.buildpacks)
    (with_default launch.default (member (codes "processes")
    (list_data (table_data process_members) launch.processes) no_members))
