-- `launch.toml` (buildpack.md, "launch.toml (TOML)").
use Rattle.std.specs.Prelude.{ℕ, Bool, ◌&&◌, List, Result, Ok, codes}
use Rattle.std.specs.List.{list_all}
use Rattle.toml.specs.Data.{string, Members, no_members, member}
use Rattle.cnb_toml.specs.declared.fault.DocFault.{DocFault}
use Rattle.cnb_toml.specs.Document.{document_of}
use Rattle.cnb_toml.specs.Fields.{list_at}
use Rattle.cnb_toml.specs.Form.{TableForm, text_of, table_of}
use Rattle.cnb_toml.specs.Label.{label_in, is_label, label_members}
use Rattle.cnb_toml.specs.Process.{process_in, has_type, is_process, process_members}
use Rattle.cnb_toml.specs.Reading.{◌>>=◌}
use Rattle.cnb_toml.specs.Written.{list_data, table_data}
use Rattle.run_docs.specs.declared.launch.LaunchToml.{LaunchToml}

abbrev pub slice_in : TableForm (List (List ℕ))
slice_in table = list_at text_of (codes "paths") table

abbrev pub table_in : TableForm LaunchToml
table_in table = do
  labels ← list_at (table_of label_in) (codes "labels") table
  processes ← list_at (table_of process_in) (codes "processes") table
  slices ← list_at (table_of slice_in) (codes "slices") table
  Ok (record { labels = labels; processes = processes; slices = slices })

-- the document that bytes read as, or their first fault
abbrev pub launch_in : List ℕ → Result LaunchToml DocFault
launch_in bytes = document_of table_in bytes

abbrev pub has_types : LaunchToml → Bool
has_types launch = list_all has_type launch.processes

-- a document that can be read
abbrev pub is_launch_toml : LaunchToml → Bool
is_launch_toml launch = list_all is_label launch.labels && list_all is_process launch.processes

-- what is written of it
abbrev pub slice_members : List (List ℕ) → Members
slice_members paths = member (codes "paths") (list_data string paths) no_members

abbrev pub launch_members : LaunchToml → Members
launch_members launch =
    member (codes "labels") (list_data (table_data label_members) launch.labels)
    (member (codes "processes") (list_data (table_data process_members) launch.processes)
    (member (codes "slices") (list_data (table_data slice_members) launch.slices) no_members))
