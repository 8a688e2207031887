-- `analyzed.toml`, in this project's own layout (platform.md, "analyzed.toml (TOML)").
use Rattle.std.specs.Prelude.{ℕ, Bool, true, ◌&&◌, List, Option, Some, None, Result, Ok, codes}
use Rattle.toml.specs.Data.{string, Members, no_members, member}
use Rattle.cnb_toml.specs.declared.fault.DocFault.{DocFault}
use Rattle.cnb_toml.specs.Document.{document_of}
use Rattle.cnb_toml.specs.Fields.{required_at, optional_at}
use Rattle.cnb_toml.specs.Form.{TableForm, name_of}
use Rattle.cnb_toml.specs.Names.{is_image_name, is_target_name}
use Rattle.cnb_toml.specs.Reading.{◌>>=◌}
use Rattle.image_docs.specs.declared.analyzed.Analyzed.{Analyzed}

abbrev pub table_in : TableForm Analyzed
table_in table = do
  run ← required_at (name_of is_image_name) (codes "run") table
  os ← required_at (name_of is_target_name) (codes "os") table
  arch ← required_at (name_of is_target_name) (codes "arch") table
  previous ← optional_at (name_of is_image_name) (codes "previous") table
  Ok (record { run = run; os = os; arch = arch; previous = previous })

-- the document that bytes read as, or their first fault
abbrev pub analyzed_in : List ℕ → Result Analyzed DocFault
analyzed_in bytes = document_of table_in bytes

abbrev pub is_optional_name : Option (List ℕ) → Bool
is_optional_name None = true
is_optional_name (Some name) = is_image_name name

abbrev pub has_names : Analyzed → Bool
has_names analyzed = is_image_name analyzed.run && is_optional_name analyzed.previous

-- a document that can be read
abbrev pub is_analyzed : Analyzed → Bool
is_analyzed analyzed = is_target_name analyzed.os && is_target_name analyzed.arch

-- what is written of it
abbrev pub with_previous : Option (List ℕ) → Members → Members
with_previous None members = members
with_previous (Some name) members = member (codes "previous") (string name) members

abbrev pub analyzed_members : Analyzed → Members
analyzed_members analyzed =
    member (codes "arch") (string analyzed.arch) (member (codes "os") (string analyzed.os)
    (with_previous analyzed.previous (member (codes "run") (string analyzed.run) no_members)))
