-- A run image, in this project's own layout.
use Rattle.std.specs.Prelude.{ℕ, Bool, ◌&&◌, List, Result, Ok, codes}
use Rattle.std.specs.List.{list_all}
use Rattle.toml.specs.Data.{string, Members, no_members, member}
use Rattle.cnb_toml.specs.declared.fault.DocFault.{DocFault}
use Rattle.cnb_toml.specs.Document.{document_of}
use Rattle.cnb_toml.specs.Fields.{required_at, filled_list_at}
use Rattle.cnb_toml.specs.Form.{TableForm, name_of}
use Rattle.cnb_toml.specs.Names.{is_target_name}
use Rattle.cnb_toml.specs.Reading.{◌>>=◌}
use Rattle.cnb_toml.specs.Written.{is_filled, list_data}
use Rattle.image_docs.specs.declared.run_image.RunDoc.{RunDoc}
use Rattle.image_docs.specs.DigestText.{digest_of, is_digest, digest_data}
use Rattle.image_docs.specs.EnvRows.{env_at, is_env, env_data}

abbrev pub table_in : TableForm RunDoc
table_in table = do
  os ← required_at (name_of is_target_name) (codes "os") table
  arch ← required_at (name_of is_target_name) (codes "arch") table
  rows ← filled_list_at digest_of (codes "rows") table
  env ← env_at table
  Ok (record { os = os; arch = arch; rows = rows; env = env })

-- the run image that bytes read as, or their first fault
abbrev pub run_in : List ℕ → Result RunDoc DocFault
run_in bytes = document_of table_in bytes

abbrev pub has_digests : RunDoc → Bool
has_digests run = list_all is_digest run.rows

-- a run image that can be read
abbrev pub is_run_doc : RunDoc → Bool
is_run_doc run = is_target_name run.os && is_target_name run.arch && (is_filled run.rows && is_env run.env)

-- what is written of it
abbrev pub run_members : RunDoc → Members
run_members run =
    member (codes "arch") (string run.arch) (member (codes "env") (env_data run.env)
    (member (codes "os") (string run.os) (member (codes "rows") (list_data digest_data run.rows) no_members)))
