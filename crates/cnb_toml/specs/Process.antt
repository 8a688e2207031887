-- A process of an image (buildpack.md, "launch.toml (TOML)").
use Rattle.std.specs.Prelude.{ℕ, Bool, true, ◌&&◌, List, Option, Some, None, Ok, codes}
use Rattle.toml.specs.Data.{string, boolean, Members, no_members, member}
use Rattle.cnb_world.specs.Path.{is_short_path}
use Rattle.cnb_toml.specs.declared.process.Process.{Process}
use Rattle.cnb_toml.specs.Fields.{required_at, optional_at, truth_at, list_at, filled_list_at}
use Rattle.cnb_toml.specs.Form.{TableForm, text_of, name_of}
use Rattle.cnb_toml.specs.Names.{is_process_type}
use Rattle.cnb_toml.specs.Reading.{◌>>=◌}
use Rattle.cnb_toml.specs.Written.{list_data, is_filled}

abbrev pub process_in : TableForm Process
process_in table = do
  kind ← required_at (name_of is_process_type) (codes "type") table
  command ← filled_list_at text_of (codes "command") table
  args ← list_at text_of (codes "args") table
  default ← truth_at (codes "default") table
  dir ← optional_at (name_of is_short_path) (codes "working-dir") table
  Ok (record { kind = kind; command = command; args = args; default = default; dir = dir })

abbrev pub has_type : Process → Bool
has_type process = is_process_type process.kind

-- a working folder that can be read
abbrev pub is_working_dir : Option (List ℕ) → Bool
is_working_dir None = true
is_working_dir (Some dir) = is_short_path dir

-- a process that can be read
abbrev pub is_process : Process → Bool
is_process process = is_filled process.command && is_working_dir process.dir

-- what is written of it
abbrev pub dir_members : Option (List ℕ) → Members
dir_members None = no_members
dir_members (Some dir) = member (codes "working-dir") (string dir) no_members

abbrev pub process_members : Process → Members
process_members process =
    member (codes "args") (list_data string process.args) (member (codes "command") (list_data string process.command)
    (member (codes "default") (boolean process.default)
    (member (codes "type") (string process.kind) (dir_members process.dir))))
