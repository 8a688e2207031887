-- What tells one buildpack from another: its id and its version.
use Rattle.std.specs.Prelude.{Bool, ◌&&◌, Ok, codes}
use Rattle.std.specs.Str.{bytes_eq}
use Rattle.toml.specs.Data.{string, Members, no_members, member}
use Rattle.cnb_toml.specs.declared.names.Key.{Key}
use Rattle.cnb_toml.specs.Reading.{◌>>=◌}
use Rattle.cnb_toml.specs.Fields.{required_at}
use Rattle.cnb_toml.specs.Form.{TableForm, name_of}
use Rattle.cnb_toml.specs.Names.{is_bp_id, is_bp_version}

-- whether two keys have the same id and the same version
abbrev pub same_key : Key → Key → Bool
same_key a b = bytes_eq a.id b.id && bytes_eq a.version b.version

-- a table with `id` and `version`
abbrev pub key_in : TableForm Key
key_in table = do
  id ← required_at (name_of is_bp_id) (codes "id") table
  version ← required_at (name_of is_bp_version) (codes "version") table
  Ok (record { id = id; version = version })

-- the id and the version are of their form
abbrev pub is_key : Key → Bool
is_key key = is_bp_id key.id && is_bp_version key.version

-- what is written of it
abbrev pub key_members : Key → Members
key_members key = member (codes "id") (string key.id) (member (codes "version") (string key.version) no_members)
