-- A requirement: a name, and what is said about it (buildpack.md, "Build Plan (TOML)").
use Rattle.std.specs.Prelude.{Bool, Ok, codes}
use Rattle.toml.specs.Data.{string, Members, no_members, member}
use Rattle.cnb_toml.specs.declared.meta.Need.{Need}
use Rattle.cnb_toml.specs.Fields.{required_at}
use Rattle.cnb_toml.specs.Form.{TableForm, text_of}
use Rattle.cnb_toml.specs.Meta.{metadata_in, is_kept}
use Rattle.cnb_toml.specs.Reading.{◌>>=◌}
use Rattle.cnb_toml.specs.Written.{metadata_data}

abbrev pub need_in : TableForm Need
need_in table = do
  name ← required_at text_of (codes "name") table
  meta ← metadata_in table
  Ok (record { name = name; meta = meta })

-- a requirement that can be read
abbrev pub is_kept_need : Need → Bool
is_kept_need need = is_kept need.meta

-- what is written of it
abbrev pub need_members : Need → Members
need_members need = member (codes "metadata") (metadata_data need.meta)
    (member (codes "name") (string need.name) no_members)
