-- The run image that an image stands on.
use Rattle.std.specs.Prelude.{Bool, ◌&&◌, Ok, codes}
use Rattle.toml.specs.Data.{string, Members, no_members, member}
use Rattle.cnb_toml.specs.Fields.{required_at}
use Rattle.cnb_toml.specs.Form.{TableForm, name_of}
use Rattle.cnb_toml.specs.Names.{is_image_name, is_target_name}
use Rattle.cnb_toml.specs.Reading.{◌>>=◌}
use Rattle.image_docs.specs.declared.base.Base.{Base}
use Rattle.image_docs.specs.DigestText.{digest_of, is_digest, digest_data}

abbrev pub base_in : TableForm Base
base_in table = do
  name ← required_at (name_of is_image_name) (codes "name") table
  top ← required_at digest_of (codes "top") table
  os ← required_at (name_of is_target_name) (codes "os") table
  arch ← required_at (name_of is_target_name) (codes "arch") table
  Ok (record { name = name; top = top; os = os; arch = arch })

abbrev pub has_base_names : Base → Bool
has_base_names base = is_image_name base.name && is_digest base.top

-- a base that can be read
abbrev pub is_base : Base → Bool
is_base base = is_target_name base.os && is_target_name base.arch

-- what is written of it
abbrev pub base_members : Base → Members
base_members base =
    member (codes "arch") (string base.arch) (member (codes "name") (string base.name)
    (member (codes "os") (string base.os) (member (codes "top") (digest_data base.top) no_members)))
