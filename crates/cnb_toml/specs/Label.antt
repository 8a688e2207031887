-- A label of an image (buildpack.md, "launch.toml (TOML)").
use Rattle.std.specs.Prelude.{Bool, Ok, codes}
use Rattle.toml.specs.Data.{string, Members, no_members, member}
use Rattle.cnb_toml.specs.declared.label.Label.{Label}
use Rattle.cnb_toml.specs.Fields.{required_at}
use Rattle.cnb_toml.specs.Form.{TableForm, text_of, filled_text_of}
use Rattle.cnb_toml.specs.Reading.{◌>>=◌}
use Rattle.cnb_toml.specs.Written.{is_filled}

abbrev pub label_in : TableForm Label
label_in table = do
  key ← required_at filled_text_of (codes "key") table
  value ← required_at text_of (codes "value") table
  Ok (record { key = key; value = value })

-- a label that can be read
abbrev pub is_label : Label → Bool
is_label label = is_filled label.key

-- what is written of it
abbrev pub label_members : Label → Members
label_members label = member (codes "key") (string label.key) (member (codes "value") (string label.value) no_members)
