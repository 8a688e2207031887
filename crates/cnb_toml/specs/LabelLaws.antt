-- A label reads back.
use Rattle.std.specs.Prelude.{◌≡◌, true, Ok}
use Rattle.cnb_toml.specs.declared.label.Label.{Label}
use Rattle.cnb_toml.specs.Label.{label_in, is_label, label_members}
use Rattle.cnb_toml.specs.WrittenLaws.{filled_read}

pub label_read : (label : Label) → true ≡ true → is_label label ≡ true → label_in (label_members label) ≡ Ok label
label_read label typed sound = rw (filled_read label.key sound)
