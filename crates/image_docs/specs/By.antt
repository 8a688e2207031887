-- What made a row of an image: a text of one line, which isn't empty.
use Rattle.std.specs.Prelude.{ℕ, Bool, ◌&&◌, ◌++◌, List, [], nat_le, nat_lt, map, Result, Ok, Err, codes, if◌then◌else◌}
use Rattle.std.specs.List.{list_all}
use Rattle.cnb_toml.specs.declared.fault.DocFault.{DocFault}
use Rattle.cnb_toml.specs.declared.fault.DocFault.TheVariants.{Wrong}
use Rattle.cnb_toml.specs.Form.{Form, text_of}
use Rattle.cnb_toml.specs.Reading.{◌>>=◌}
use Rattle.cnb_toml.specs.Written.{is_filled}

-- no control byte
abbrev pub is_plain_byte : ℕ → Bool
is_plain_byte byte = nat_le 32 byte

abbrev pub is_plain : List ℕ → Bool
is_plain text = list_all is_plain_byte text

-- a text that says what made a row
abbrev pub is_by : List ℕ → Bool
is_by text = is_filled text && is_plain text

abbrev pub by_in : List ℕ → Result (List ℕ) DocFault
by_in text = if is_by text then Ok text else Err (Wrong [])

abbrev pub by_of : Form (List ℕ)
by_of value = text_of value >>= by_in

-- a control byte as `?`
abbrev pub plain_byte : ℕ → ℕ
plain_byte byte = if nat_lt byte 32 then 63 else byte

abbrev pub plain : List ℕ → List ℕ
plain text = map plain_byte text

-- what made the rows of a run image of this name
abbrev pub run_by : List ℕ → List ℕ
run_by name = codes "run " ++ name
