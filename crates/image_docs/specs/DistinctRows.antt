-- Rows of which the later of two with one key is refused, once it is whole.
use Rattle.std.specs.Prelude.{Bool, ◌&&◌, List, [], Result, Ok, Err, if◌then◌else◌}
use Rattle.cnb_toml.specs.declared.fault.DocFault.{DocFault}
use Rattle.cnb_toml.specs.declared.fault.DocFault.TheVariants.{Wrong}
use Rattle.cnb_toml.specs.Distinct.{has_key, is_new}
use Rattle.cnb_toml.specs.Form.{TableForm}
use Rattle.cnb_toml.specs.Reading.{◌>>=◌}
use Rattle.cnb_toml.specs.Rows.{RowForm}

module _ {A K : Type 0} (eq : K → K → Bool) (key_of : A → K) where
  abbrev pub unless_listed : List A → A → Result A DocFault
  unless_listed before row = if has_key eq key_of before (key_of row) then Err (Wrong []) else Ok row

  abbrev pub distinct_row : TableForm A → RowForm A
  distinct_row form before table = form table >>= unless_listed before

  -- a row that can be read behind others
  abbrev pub may_follow : (A → Bool) → List A → A → Bool
  may_follow is_sound before row = is_sound row && is_new eq key_of before row
