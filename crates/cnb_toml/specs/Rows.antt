-- Lists of tables in which a table is read in view of those before it.
use Rattle.std.specs.Prelude.{ℕ, ◌+◌, ◌++◌, List, [], ◌∷◌, Result, Ok}
use Rattle.std.specs.Fmt.{decimal}
use Rattle.toml.specs.Data.{Items, no_items, item, as_array}
use Rattle.cnb_toml.specs.declared.fault.DocFault.{DocFault}
use Rattle.cnb_toml.specs.Form.{Form, TableForm, or_wrong, table_of}
use Rattle.cnb_toml.specs.Reading.{◌>>=◌, under}

-- how a table is read behind others
abbrev pub RowForm : Type 0 → Type 0
RowForm A = List A → TableForm A

-- the rows read before, and those of the values, the first of which stands at this place of its list
abbrev pub rows_in : {A : Type 0} → RowForm A → List A → ℕ → Items → Result (List A) DocFault
rows_in form before place no_items = Ok before
rows_in form before place (item value values) = do
  row ← under (decimal place) (table_of (form before) value)
  rows_in form (before ++ row ∷ []) (place + 1) values

abbrev pub rows_of : {A : Type 0} → RowForm A → Form (List A)
rows_of form value = or_wrong (as_array value) >>= rows_in form [] 0
