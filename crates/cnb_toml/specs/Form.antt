-- What the values of a document are read as. The path of a fault begins at the value: it is empty where the value
-- itself is at fault.
use Rattle.std.specs.Prelude.{ℕ, ℤ, Bool, ◌+◌, List, [], ◌∷◌, Option, Some, None, Result, Ok, Err, if◌then◌else◌}
use Rattle.std.specs.Fmt.{decimal}
use Rattle.toml.specs.Data.{Data, Items, no_items, item, Members, as_str, as_bool, as_integer, as_table, as_array}
use Rattle.cnb_toml.specs.declared.fault.DocFault.{DocFault}
use Rattle.cnb_toml.specs.declared.fault.DocFault.TheVariants.{Wrong, Name}
use Rattle.cnb_toml.specs.Reading.{◌>>=◌, under}

-- how a value is read
abbrev pub Form : Type 0 → Type 0
Form A = Data → Result A DocFault

-- how a table is read
abbrev pub TableForm : Type 0 → Type 0
TableForm A = Members → Result A DocFault

-- a value of the right kind, or a fault
abbrev pub or_wrong : {A : Type 0} → Option A → Result A DocFault
or_wrong (Some value) = Ok value
or_wrong None = Err (Wrong [])

abbrev pub text_of : Form (List ℕ)
text_of value = or_wrong (as_str value)

abbrev pub truth_of : Form Bool
truth_of value = or_wrong (as_bool value)

abbrev pub whole_of : Form ℤ
whole_of value = or_wrong (as_integer value)

-- a text that isn't empty
abbrev pub filled_text : List ℕ → Result (List ℕ) DocFault
filled_text [] = Err (Wrong [])
filled_text (byte ∷ text) = Ok (byte ∷ text)

abbrev pub filled_text_of : Form (List ℕ)
filled_text_of value = text_of value >>= filled_text

-- a text of a name's form
abbrev pub name_of : (List ℕ → Bool) → Form (List ℕ)
name_of is_name value = text_of value >>= (λ text. if is_name text then Ok text else Err (Name []))

abbrev pub table_of : {A : Type 0} → TableForm A → Form A
table_of form value = or_wrong (as_table value) >>= form

-- values in order, the first of which stands at this place of its list
abbrev pub items_in : {A : Type 0} → Form A → ℕ → Items → Result (List A) DocFault
items_in form place no_items = Ok []
items_in form place (item value values) = do
  first ← under (decimal place) (form value)
  rest ← items_in form (place + 1) values
  Ok (first ∷ rest)

abbrev pub list_of : {A : Type 0} → Form A → Form (List A)
list_of form value = or_wrong (as_array value) >>= items_in form 0
