-- The keys of a table.
use Rattle.std.specs.Prelude.{ℕ, Bool, false, List, [], ◌∷◌, Option, Some, None, Result, Ok, Err}
use Rattle.toml.specs.Data.{Data, Members, get_member}
use Rattle.cnb_toml.specs.declared.fault.DocFault.{DocFault}
use Rattle.cnb_toml.specs.declared.fault.DocFault.TheVariants.{Missing, Wrong}
use Rattle.cnb_toml.specs.Reading.{◌>>=◌, under}
use Rattle.cnb_toml.specs.Form.{Form, truth_of, list_of}

abbrev pub read_required : {A : Type 0} → Form A → List ℕ → Option Data → Result A DocFault
read_required form key (Some value) = under key (form value)
read_required form key None = Err (Missing key)

-- a key that must be there
abbrev pub required_at : {A : Type 0} → Form A → List ℕ → Members → Result A DocFault
required_at form key table = read_required form key (get_member key table)

abbrev pub read_or : {A : Type 0} → A → Form A → List ℕ → Option Data → Result A DocFault
read_or absent form key (Some value) = under key (form value)
read_or absent form key None = Ok absent

-- a key that stands for a value where it isn't there
abbrev pub value_or : {A : Type 0} → A → Form A → List ℕ → Members → Result A DocFault
value_or absent form key table = read_or absent form key (get_member key table)

abbrev pub some_of : {A : Type 0} → Form A → Form (Option A)
some_of form value = form value >>= (λ read. Ok (Some read))

-- a key that may be left out
abbrev pub optional_at : {A : Type 0} → Form A → List ℕ → Members → Result (Option A) DocFault
optional_at form key table = value_or None (some_of form) key table

-- a truth value, false where it isn't there
abbrev pub truth_at : List ℕ → Members → Result Bool DocFault
truth_at key table = value_or false truth_of key table

-- a list, empty where it isn't there
abbrev pub list_at : {A : Type 0} → Form A → List ℕ → Members → Result (List A) DocFault
list_at form key table = value_or [] (list_of form) key table

-- a list of at least one item
abbrev pub filled : {A : Type 0} → List ℕ → List A → Result (List A) DocFault
filled key [] = Err (Wrong key)
filled key (first ∷ rest) = Ok (first ∷ rest)

abbrev pub filled_list_at : {A : Type 0} → Form A → List ℕ → Members → Result (List A) DocFault
filled_list_at form key table = list_at form key table >>= filled key
