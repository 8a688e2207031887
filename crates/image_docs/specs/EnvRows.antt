-- The environment of an image: a list of names and values.
use Rattle.std.specs.Prelude.{ℕ, Bool, not, ◌&&◌, ◌==◌, List, [], Result, Ok, Err, codes, if◌then◌else◌}
use Rattle.std.specs.List.{list_all}
use Rattle.toml.specs.Data.{string, Data, Members, no_members, member}
use Rattle.cnb_world.specs.declared.env.Variable.{Variable}
use Rattle.cnb_world.specs.Env.{is_ascending}
use Rattle.cnb_toml.specs.declared.fault.DocFault.{DocFault}
use Rattle.cnb_toml.specs.declared.fault.DocFault.TheVariants.{Wrong}
use Rattle.cnb_toml.specs.Fields.{required_at, value_or}
use Rattle.cnb_toml.specs.Form.{Form, TableForm, text_of, table_of, list_of}
use Rattle.cnb_toml.specs.Reading.{◌>>=◌}
use Rattle.cnb_toml.specs.Written.{is_filled, list_data, table_data}

abbrev pub variable_in : TableForm Variable
variable_in table = do
  name ← required_at text_of (codes "name") table
  value ← required_at text_of (codes "value") table
  Ok (record { name = name; value = value })

-- no `=` and no zero byte
abbrev pub is_name_byte : ℕ → Bool
is_name_byte byte = not (byte == 61) && not (byte == 0)

-- a variable that a child can be given
abbrev pub is_variable : Variable → Bool
is_variable variable = is_filled variable.name && list_all is_name_byte variable.name
    && list_all (λ byte. not (byte == 0)) variable.value

-- variables with ascending names
abbrev pub is_env : List Variable → Bool
is_env variables = list_all is_variable variables && is_ascending variables

abbrev pub env_in : List Variable → Result (List Variable) DocFault
env_in variables = if is_env variables then Ok variables else Err (Wrong [])

abbrev pub env_of : Form (List Variable)
env_of value = list_of (table_of variable_in) value >>= env_in

-- an environment, empty where it isn't there
abbrev pub env_at : TableForm (List Variable)
env_at table = value_or [] env_of (codes "env") table

-- what is written of it
abbrev pub variable_members : Variable → Members
variable_members variable = member (codes "name") (string variable.name)
    (member (codes "value") (string variable.value) no_members)

abbrev pub env_data : List Variable → Data
env_data variables = list_data (table_data variable_members) variables
