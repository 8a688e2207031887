-- What an environment file does to its variable (buildpack.md, "Environment Variable Modification Rules").
use Rattle.std.specs.Prelude.{ℕ, ◌≡◌, ◌<◌, ◌&&◌, ◌||◌, Bool, List, [], ◌∷◌, ◌++◌, codes, if◌then◌else◌, length, take}
use Rattle.std.specs.Prelude.{Option, Some, None}
use Rattle.std.specs.Option.{unwrap_or}
use Rattle.std.specs.Str.{bytes_eq}
use Rattle.cnb_world.specs.Env.{value_of, with_value}
use Rattle.cnb_world.specs.declared.env.Variable.{Variable}
use Rattle.cnb_env.specs.Names.{is_no_variable, suffix_of, variable_of}
use Rattle.cnb_env.specs.declared.apply.Effect.{Effect}
use Rattle.cnb_env.specs.declared.apply.Effect.TheVariants.{Override, Append, Prepend, Default, Nothing}
use Rattle.cnb_env.specs.declared.files.EnvFile.{EnvFile}

-- what a file with this suffix does
abbrev pub effect_of : List ℕ → Effect
effect_of suffix =
    if bytes_eq suffix [] || bytes_eq suffix (codes "override") then Override
    else if bytes_eq suffix (codes "append") then Append
    else if bytes_eq suffix (codes "prepend") then Prepend
    else if bytes_eq suffix (codes "default") then Default
    else Nothing

-- a text behind or in front of an old value, with the delimiter between where the old value isn't empty
abbrev pub behind_value : List ℕ → List ℕ → List ℕ → List ℕ
behind_value [] delim text = text
behind_value (byte ∷ bytes) delim text = (byte ∷ bytes) ++ delim ++ text

abbrev pub in_front : List ℕ → List ℕ → List ℕ → List ℕ
in_front [] delim text = text
in_front (byte ∷ bytes) delim text = text ++ delim ++ (byte ∷ bytes)

abbrev pub where_empty : List ℕ → List ℕ → Option (List ℕ)
where_empty [] text = Some text
where_empty (byte ∷ bytes) text = None

-- the new value, where there is one; the old value of a variable that isn't set is empty
abbrev pub new_value : Effect → List ℕ → List ℕ → List ℕ → Option (List ℕ)
new_value Override old delim text = Some text
new_value Append old delim text = Some (behind_value old delim text)
new_value Prepend old delim text = Some (in_front old delim text)
new_value Default old delim text = where_empty old text
new_value Nothing old delim text = None

abbrev pub with_new : List ℕ → Option (List ℕ) → List Variable → List Variable
with_new name None env = env
with_new name (Some value) env = with_value name value env

abbrev pub text_of : List Variable → List ℕ → List ℕ
text_of env name = unwrap_or (value_of env name) []

-- the environment with a file of this name and these contents applied; a name that says no variable does nothing
abbrev pub applied : List ℕ → List ℕ → List ℕ → List Variable → List Variable
applied name text delim env =
    if is_no_variable (variable_of name) then env
    else with_new (variable_of name) (new_value (effect_of (suffix_of name))
    (text_of env (variable_of name)) delim text) env

-- whether a file has the delimiter of a variable
abbrev pub is_delimiter_of : EnvFile → List ℕ → Bool
is_delimiter_of file variable = bytes_eq (variable_of file.name) variable
    && bytes_eq (suffix_of file.name) (codes "delim")

-- the delimiter of a variable: the contents of its file with the suffix `delim`, or nothing
abbrev pub delimiter_in : List EnvFile → List ℕ → List ℕ
delimiter_in [] variable = []
delimiter_in (file ∷ files) variable = if is_delimiter_of file variable then file.value else delimiter_in files variable

-- each of some files applied, in order
abbrev pub each_applied : (EnvFile → List Variable → List Variable) → List EnvFile → List Variable → List Variable
each_applied step [] env = env
each_applied step (file ∷ files) env = each_applied step files (step file env)

-- one of the files of a folder applied, with the delimiter that stands among all of them
abbrev pub applied_among : List EnvFile → EnvFile → List Variable → List Variable
applied_among all file env = applied file.name file.value (delimiter_in all (variable_of file.name)) env

-- the files of a folder applied
abbrev pub all_applied : List EnvFile → List Variable → List Variable
all_applied files env = each_applied (applied_among files) files env

-- the first of some files are applied, and not all
abbrev pub HasFirst : (EnvFile → List Variable → List Variable) → List EnvFile → List Variable → List Variable → Type 0
HasFirst step files old new = (count : ℕ) × (count < length files) × (new ≡ each_applied step (take count files) old)
