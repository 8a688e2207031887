-- The platform's environment files (platform.md, "User-Provided Variables"; buildpack.md, "Environment").
use Rattle.std.specs.Prelude.{ℕ, Bool, List, [], ◌∷◌, codes, if◌then◌else◌}
use Rattle.std.specs.List.{list_any}
use Rattle.std.specs.Str.{bytes_eq}
use Rattle.cnb_world.specs.declared.env.Variable.{Variable}
use Rattle.cnb_world.specs.Env.{with_value}
use Rattle.cnb_env.specs.Apply.{each_applied, in_front, text_of}
use Rattle.cnb_env.specs.declared.files.EnvFile.{EnvFile}

-- the variables that hold lists of folders joined by `:`
abbrev pub path_variables : List (List ℕ)
path_variables = codes "PATH" ∷ codes "LD_LIBRARY_PATH" ∷ codes "LIBRARY_PATH" ∷ codes "CPATH"
    ∷ codes "PKG_CONFIG_PATH" ∷ []

abbrev pub is_path_variable : List ℕ → Bool
is_path_variable name = list_any (bytes_eq name) path_variables

-- a path variable's file goes in front of the old value, any other replaces it
abbrev pub value_of_file : EnvFile → List Variable → List ℕ
value_of_file file env = if is_path_variable file.name then in_front (text_of env file.name)
    (codes ":") file.value else file.value

abbrev pub with_file : EnvFile → List Variable → List Variable
with_file file env = with_value file.name (value_of_file file env) env

-- the environment with these files applied in order
abbrev pub with_files : List EnvFile → List Variable → List Variable
with_files files env = each_applied with_file files env
