-- What the name of an environment file says (buildpack.md, "Environment Variable Modification Rules").
use Rattle.std.specs.Prelude.{ℕ, ◌==◌, ◌||◌, Bool, List, length}
use Rattle.std.specs.List.{after_first, before_first, list_any}
use Rattle.cnb_env.specs.declared.names.Naming.{Naming}
use Rattle.cnb_env.specs.declared.names.Naming.TheVariants.{Whole, BeforeDot}

-- the name up to its first dot
abbrev pub variable_of : List ℕ → List ℕ
variable_of name = before_first (λ byte. byte == 46) name

-- what is behind the first dot
abbrev pub suffix_of : List ℕ → List ℕ
suffix_of name = after_first (λ byte. byte == 46) name

abbrev pub variable_in : Naming → List ℕ → List ℕ
variable_in Whole name = name
variable_in BeforeDot name = variable_of name

abbrev pub has_equals : List ℕ → Bool
has_equals name = list_any (λ byte. byte == 61) name

-- whether a text can't be the name of a variable
abbrev pub is_no_variable : List ℕ → Bool
is_no_variable name = (length name == 0) || has_equals name

-- whether a file of this name is passed over, and not read
abbrev pub is_ignored : Naming → List ℕ → Bool
is_ignored naming name = is_no_variable (variable_in naming name)
