-- What a program in `exec.d` puts out: a TOML table of texts (buildpack.md, "exec.d"). What counts as good is this
-- project's own.
use Rattle.std.specs.Prelude.{ℕ, ◌==◌, ◌&&◌, Bool, not, List, length, nat_lt, if◌then◌else◌, Option, Some, None}
use Rattle.std.specs.List.{list_any}
use Rattle.std.specs.Option.{option_and_then}
use Rattle.std.specs.Result.{result_ok}
use Rattle.toml.specs.Data.{Members, no_members, member, as_str}
use Rattle.cnb_world.specs.Env.{with_value}
use Rattle.cnb_world.specs.declared.env.Variable.{Variable}
use Rattle.cnb_toml.specs.Document.{document_in}

-- a name that a variable can have, and a value
abbrev pub is_variable : List ℕ → List ℕ → Bool
is_variable name text = not (length name == 0) && not (list_any (λ byte. byte == 61) name)
    && not (list_any (λ byte. byte == 0) text)

abbrev pub with_string : List ℕ → Option (List ℕ) → List Variable → Option (List Variable)
with_string name None env = None
with_string name (Some text) env = if is_variable name text then Some (with_value name text env) else None

-- the environment with what a table says, where all of it is such
abbrev pub with_texts : Members → List Variable → Option (List Variable)
with_texts no_members env = Some env
with_texts (member name value members) env = option_and_then (with_texts members) (with_string name (as_str value) env)

-- the table that an output is, where it is one of at most a mebibyte
abbrev pub table_in : List ℕ → Option Members
table_in bytes = if nat_lt 1048576 (length bytes) then None else result_ok (document_in bytes)

-- the environment with an output, where it is good
unfoldable pub with_output : List ℕ → List Variable → Option (List Variable)
with_output bytes env = option_and_then (λ table. with_texts table env) (table_in bytes)
