-- How a child is started whose descriptor 3 is kept: the words for the shell that stands between.
use Rattle.std.specs.Prelude.{ℕ, ◌==◌, ◌++◌, ◌&&◌, ◌||◌, Bool, false, not, List, [], ◌∷◌, codes, if◌then◌else◌, length}
use Rattle.std.specs.Prelude.{map}
use Rattle.std.specs.Char.{is_ascii_alphanumeric, is_ascii_digit}
use Rattle.std.specs.List.{list_all, list_any}
use Rattle.std.specs.Str.{bytes_eq}
use Rattle.cnb_world.specs.declared.child.ChildJob.{ChildJob}
use Rattle.cnb_world.specs.declared.env.Variable.{Variable}

-- a variable with its value, as `env` takes it
abbrev pub assignment : Variable → List ℕ
assignment variable = variable.name ++ codes "=" ++ variable.value

abbrev pub has_equals : List ℕ → Bool
has_equals program = list_any (λ byte. byte == 61) program

abbrev pub begins_with_slash : List ℕ → Bool
begins_with_slash [] = false
begins_with_slash (byte ∷ bytes) = byte == 47

-- a letter, a digit or `_`
abbrev pub is_word_byte : ℕ → Bool
is_word_byte byte = is_ascii_alphanumeric byte || byte == 95

-- an identifier
abbrev pub is_word : List ℕ → Bool
is_word [] = false
is_word (byte ∷ bytes) = not (is_ascii_digit byte) && list_all is_word_byte (byte ∷ bytes)

-- variables that some shell makes itself, or that it takes as numbers alone
abbrev pub is_known : List ℕ → Bool
is_known name =
    bytes_eq name (codes "EPOCHREALTIME") || bytes_eq name (codes "EPOCHSECONDS") || bytes_eq name (codes "IFS")
    || bytes_eq name (codes "LINENO") || bytes_eq name (codes "OPTIND") || bytes_eq name (codes "PPID")
    || bytes_eq name (codes "RANDOM") || bytes_eq name (codes "SECONDS")

-- a shell hands the variable on as it was told to
abbrev pub is_handed_on : List ℕ → Bool
is_handed_on name = is_word name && not (is_known name)

-- the shell can start the program by itself
abbrev pub is_plain : ChildJob → Bool
is_plain job =
    length job.args == 0 && begins_with_slash job.program && not (has_equals job.program)
    && list_all (λ v. is_handed_on v.name) job.env

-- the program, behind one that changes nothing where its path has `=`
abbrev pub program_words : List ℕ → List (List ℕ)
program_words program =
    if has_equals program then codes "nice" ∷ codes "-n" ∷ codes "0" ∷ program ∷ [] else program ∷ []

-- what the shell is handed where it starts the program
abbrev pub plain_words : List ℕ → ChildJob → List (List ℕ)
plain_words script job = codes "-c" ∷ script ∷ job.program ∷ map assignment job.env

-- what it is handed where `env` does
abbrev pub env_words : List ℕ → ChildJob → List (List ℕ)
env_words script job =
    codes "-c" ∷ script ∷ job.program ∷ map assignment job.env ++ (program_words job.program ++ job.args)

-- what the shell is handed, with its script for the one and for the other
abbrev pub side_words : List ℕ → List ℕ → ChildJob → List (List ℕ)
side_words plain by_env job = if is_plain job then plain_words plain job else env_words by_env job
