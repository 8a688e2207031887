-- How options are read by `clap`.
use Rattle.std.specs.Prelude.{◌≡◌, ℕ, ◌==◌, Bool, true, false, List, [], ◌∷◌, ◌++◌, find, map, if◌then◌else◌, Option}
use Rattle.std.specs.Prelude.{Some, unwrap_or}
use Rattle.std.specs.List.{list_any}
use Rattle.std.specs.Option.{option_map_or}
use Rattle.std.specs.Str.{bytes_eq}
use Rattle.clap.specs.Matches.{found_of}
use Rattle.clap.specs.Simple.{App, new_rule, new_shape}
use Rattle.clap.specs.Walk.{Row, Rule, Text, rows_of}
use Rattle.clap.specs.declared.builder.action.ArgAction.{ArgAction}
use Rattle.clap.specs.declared.builder.action.ArgAction.TheVariants.{Set, Append}
use Rattle.clap.specs.declared.builder.value_parser.ValueParser.TheVariants.{NonEmptyString}
use Rattle.clap.specs.declared.error.kind.ErrorKind.{ErrorKind}
use Rattle.clap.specs.declared.error.kind.ErrorKind.TheVariants as kind
use Rattle.clap.specs.declared.parser.matches.ArgMatches.{ArgMatches}
use Rattle.cnb_words.specs.Options.{check_names, has_name, in_front, options_in}
use Rattle.cnb_words.specs.Values.{path_in}
use Rattle.cnb_words.specs.declared.fault.WordsFault.{WordsFault}
use Rattle.cnb_words.specs.declared.fault.WordsFault.TheVariants.{Usage, Memory}
use Rattle.cnb_words.specs.declared.options.Given.{Given}

-- an option that takes a value which isn't empty
abbrev pub option_rule : ArgAction → Text → Rule
option_rule action name = record (new_rule name) {
  long = Some name;
  action = Some action;
  parser = Some
      NonEmptyString;
}

-- a command with options that stand at most once, and options that may stand several times
abbrev pub reader_of : List Rule → App
reader_of rules = record {
  top = record (new_shape []) { no_binary_name = true; disable_help_flag = true; rules = rules };
  subs = [];
}

abbrev pub reader : List Text → List Text → App
reader once often = reader_of (map (option_rule Set) once ++ map (option_rule Append) often)

-- the same, by name, where `true` says that an option may stand several times
abbrev pub kinds_of : List Text → List Text → List (Bool × Text)
kinds_of once often = map (λ name. (false, name)) once ++ map (λ name. (true, name)) often

-- the name of an option with its dashes
abbrev pub dashed : Text → Text
dashed name = 45 ∷ 45 ∷ name

-- no other option stands, and none of the first names twice
abbrev pub checked_for : List Text → List Text → List Given → Option (Unit {0})
checked_for once often = check_names (map dashed once) (map dashed often)

-- a name is one of these
abbrev pub is_in : Text → List Text → Bool
is_in name names = list_any (bytes_eq name) names

-- a dash leads a word only where an option's name follows it
abbrev pub names_option : List ℕ → Bool
names_option [] = false
names_option (byte ∷ []) = false
names_option (byte ∷ next ∷ bytes) = byte == 45

abbrev pub is_plain : List ℕ → Bool
is_plain [] = true
is_plain (byte ∷ bytes) = if byte == 45 then names_option bytes else true

-- words are refused, or there was no memory to read them
abbrev pub fault_of_reading : ErrorKind → WordsFault
fault_of_reading kind.OutOfMemory = Memory
fault_of_reading _ = Usage

-- the options that words give
abbrev pub given_by : List (List ℕ) → List Given
given_by words = unwrap_or (options_in words) []

-- the values of an option that may stand several times
abbrev pub texts_of : List ℕ → List Given → List (List ℕ)
texts_of name [] = []
texts_of name (option ∷ options) = if has_name name option then option.value
    ∷ texts_of name options else texts_of name options

-- the values that rows have of a name
abbrev pub values_at : Text → List Row → List Text
values_at name rows = option_map_or (λ r. r.values) (find (λ r. bytes_eq r.id name) rows) []

-- each option has the values that were found
abbrev pub Finds : ArgMatches → List Given → Type 0
Finds matches options = (name : Text) → values_at name (rows_of (found_of matches)) ≡ texts_of (dashed name) options

-- the paths that texts are, where all are
abbrev pub paths_in : List (List ℕ) → Option (List (List ℕ))
paths_in [] = Some []
paths_in (text ∷ texts) = in_front (path_in text) (paths_in texts)
