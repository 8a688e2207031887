-- The options behind a command.
use Rattle.std.specs.Prelude.{ℕ, ◌==◌, ◌&&◌, ◌||◌, Bool, false, List, [], ◌∷◌, nat_le, count_by, find, if◌then◌else◌}
use Rattle.std.specs.Prelude.{Option, Some, None}
use Rattle.std.specs.List.{after_first, before_first, list_all, list_any}
use Rattle.std.specs.Option.{option_map}
use Rattle.std.specs.Str.{bytes_eq}
use Rattle.cnb_words.specs.declared.options.Given.{Given}

-- an option and its value, which isn't empty
abbrev pub option_with : List ℕ → List ℕ → Option Given
option_with name [] = None
option_with name (byte ∷ bytes) = Some (record { name = name; value = byte ∷ bytes })

-- whether a word is an option in one word
abbrev pub has_equals : List ℕ → Bool
has_equals word = list_any (λ byte. byte == 61) word

-- `--name=value`
abbrev pub in_one_word : List ℕ → Option Given
in_one_word word = option_with (before_first (λ byte. byte == 61) word) (after_first (λ byte. byte == 61) word)

-- whether a word can't be a value of its own
abbrev pub begins_with_dash : List ℕ → Bool
begins_with_dash [] = false
begins_with_dash (byte ∷ bytes) = byte == 45

-- `--name value`, where no dash leads the value
abbrev pub in_two_words : List ℕ → List ℕ → Option Given
in_two_words name value = if begins_with_dash value then None else option_with name value

-- one in front of others, where all are there
abbrev pub in_front : {T : Type 0} → Option T → Option (List T) → Option (List T)
in_front None rest = None
in_front (Some one) None = None
in_front (Some one) (Some rest) = Some (one ∷ rest)

-- the options that words give, behind a name whose value is still to come, if there is one
abbrev pub options_behind : Option (List ℕ) → List (List ℕ) → Option (List Given)
options_behind None [] = Some []
options_behind (Some name) [] = None
options_behind None (word ∷ words) = if has_equals word then in_front (in_one_word word)
    (options_behind None words) else options_behind (Some word) words
options_behind (Some name) (word ∷ words) = in_front (in_two_words name word) (options_behind None words)

-- the options that words give: each is `--name=value` in one word or `--name value` in two
abbrev pub options_in : List (List ℕ) → Option (List Given)
options_in words = options_behind None words

-- whether an option is the one of a name
abbrev pub has_name : List ℕ → Given → Bool
has_name name option = bytes_eq option.name name

-- each option has one of these names
abbrev pub have_names : List (List ℕ) → List (List ℕ) → List Given → Bool
have_names once often options = list_all (λ option. list_any (bytes_eq option.name) once
    || list_any (bytes_eq option.name) often) options

-- each of these names stands at most once
abbrev pub stand_once : List (List ℕ) → List Given → Bool
stand_once names options = list_all (λ name. nat_le (count_by (has_name name) options) 1) names

-- no other option stands, and none of the first names stands twice
abbrev pub check_names : List (List ℕ) → List (List ℕ) → List Given → Option (Unit {0})
check_names once often options = if have_names once often options && stand_once once options then Some tt else None

-- the value of an option
abbrev pub value_of : List ℕ → List Given → Option (List ℕ)
value_of name options = option_map (λ option. option.value) (find (has_name name) options)
