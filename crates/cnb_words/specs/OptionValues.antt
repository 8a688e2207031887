-- The values that options are given.
use Rattle.std.specs.Prelude.{ℕ, ◌^◌, List, [], ◌∷◌, codes, length, nat_lt, if◌then◌else◌, Option, Some, None}
use Rattle.std.specs.Option.{option_and_then, option_map}
use Rattle.cnb_words.specs.Options.{has_name, in_front, value_of}
use Rattle.cnb_words.specs.Values.{image_in, number_in, path_in, target_in}
use Rattle.cnb_words.specs.declared.options.Given.{Given}

-- one value after another, where all are there
infixl 10 ◌>>=◌
abbrev pub ◌>>=◌ : {A B : Type 0} → Option A → (A → Option B) → Option B
None >>= next = None
Some value >>= next = next value

-- the path of an option that must be given
abbrev pub path_of : List ℕ → List Given → Option (List ℕ)
path_of name options = option_and_then path_in (value_of name options)

-- the image's name of one
abbrev pub image_of : List ℕ → List Given → Option (List ℕ)
image_of name options = option_and_then image_in (value_of name options)

-- the name of an operating system or an architecture of one
abbrev pub target_of : List ℕ → List Given → Option (List ℕ)
target_of name options = option_and_then target_in (value_of name options)

-- an image's name, where it is given
abbrev pub where_given : Option (List ℕ) → Option (Option (List ℕ))
where_given None = Some None
where_given (Some text) = option_map Some (image_in text)

abbrev pub optional_image_of : List ℕ → List Given → Option (Option (List ℕ))
optional_image_of name options = where_given (value_of name options)

-- 1 to 64 workers, and 8 where no number is given
abbrev pub workers_or_eight : Option (List ℕ) → Option ℕ
workers_or_eight None = Some 8
workers_or_eight (Some text) = number_in 1 64 text

abbrev pub workers_of : List Given → Option ℕ
workers_of options = workers_or_eight (value_of (codes "--workers") options)

-- the paths of an option that may stand several times
abbrev pub paths_of : List ℕ → List Given → Option (List (List ℕ))
paths_of name [] = Some []
paths_of name (option ∷ options) = if has_name name option then in_front (path_in option.value)
    (paths_of name options) else paths_of name options

-- the folders of the caches
abbrev pub few_caches : List (List ℕ) → Option (List (List ℕ))
few_caches caches = if nat_lt (length caches) (2 ^ 32) then Some caches else None

abbrev pub caches_of : List Given → Option (List (List ℕ))
caches_of options = paths_of (codes "--cache") options >>= few_caches

-- at least one folder of a tree
abbrev pub some_trees : List (List ℕ) → Option (List (List ℕ))
some_trees [] = None
some_trees (tree ∷ trees) = Some (tree ∷ trees)

abbrev pub trees_of : List Given → Option (List (List ℕ))
trees_of options = paths_of (codes "--tree") options >>= some_trees
