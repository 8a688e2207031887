-- Where the record of a detection may be written.
use Rattle.std.specs.Prelude.{ℕ, Bool, not, ◌&&◌, ◌||◌, List, codes, if◌then◌else◌, Option, Some, None}
use Rattle.std.specs.Option.{option_and_then, option_map}
use Rattle.std.specs.Str.{bytes_eq}
use Rattle.cnb_world.specs.Path.{beside, is_path, joined}
use Rattle.cnb_words.specs.Options.{value_of}
use Rattle.cnb_words.specs.Values.{path_in}
use Rattle.cnb_words.specs.declared.options.Given.{Given}

-- the file that is first written in its place has a path too
abbrev pub has_room_beside : List ℕ → Bool
has_room_beside path = not (bytes_eq path (codes "/")) && is_path (beside path)

-- a document of the choice, or the file that is first written in its place
abbrev pub is_of_choice : List ℕ → List ℕ → Bool
is_of_choice work path =
    bytes_eq path (joined work (codes "group.toml")) || bytes_eq path (joined work (codes "group.toml.new"))
    || bytes_eq path (joined work (codes "plan.toml")) || bytes_eq path (joined work (codes "plan.toml.new"))

-- a path where a file can be written that isn't one of the choice
abbrev pub is_record_path : List ℕ → List ℕ → Bool
is_record_path work path = has_room_beside path && not (is_of_choice work path)

-- the path that a text is, where a record may be written at it
abbrev pub where_free : List ℕ → List ℕ → Option (List ℕ)
where_free work path = if is_record_path work path then Some path else None

abbrev pub record_in : List ℕ → List ℕ → Option (List ℕ)
record_in work text = option_and_then (where_free work) (path_in text)

-- the file of the record, where one is asked for
abbrev pub where_asked : List ℕ → Option (List ℕ) → Option (Option (List ℕ))
where_asked work None = Some None
where_asked work (Some text) = option_map Some (record_in work text)

abbrev pub record_of : List ℕ → List Given → Option (Option (List ℕ))
record_of work options = where_asked work (value_of (codes "--record") options)
