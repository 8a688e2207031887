-- The values of options.
use Rattle.std.specs.Prelude.{ℕ, ◌==◌, ◌&&◌, Bool, not, List, length, nat_le, nat_lt, slice_index, if◌then◌else◌}
use Rattle.std.specs.Prelude.{Option, Some, None}
use Rattle.std.specs.Char.{is_ascii_digit}
use Rattle.std.specs.List.{list_all}
use Rattle.std.specs.Str.Parse.{digits_value}
use Rattle.cnb_toml.specs.Names.{is_image_name, is_target_name}
use Rattle.cnb_world.specs.Path.{is_short_path}

-- the path that a text is
abbrev pub path_in : List ℕ → Option (List ℕ)
path_in text = if is_short_path text then Some text else None

-- the image's name that a text is
abbrev pub image_in : List ℕ → Option (List ℕ)
image_in text = if is_image_name text then Some text else None

-- the name of an operating system or an architecture that a text is
abbrev pub target_in : List ℕ → Option (List ℕ)
target_in text = if is_target_name text then Some text else None

-- a 0 in front of others
abbrev pub has_leading_zero : List ℕ → Bool
has_leading_zero text = nat_lt 1 (length text) && (slice_index text 0 == 48)

-- decimal digits, at least one
abbrev pub is_decimal : List ℕ → Bool
is_decimal text = nat_lt 0 (length text) && list_all is_ascii_digit text && not (has_leading_zero text)

-- a number from the least to the most
abbrev pub in_limits : ℕ → ℕ → ℕ → Option ℕ
in_limits least most number = if nat_le least number && nat_le number most then Some number else None

-- the number that a text is
abbrev pub number_in : ℕ → ℕ → List ℕ → Option ℕ
number_in least most text = if is_decimal text then in_limits least most (digits_value 10 text) else None
