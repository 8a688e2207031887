-- The names of buildpacks (buildpack.md, "buildpack.toml (TOML)"), layers, processes and images, as bytes.
use Rattle.std.specs.Prelude.{ℕ, Bool, false, not, ◌≡◌, ◌&&◌, ◌||◌, ◌==◌, ◌<◌, ◌^◌, ◌++◌, List, [], ◌∷◌, length, nat_le}
use Rattle.std.specs.Prelude.{nat_lt, map, Result, Ok, Err, codes, if◌then◌else◌}
use Rattle.std.specs.Char.{is_ascii_alphanumeric, is_ascii_digit, is_ascii_lowercase}
use Rattle.std.specs.Fmt.{decimal}
use Rattle.std.specs.List.{list_all}
use Rattle.std.specs.Str.{bytes_eq}
use Rattle.cnb_world.specs.Path.{is_part}
use Rattle.semver.specs.Parse.{Parts, version_parts}
use Rattle.semver.specs.declared.error.Error.{Error}

-- a letter, a digit, `.`, `/` or `-`
abbrev pub is_id_byte : ℕ → Bool
is_id_byte b = is_ascii_alphanumeric b || b == 46 || b == 47 || b == 45

-- ids that name something else, in a folder of layers or in a path
abbrev pub is_reserved : List ℕ → Bool
is_reserved text = bytes_eq text (codes "app") || bytes_eq text (codes "config") || bytes_eq text (codes ".")
    || bytes_eq text (codes "..")

-- a buildpack's id
abbrev pub is_bp_id : List ℕ → Bool
is_bp_id text = nat_lt 0 (length text) && nat_le (length text) 128 && list_all is_id_byte text && not (is_reserved text)

-- three numbers with nothing behind them
abbrev pub is_release : Result Parts Error → Bool
is_release (Ok parts) = length parts.3 == 0 && length parts.4 == 0
is_release (Err error) = false

-- a buildpack's version: what `semver` reads, without a pre-release and build metadata
abbrev pub is_bp_version : List ℕ → Bool
is_bp_version text = is_release (version_parts text)

-- three numbers in decimal digits, joined by dots
abbrev pub joined_numbers : ℕ → ℕ → ℕ → List ℕ
joined_numbers major minor patch = decimal major ++ (46 ∷ (decimal minor ++ (46 ∷ decimal patch)))

-- a version as it is written: each number in plain decimal digits, and dots between
abbrev pub IsJoinedNumbers : List ℕ → Type 0
IsJoinedNumbers text = (major : ℕ) × (minor : ℕ) × (patch : ℕ) × (major < 2 ^ 64) × (minor < 2 ^ 64)
    × (patch < 2 ^ 64) × (text ≡ joined_numbers major minor patch)

-- the folder of an id: each `/` as `_`
abbrev pub folder_byte : ℕ → ℕ
folder_byte b = if b == 47 then 95 else b

abbrev pub folder_of : List ℕ → List ℕ
folder_of id = map folder_byte id

-- names of documents that stand beside a buildpack's layers (buildpack.md, "Layers Directory")
abbrev pub is_reserved_layer : List ℕ → Bool
is_reserved_layer name = bytes_eq name (codes "build") || bytes_eq name (codes "launch")
    || bytes_eq name (codes "store")

-- a layer's name: a part of a path, of at most 200 bytes
abbrev pub is_layer_name : List ℕ → Bool
is_layer_name name = nat_le (length name) 200 && is_part name && not (is_reserved_layer name)

-- a letter, a digit, `.`, `_` or `-`
abbrev pub is_type_byte : ℕ → Bool
is_type_byte byte = is_ascii_alphanumeric byte || byte == 46 || byte == 95 || byte == 45

-- a process type (buildpack.md, "launch.toml (TOML)") that can be a file's name
abbrev pub is_process_type : List ℕ → Bool
is_process_type name = nat_le 1 (length name) && nat_le (length name) 128 && list_all is_type_byte name
    && not (bytes_eq name (codes ".")) && not (bytes_eq name (codes ".."))

-- a lower-case letter, a digit, `.`, `_` or `-`
abbrev pub is_image_byte : ℕ → Bool
is_image_byte byte = is_ascii_lowercase byte || is_ascii_digit byte || byte == 46 || byte == 95 || byte == 45

-- a lower-case letter or a digit
abbrev pub is_first_byte : ℕ → Bool
is_first_byte byte = is_ascii_lowercase byte || is_ascii_digit byte

-- bytes of an image's name, the first of which is a letter or a digit
abbrev pub has_image_bytes : List ℕ → Bool
has_image_bytes [] = false
has_image_bytes (first ∷ rest) = is_first_byte first && list_all is_image_byte rest

-- an image's name
abbrev pub is_image_name : List ℕ → Bool
is_image_name name = nat_le (length name) 128 && has_image_bytes name

-- the name of an operating system or an architecture (platform.md, "Targets")
abbrev pub is_target_name : List ℕ → Bool
is_target_name name = nat_le (length name) 64 && has_image_bytes name
