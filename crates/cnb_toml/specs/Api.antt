-- The Buildpack API.
use Rattle.std.specs.Prelude.{ℕ, Bool, List, codes}
use Rattle.std.specs.Str.{bytes_eq}

-- the version that is served
abbrev pub buildpack_api : List ℕ
buildpack_api = codes "0.10"

-- whether a version is served
abbrev pub is_served : List ℕ → Bool
is_served api = bytes_eq api buildpack_api
