-- Digests that are told apart by their digits.
use Rattle.std.specs.Prelude.{ℕ, Bool, not, List, [], ◌∷◌, ◌++◌, Option, fold, if◌then◌else◌}
use Rattle.std.specs.List.{filter}
use Rattle.std.specs.Result.{result_ok}
use Rattle.std.specs.Str.{bytes_eq}
use Rattle.cnb_toml.specs.Distinct.{has_key}
use Rattle.hex.specs.Hex.{encode_lower}
use Rattle.image_docs.specs.DigestText.{digest_in}

-- the digest that a file's name writes
abbrev pub tree_digest : List ℕ → Option (List ℕ)
tree_digest name = result_ok (digest_in name)

-- whether a digest is one of these
abbrev pub is_among : List (List ℕ) → List ℕ → Bool
is_among digests digest = has_key bytes_eq encode_lower digests (encode_lower digest)

-- those that aren't named
abbrev pub unnamed : List (List ℕ) → List (List ℕ) → List (List ℕ)
unnamed named digests = filter (λ digest. not (is_among named digest)) digests

-- a digest more, unless it is there
abbrev pub with_digest : List (List ℕ) → List ℕ → List (List ℕ)
with_digest digests digest = if is_among digests digest then digests else digests ++ digest ∷ []

-- each digest once, at its first place
abbrev pub distinct : List (List ℕ) → List (List ℕ)
distinct digests = fold with_digest [] digests
