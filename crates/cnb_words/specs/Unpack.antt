-- What the options of `unpack` ask for.
use Rattle.std.specs.Prelude.{List, [], ◌∷◌, codes, Option, Some, ◌≤◌, length}
use Rattle.cnb_words.specs.Options.{check_names}
use Rattle.cnb_words.specs.OptionValues.{◌>>=◌, image_of, path_of}
use Rattle.cnb_words.specs.declared.options.Given.{Given}
use Rattle.cnb_words.specs.declared.unpack.UnpackWords.{UnpackWords}

-- no other option stands, none stands twice that mustn't, and each that must be given is
abbrev pub unpack_in : List Given → Option UnpackWords
unpack_in options = do
  checked ← check_names (codes "--store" ∷ codes "--image" ∷ codes "--root" ∷ []) [] options
  store ← path_of (codes "--store") options
  image ← image_of (codes "--image") options
  root ← path_of (codes "--root") options
  Some (record { store = store; image = image; root = root })

-- paths of at most 4,096 bytes
pub record KeepsLimits (words : UnpackWords) : Type 0 where
  pub store : length words.store ≤ 4096
  pub root : length words.root ≤ 4096
