-- What the options of `verify` ask for.
use Rattle.std.specs.Prelude.{List, [], ◌∷◌, codes, Option, Some, ◌≤◌, length}
use Rattle.cnb_words.specs.Options.{check_names}
use Rattle.cnb_words.specs.OptionValues.{◌>>=◌, image_of, path_of}
use Rattle.cnb_words.specs.declared.options.Given.{Given}
use Rattle.cnb_words.specs.declared.verify.VerifyWords.{VerifyWords}

-- no other option stands, none stands twice that mustn't, and each that must be given is
abbrev pub verify_in : List Given → Option VerifyWords
verify_in options = do
  checked ← check_names (codes "--store" ∷ codes "--image" ∷ []) [] options
  store ← path_of (codes "--store") options
  image ← image_of (codes "--image") options
  Some (record { store = store; image = image })

-- paths of at most 4,096 bytes
pub record KeepsLimits (words : VerifyWords) : Type 0 where
  pub store : length words.store ≤ 4096
