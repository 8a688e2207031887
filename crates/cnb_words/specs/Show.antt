-- What the options of `show` ask for.
use Rattle.std.specs.Prelude.{List, [], ◌∷◌, codes, Option, Some, ◌≤◌, length}
use Rattle.cnb_words.specs.Options.{check_names}
use Rattle.cnb_words.specs.OptionValues.{◌>>=◌, image_of, path_of}
use Rattle.cnb_words.specs.declared.options.Given.{Given}
use Rattle.cnb_words.specs.declared.show.ShowWords.{ShowWords}

-- no other option stands, none stands twice that mustn't, and each that must be given is
abbrev pub show_in : List Given → Option ShowWords
show_in options = do
  checked ← check_names (codes "--store" ∷ codes "--image" ∷ []) [] options
  store ← path_of (codes "--store") options
  image ← image_of (codes "--image") options
  Some (record { store = store; image = image })

-- paths of at most 4,096 bytes
pub record KeepsLimits (words : ShowWords) : Type 0 where
  pub store : length words.store ≤ 4096
