-- What the options of `rebase` ask for (platform.md, "rebaser").
use Rattle.std.specs.Prelude.{List, [], ◌∷◌, codes, Option, Some, ◌≤◌, length}
use Rattle.cnb_words.specs.Options.{check_names}
use Rattle.cnb_words.specs.OptionValues.{◌>>=◌, image_of, path_of}
use Rattle.cnb_words.specs.declared.options.Given.{Given}
use Rattle.cnb_words.specs.declared.rebase.RebaseWords.{RebaseWords}

-- no other option stands, none stands twice that mustn't, and each that must be given is
abbrev pub rebase_in : List Given → Option RebaseWords
rebase_in options = do
  checked ← check_names (codes "--store" ∷ codes "--image" ∷ codes "--run" ∷ []) [] options
  store ← path_of (codes "--store") options
  image ← image_of (codes "--image") options
  run ← image_of (codes "--run") options
  Some (record { store = store; image = image; run = run })

-- paths of at most 4,096 bytes
pub record KeepsLimits (words : RebaseWords) : Type 0 where
  pub store : length words.store ≤ 4096
