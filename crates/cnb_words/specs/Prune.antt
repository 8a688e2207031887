-- What the options of `prune` ask for.
use Rattle.std.specs.Prelude.{List, [], ◌∷◌, codes, Option, Some, ◌≤◌, length}
use Rattle.cnb_words.specs.Options.{check_names}
use Rattle.cnb_words.specs.OptionValues.{◌>>=◌, path_of}
use Rattle.cnb_words.specs.declared.options.Given.{Given}
use Rattle.cnb_words.specs.declared.prune.PruneWords.{PruneWords}

-- no other option stands, none stands twice that mustn't, and each that must be given is
abbrev pub prune_in : List Given → Option PruneWords
prune_in options = do
  checked ← check_names (codes "--store" ∷ []) [] options
  store ← path_of (codes "--store") options
  Some (record { store = store })

-- a path of at most 4,096 bytes
pub record KeepsLimits (words : PruneWords) : Type 0 where
  pub store : length words.store ≤ 4096
