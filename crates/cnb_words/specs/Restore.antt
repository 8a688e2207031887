-- What the options of `restore` ask for (platform.md, "restorer").
use Rattle.std.specs.Prelude.{List, [], ◌∷◌, codes, Option, Some, ◌≤◌, length, ◌<◌, ◌^◌, All}
use Rattle.cnb_words.specs.Options.{check_names}
use Rattle.cnb_words.specs.OptionValues.{◌>>=◌, caches_of, path_of}
use Rattle.cnb_words.specs.declared.options.Given.{Given}
use Rattle.cnb_words.specs.declared.restore.RestoreWords.{RestoreWords}

-- what the options ask for, where each that must be given is
abbrev pub restore_values : List Given → Option RestoreWords
restore_values options = do
  store ← path_of (codes "--store") options
  work ← path_of (codes "--work") options
  layers ← path_of (codes "--layers") options
  caches ← caches_of options
  Some (record { store = store; work = work; layers = layers; caches = caches })

-- no other option stands, none stands twice that mustn't, and each that must be given is
abbrev pub restore_in : List Given → Option RestoreWords
restore_in options = do
  checked ← check_names (codes "--store" ∷ codes "--work" ∷ codes "--layers" ∷ []) (codes "--cache" ∷ []) options
  restore_values options

-- paths of at most 4,096 bytes, and fewer than 2 ^ 32 caches
pub record KeepsLimits (words : RestoreWords) : Type 0 where
  pub store : length words.store ≤ 4096
  pub work : length words.work ≤ 4096
  pub layers : length words.layers ≤ 4096
  pub caches : All (λ path. length path ≤ 4096) words.caches
  pub few_caches : length words.caches < 2 ^ 32
