-- What the options of `base` ask for.
use Rattle.std.specs.Prelude.{List, [], ◌∷◌, codes, Option, Some, ◌≤◌, length, All, IsTrue}
use Rattle.cnb_toml.specs.Names.{is_target_name}
use Rattle.cnb_words.specs.Options.{check_names}
use Rattle.cnb_words.specs.OptionValues.{◌>>=◌, image_of, path_of, target_of, trees_of}
use Rattle.cnb_words.specs.declared.options.Given.{Given}
use Rattle.cnb_words.specs.declared.base.BaseWords.{BaseWords}

-- what the options ask for, where each that must be given is
abbrev pub base_values : List Given → Option BaseWords
base_values options = do
  store ← path_of (codes "--store") options
  run ← image_of (codes "--run") options
  os ← target_of (codes "--os") options
  arch ← target_of (codes "--arch") options
  trees ← trees_of options
  Some (record { store = store; run = run; os = os; arch = arch; trees = trees })

-- no other option stands, none stands twice that mustn't, and each that must be given is
abbrev pub base_in : List Given → Option BaseWords
base_in options = do
  checked ← check_names
      (codes "--store" ∷ codes "--run" ∷ codes "--os" ∷ codes "--arch" ∷ [])
      (codes "--tree" ∷ []) options
  base_values options

-- paths of at most 4,096 bytes, names of an operating system and of an architecture, and at least one tree
pub record KeepsLimits (words : BaseWords) : Type 0 where
  pub store : length words.store ≤ 4096
  pub os : IsTrue (is_target_name words.os)
  pub arch : IsTrue (is_target_name words.arch)
  pub trees : All (λ path. length path ≤ 4096) words.trees
  pub some_tree : 1 ≤ length words.trees
