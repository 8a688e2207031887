-- What the options of `analyze` ask for (platform.md, "analyzer").
use Rattle.std.specs.Prelude.{List, [], ◌∷◌, codes, Option, Some, ◌≤◌, length}
use Rattle.cnb_words.specs.Options.{check_names}
use Rattle.cnb_words.specs.OptionValues.{◌>>=◌, image_of, optional_image_of, path_of}
use Rattle.cnb_words.specs.declared.options.Given.{Given}
use Rattle.cnb_words.specs.declared.analyze.AnalyzeWords.{AnalyzeWords}

-- what the options ask for, where each that must be given is
abbrev pub analyze_values : List Given → Option AnalyzeWords
analyze_values options = do
  store ← path_of (codes "--store") options
  run ← image_of (codes "--run") options
  work ← path_of (codes "--work") options
  previous ← optional_image_of (codes "--previous") options
  Some (record { store = store; run = run; work = work; previous = previous })

-- no other option stands, none stands twice that mustn't, and each that must be given is
abbrev pub analyze_in : List Given → Option AnalyzeWords
analyze_in options = do
  checked ← check_names (codes "--store" ∷ codes "--run" ∷ codes "--work" ∷ codes "--previous" ∷ []) [] options
  analyze_values options

-- paths of at most 4,096 bytes
pub record KeepsLimits (words : AnalyzeWords) : Type 0 where
  pub store : length words.store ≤ 4096
  pub work : length words.work ≤ 4096
