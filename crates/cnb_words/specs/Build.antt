-- What the options of `build` ask for (platform.md, "builder").
use Rattle.std.specs.Prelude.{List, [], ◌∷◌, codes, Option, Some, ◌≤◌, length}
use Rattle.cnb_words.specs.Options.{check_names}
use Rattle.cnb_words.specs.OptionValues.{◌>>=◌, path_of}
use Rattle.cnb_words.specs.declared.options.Given.{Given}
use Rattle.cnb_words.specs.declared.build.BuildWords.{BuildWords}

-- what the options ask for, where each that must be given is
abbrev pub build_values : List Given → Option BuildWords
build_values options = do
  buildpacks ← path_of (codes "--buildpacks") options
  app ← path_of (codes "--app") options
  platform ← path_of (codes "--platform") options
  work ← path_of (codes "--work") options
  layers ← path_of (codes "--layers") options
  Some (record { buildpacks = buildpacks; app = app; platform = platform; work = work; layers = layers })

-- no other option stands, none stands twice that mustn't, and each that must be given is
abbrev pub build_in : List Given → Option BuildWords
build_in options = do
  checked ← check_names
      (codes "--buildpacks" ∷ codes "--app" ∷ codes "--platform" ∷ codes "--work" ∷ codes "--layers" ∷ [])
      [] options
  build_values options

-- paths of at most 4,096 bytes
pub record KeepsLimits (words : BuildWords) : Type 0 where
  pub buildpacks : length words.buildpacks ≤ 4096
  pub app : length words.app ≤ 4096
  pub platform : length words.platform ≤ 4096
  pub work : length words.work ≤ 4096
  pub layers : length words.layers ≤ 4096
