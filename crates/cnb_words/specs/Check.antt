-- What the options of `check` ask for.
use Rattle.std.specs.Prelude.{List, [], ◌∷◌, ◌≤◌, codes, length, Option, Some}
use Rattle.cnb_words.specs.Options.{check_names}
use Rattle.cnb_words.specs.OptionValues.{◌>>=◌, path_of}
use Rattle.cnb_words.specs.declared.options.Given.{Given}
use Rattle.cnb_words.specs.declared.check.CheckWords.{CheckWords}

-- what the options ask for, where each that must be given is
abbrev pub check_values : List Given → Option CheckWords
check_values options = do
  order ← path_of (codes "--order") options
  buildpacks ← path_of (codes "--buildpacks") options
  work ← path_of (codes "--work") options
  proof_path ← path_of (codes "--record") options
  Some (record { order = order; buildpacks = buildpacks; work = work; proof_path = proof_path })

-- no other option is there, none is given twice, and each must be given
abbrev pub check_in : List Given → Option CheckWords
check_in options = do
  checked ← check_names (codes "--order" ∷ codes "--buildpacks" ∷ codes "--work" ∷ codes "--record" ∷ []) [] options
  check_values options

-- paths of at most 4,096 bytes
pub record KeepsLimits (words : CheckWords) : Type 0 where
  pub order : length words.order ≤ 4096
  pub buildpacks : length words.buildpacks ≤ 4096
  pub work : length words.work ≤ 4096
  pub proof_path : length words.proof_path ≤ 4096
