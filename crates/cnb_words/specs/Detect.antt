-- What the options of `detect` ask for (platform.md, "detector").
use Rattle.std.specs.Prelude.{List, [], ◌∷◌, ◌≤◌, codes, length, Option, Some, IfSome, IsTrue}
use Rattle.cnb_words.specs.Choice as choice
use Rattle.cnb_words.specs.Choice.{choice_values}
use Rattle.cnb_words.specs.Options.{check_names}
use Rattle.cnb_words.specs.OptionValues.{◌>>=◌}
use Rattle.cnb_words.specs.RecordPath.{is_record_path, record_of}
use Rattle.cnb_words.specs.declared.options.Given.{Given}
use Rattle.cnb_words.specs.declared.detect.DetectWords.{DetectWords}

-- what the options ask for, where each that must be given is
abbrev pub detect_values : List Given → Option DetectWords
detect_values options = do
  choice ← choice_values options
  proof_path ← record_of choice.work options
  Some (record { choice = choice; proof_path = proof_path })

-- no other option is there, none is given twice, and each that must be given is
abbrev pub detect_in : List Given → Option DetectWords
detect_in options = do
  checked ← check_names
      (codes "--order" ∷ codes "--buildpacks" ∷ codes "--app" ∷ codes "--platform" ∷ codes "--work"
      ∷ codes "--workers" ∷ codes "--record" ∷ []) []
      options
  detect_values options

-- limits of a choice, and a record of at most 4,096 bytes that may be written at its path
pub record KeepsLimits (words : DetectWords) : Type 0 where
  pub choice : choice.KeepsLimits words.choice
  pub is_free : IfSome words.proof_path (λ path. IsTrue (is_record_path words.choice.work path))
  pub is_short : IfSome words.proof_path (λ path. length path ≤ 4096)
