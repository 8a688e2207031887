-- What `detect` does and comes to, with a record and without one (platform.md, "detector").
use Rattle.std.specs.Prelude.{ℕ, List, Option, Some, None, Result}
use Rattle.cnb_detect.specs.Detects.{detects}
use Rattle.cnb_detect.specs.Outcome.{ComesTo}
use Rattle.cnb_detect.specs.declared.refusal.DetectRefusal.{DetectRefusal}
use Rattle.cnb_detect.specs.declared.target.TargetSource.TheVariants as target
use Rattle.cnb_record.specs.DetectsRecorded.{detects_recorded}
use Rattle.cnb_record.specs.Outcome.{ComesToRecorded}
use Rattle.cnb_words.specs.declared.choice.ChoiceWords.{ChoiceWords}
use Rattle.cnb_words.specs.declared.detect.DetectWords.{DetectWords}
use Rattle.cnb_world.specs.declared.env.Variable.{Variable}
use Rattle.steps.specs.Outside.{Outside}

-- a group and its plan are chosen and written, and where a record is asked for, that is written too
abbrev pub detects_into : Option (List ℕ) → ChoiceWords → List Variable → Outside → Result (List ℕ) DetectRefusal
    → Outside → Type 0
detects_into None choice env = detects target.Document choice env
detects_into (Some path) choice env = detects_recorded target.Document choice path env

abbrev pub detects_words : DetectWords → List Variable → Outside → Result (List ℕ) DetectRefusal → Outside → Type 0
detects_words words env = detects_into words.proof_path words.choice env

-- what that comes to
abbrev pub comes_into : Option (List ℕ) → ChoiceWords → List Variable → Outside → Result (List ℕ) DetectRefusal
    → Outside → Type 0
comes_into None choice env = ComesTo target.Document choice env
comes_into (Some path) choice env = ComesToRecorded target.Document choice path env

abbrev pub ComesToWords : DetectWords → List Variable → Outside → Result (List ℕ) DetectRefusal → Outside → Type 0
ComesToWords words env = comes_into words.proof_path words.choice env
