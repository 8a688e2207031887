-- A detection that has sound documents and makes a record, and how it ends.
use Rattle.std.specs.Prelude.{ℕ, ◌≡◌, ◌≤◌, List, length, Some, Result, Ok, IsTrue}
use Rattle.cnb_detect.specs.Outcome.{prepared_in}
use Rattle.cnb_detect.specs.declared.preparation.Prepared.{Prepared}
use Rattle.cnb_detect.specs.declared.refusal.DetectRefusal.{DetectRefusal}
use Rattle.cnb_detect.specs.declared.target.TargetSource.{TargetSource}
use Rattle.cnb_record.specs.Choosing.{found_of}
use Rattle.cnb_record.specs.DetectsRecorded.{detects_recorded}
use Rattle.cnb_words.specs.RecordPath.{is_record_path}
use Rattle.cnb_words.specs.declared.choice.ChoiceWords.{ChoiceWords}
use Rattle.cnb_world.specs.Runs.{Ran}
use Rattle.cnb_world.specs.Tree.{Tree}
use Rattle.cnb_world.specs.declared.env.Variable.{Variable}
use Rattle.detect_core.specs.declared.chosen.Recorded.{Recorded}
use Rattle.detect_record.specs.Lines.{lines_text}
use Rattle.detect_record.specs.Making.{record_lines}
use Rattle.order_expand.specs.Groups.{listed_groups}
use Rattle.steps.specs.Asking.{AskedBy}
use Rattle.steps.specs.Outside.{Outside}
use Rattle.detect_laws.specs.Sound.{EndsSoundly, EndsWell, HaveFewTrials, IsFaultless, IsSound}

-- The record of what is found by these answers, where a group passes, has at most 16,777,216 bytes.
abbrev pub HasSmallRecord : Prepared → List Ran → Type 0
HasSmallRecord prepared answers = (found : Recorded) → found_of prepared answers ≡ Ok found
    → length (lines_text (record_lines prepared.frame.target found.answers
    (listed_groups prepared.catalog prepared.order))) ≤ 16777216

-- A detection with sound files, which are told, and with children whose answers keep to the limits of trials and of the
-- record, which is written at a path of its own.
pub record DetectsRecordedSoundly (source : TargetSource) (options : ChoiceWords) (path : List ℕ) (env : List Variable)
    (files : Tree) (old : Outside) (end : Result (List ℕ) DetectRefusal) (new : Outside) : Type 0 where
  pub sound : IsSound source options files
  pub own_path : IsTrue (is_record_path options.work path)
  pub told : old.world.files ≡ Some files
  pub trials : (prepared : Prepared) (answers : List Ran) → prepared_in source options env files ≡ Ok prepared
      → AskedBy answers old.spawners new.spawners → HaveFewTrials prepared answers
  pub small : (prepared : Prepared) (answers : List Ran) → prepared_in source options env files ≡ Ok prepared
      → AskedBy answers old.spawners new.spawners → HasSmallRecord prepared answers
  pub steps : detects_recorded source options path env old end new

-- It ends as one without a record does,
abbrev pub SoundRecordedDetectionsEnd : Type 0
SoundRecordedDetectionsEnd = (source : TargetSource) (options : ChoiceWords) (path : List ℕ) (env : List Variable)
    (files : Tree) (old : Outside) (end : Result (List ℕ) DetectRefusal) (new : Outside)
    → DetectsRecordedSoundly source options path env files old end new → EndsSoundly old end new

-- and where no call fails besides, with the same statuses.
abbrev pub FaultlessRecordedDetectionsEnd : Type 0
FaultlessRecordedDetectionsEnd = (source : TargetSource) (options : ChoiceWords) (path : List ℕ) (env : List Variable)
    (files : Tree) (old : Outside) (end : Result (List ℕ) DetectRefusal) (new : Outside)
    → DetectsRecordedSoundly source options path env files old end new → IsFaultless old new → EndsWell end
