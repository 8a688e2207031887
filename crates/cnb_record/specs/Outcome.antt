-- What `detect` comes to where a record is asked for.
use Rattle.std.specs.Prelude.{ℕ, ◌≡◌, ◌⊎◌, true, List, Option, Result, Ok, Err, IfOk, IfSome}
use Rattle.std.specs.Option.{option_map}
use Rattle.cnb_world.specs.Calls.{MayMisuse}
use Rattle.cnb_world.specs.Runs.{Ran}
use Rattle.cnb_world.specs.Tree.{Tree}
use Rattle.cnb_world.specs.Whole.{can_write, written}
use Rattle.cnb_world.specs.declared.env.Variable.{Variable}
use Rattle.cnb_world.specs.declared.limits.LimitKind.TheVariants.{Record}
use Rattle.cnb_words.specs.declared.choice.ChoiceWords.{ChoiceWords}
use Rattle.cnb_detect.specs.Choice.{Choice, choice_in}
use Rattle.cnb_detect.specs.Detects.{text_of}
use Rattle.cnb_detect.specs.Documents.{group_document, plan_document}
use Rattle.cnb_detect.specs.Outcome.{ChoosesFirst, ComesTo, Decides, prepared_in}
use Rattle.cnb_detect.specs.Preparation.{is_fit_preparation}
use Rattle.cnb_detect.specs.Refusals.{cause_of}
use Rattle.cnb_detect.specs.declared.preparation.Prepared.{Prepared}
use Rattle.cnb_detect.specs.declared.refusal.DetectRefusal.{DetectRefusal}
use Rattle.cnb_detect.specs.declared.refusal.DetectRefusal.TheVariants.{Limit}
use Rattle.cnb_detect.specs.declared.target.TargetSource.{TargetSource}
use Rattle.detect_core.specs.declared.chosen.Recorded.{Recorded}
use Rattle.steps.specs.Asking.{AskedBy}
use Rattle.steps.specs.Causes.{IsWriteCause}
use Rattle.steps.specs.Keeping.{IsOldOrNew, is_free, standing, touched}
use Rattle.steps.specs.Outside.{Outside, SpawnerSeen}
use Rattle.steps.specs.Steps.{Same}
use Rattle.cnb_record.specs.Choosing.{Proves, found_of, record_in}

-- What the children of this call answered decides, by the files, what was found; and this is its canonical record,
-- which proves it, or why there is none.
pub record IsFound (source : TargetSource) (options : ChoiceWords) (env : List Variable) (old new : Outside)
    (found : Recorded)
    (canonical : Result (List ℕ) DetectRefusal) : Type 0 where
  pub prepared : Prepared
  pub answers : List Ran
  pub asked : AskedBy answers old.spawners new.spawners
  pub reads : IfSome old.world.files (λ files. prepared_in source options env files ≡ Ok prepared)
  pub finds : found_of prepared answers ≡ Ok found
  pub makes : record_in prepared found ≡ canonical
  pub proves : IfOk canonical (Proves prepared found)

-- The choice was made, but the record is more than its limit, and nothing is written.
pub record IsTooLarge (source : TargetSource) (options : ChoiceWords) (env : List Variable) (old : Outside)
    (refusal : DetectRefusal)
    (new : Outside) : Type 0 where
  pub limit : refusal ≡ Limit Record
  pub found : Recorded
  pub is_found : IsFound source options env old new found (Err (Limit Record))
  pub first : ChoosesFirst source options env old.world.files old.spawners new.spawners (Ok (choice_in found.chosen))
  pub same : Same old.world new.world
  pub misused : MayMisuse (option_map (is_fit_preparation source options) old.world.files) old.world.misused
      new.world.misused

-- where the record was written, it stands whole; else its writing was refused
abbrev pub IsKept : List ℕ → List ℕ → List ℕ → Option Tree → Result (List ℕ) DetectRefusal → Option Tree → Type 0
IsKept path bytes text middle (Ok printed) new = (printed ≡ text) × (new ≡ option_map (written path bytes) middle)
IsKept path bytes text middle (Err refusal) new = IsWriteCause path (cause_of refusal)

-- In the middle all is as `detect` leaves it without a record. Then the record's file is the old one or the whole new
-- one, both documents stand, and nothing else is changed but what is made above and beside the record.
pub record WritesRecord (source : TargetSource) (options : ChoiceWords) (path : List ℕ) (env : List Variable)
    (old : Outside)
    (end : Result (List ℕ) DetectRefusal) (new : Outside) : Type 0 where
  pub middle : Outside
  pub found : Recorded
  pub bytes : List ℕ
  pub comes : ComesTo source options env old (Ok (text_of (choice_in found.chosen))) middle
  pub is_found : IsFound source options env old middle found (Ok bytes)
  pub file : IsOldOrNew middle.world.files new.world.files path (λ stored. stored ≡ bytes)
  pub kept : IsKept path bytes (text_of (choice_in found.chosen)) middle.world.files end new.world.files
  pub group : standing new.world.files (group_document options.work)
      ≡ standing middle.world.files (group_document options.work)
  pub plan : standing new.world.files (plan_document options.work)
      ≡ standing middle.world.files (plan_document options.work)
  pub others : (other : List ℕ) → is_free (touched path) other ≡ true
      → standing new.world.files other ≡ standing middle.world.files other
  pub spawners : new.spawners ≡ middle.spawners
  pub runs : new.world.runs ≡ middle.world.runs
  pub misused : MayMisuse (option_map (can_write path) middle.world.files) middle.world.misused new.world.misused

-- What `detect` comes to where a record is asked for. Where it does its work, the choice and the record are written. It
-- is refused as without a record, for a record that is too large, or by the writing of the record.
abbrev pub ComesToRecorded : TargetSource → ChoiceWords → List ℕ → List Variable → Outside
    → Result (List ℕ) DetectRefusal → Outside → Type 0
ComesToRecorded source options path env old (Ok text) new = WritesRecord source options path env old (Ok text) new
ComesToRecorded source options path env old (Err refusal) new =
    ComesTo source options env old (Err refusal) new ⊎ IsTooLarge source options env old refusal new
    ⊎ WritesRecord source options path env old (Err refusal) new

-- Who was asked, and what was chosen, by the end: as without a record, or the choice was made and its record is too
-- large.
abbrev pub DecidesRecorded : TargetSource → ChoiceWords → List Variable → Option Tree → List SpawnerSeen
    → List SpawnerSeen → Result (List ℕ) DetectRefusal → Type 0
DecidesRecorded source options env files old new (Ok text) = Decides source options env files old new (Ok text)
DecidesRecorded source options env files old new (Err refusal) =
    Decides source options env files old new (Err refusal)
    ⊎ ((refusal ≡ Limit Record) × (choice : Choice) × ChoosesFirst source options env files old new (Ok choice))
