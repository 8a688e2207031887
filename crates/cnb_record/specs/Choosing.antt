-- What `detect` chooses where a record is asked for (buildpack.md, "Phase #1: Detection").
use Rattle.std.specs.Prelude.{ℕ, ◌≡◌, Bool, List, [], ◌∷◌, Option, Some, None, Result, Ok, Err, IfOk}
use Rattle.cnb_toml.specs.declared.names.Key.{Key}
use Rattle.cnb_world.specs.Runs.{Ran}
use Rattle.cnb_world.specs.declared.child.Probed.{Probed}
use Rattle.cnb_world.specs.declared.env.Variable.{Variable}
use Rattle.cnb_world.specs.declared.limits.LimitKind.TheVariants.{Record, Trials}
use Rattle.cnb_words.specs.declared.choice.ChoiceWords.{ChoiceWords}
use Rattle.cnb_detect.specs.Choice.{jobs_of, listed_jobs}
use Rattle.cnb_detect.specs.Preparation.{prepares}
use Rattle.cnb_detect.specs.Refusals.{cause_of}
use Rattle.cnb_detect.specs.declared.preparation.Prepared.{Prepared}
use Rattle.cnb_detect.specs.declared.refusal.DetectRefusal.{DetectRefusal}
use Rattle.cnb_detect.specs.declared.refusal.DetectRefusal.TheVariants.{Limit, Memory, NoGroup}
use Rattle.cnb_detect.specs.declared.target.TargetSource.{TargetSource}
use Rattle.detect_core.specs.Answer.{build_plan, recorded, says}
use Rattle.detect_core.specs.Detection.{Ending, TooManyTrials, FirstTrial, asked_keys, first_trial, has_erred}
use Rattle.detect_core.specs.Search.{group_rows}
use Rattle.detect_core.specs.declared.chosen.AnswerRow.{AnswerRow}
use Rattle.detect_core.specs.declared.chosen.Recorded.{Recorded}
use Rattle.detect_record.specs.Checking.{check_of}
use Rattle.detect_record.specs.Making.{checked_of, record_of}
use Rattle.detect_record.specs.declared.outcome.RecordFault.{RecordFault}
use Rattle.detect_record.specs.declared.outcome.RecordFault.TheVariants as fault
use Rattle.steps.specs.Asking.{asks}
use Rattle.steps.specs.Outside.{Outside, Seen, SpawnerSeen}
use Rattle.steps.specs.Results.{with_fault}
use Rattle.steps.specs.Steps.{◌>>=◌, gives, in_spawners, in_world, yields}
use Rattle.cnb_record.specs.declared.choosing.RecordedChoice.{RecordedChoice}

-- what was recorded for a buildpack, in front of other rows
abbrev pub with_row : Key → Option Probed → List AnswerRow → List AnswerRow
with_row key (Some probed) rows = record { key = key; probed = probed } ∷ rows
with_row key None rows = rows

-- what the children of these buildpacks answered, in this order
abbrev pub answers_of : List Ran → List Key → List AnswerRow
answers_of rans [] = []
answers_of rans (key ∷ keys) = with_row key (recorded rans key) (answers_of rans keys)

-- the choice of a search that ended so, with the buildpacks that were asked and what they answered
abbrev pub found_by : Bool → List Key → List AnswerRow → Option Ending → Result Recorded DetectRefusal
found_by erred asked answers (Some (FirstTrial place resolved kept)) = Ok (record {
  chosen = record {
    group = group_rows kept;
    plan = resolved.plan;
    place = place;
    trial = resolved.trial;
    trials =
        resolved.trials;
    asked = asked;
  };
  answers = answers;
})
found_by erred asked answers (Some (TooManyTrials place)) = Err (Limit Trials)
found_by erred asked answers None = Err (NoGroup erred)

-- the buildpacks that have to be asked, by what the children answered
abbrev pub asked_by : Prepared → List Ran → List Key
asked_by prepared answers = asked_keys prepared.frame.target
    (says prepared.frame.target build_plan answers) prepared.catalog prepared.order

-- the choice and its answers by what the children answered
unfoldable pub found_of : Prepared → List Ran → Result Recorded DetectRefusal
found_of prepared answers =
    found_by (has_erred prepared.frame.target (says prepared.frame.target build_plan answers) prepared.catalog
    prepared.order)
    (asked_by prepared answers) (answers_of answers (asked_by prepared answers))
    (first_trial (says prepared.frame.target build_plan answers) prepared.catalog prepared.order)

abbrev pub of_record_fault : RecordFault → DetectRefusal
of_record_fault fault.Large = Limit Record
of_record_fault fault.Memory = Memory

-- the canonical record of what was found, where it is within its limit
abbrev pub record_in : Prepared → Recorded → Result (List ℕ) DetectRefusal
record_in prepared found = with_fault of_record_fault
    (record_of prepared.catalog prepared.order prepared.frame.target found)

-- bytes that prove what was found
abbrev pub Proves : Prepared → Recorded → List ℕ → Type 0
Proves prepared found bytes = check_of prepared.catalog prepared.order bytes ≡ Ok (checked_of found)

-- the canonical record is made, and proves what was found
unfoldable pub makes_record : {S : Type 0} → Prepared → Recorded → S → Result (List ℕ) DetectRefusal → S → Type 0
makes_record prepared found old result new = gives cause_of (record_in prepared found) old result new
    × IfOk result (Proves prepared found)

-- the record is added to the choice
unfoldable pub adds_record : {S : Type 0} → Prepared → Recorded → S → Result RecordedChoice DetectRefusal → S → Type 0
adds_record prepared found = do
  bytes ← makes_record prepared found
  yields (record { chosen = found.chosen; bytes = bytes })

-- the children are asked and decide, and the record of that is made
unfoldable pub finds : Prepared → Outside → Result RecordedChoice DetectRefusal → Outside → Type 0
finds prepared = do
  found ← in_spawners (asks cause_of (listed_jobs prepared) (jobs_of prepared) (found_of prepared))
  adds_record prepared found

-- The files are read, and then that is done; nothing is written.
unfoldable pub chooses_recorded : TargetSource → ChoiceWords → List Variable → Outside
    → Result RecordedChoice DetectRefusal → Outside → Type 0
chooses_recorded source options env = do
  prepared ← in_world (prepares source options env)
  finds prepared

-- spawners beside a world
abbrev pub over : Seen → List SpawnerSeen → Outside
over world spawners = record { world = world; spawners = spawners }
