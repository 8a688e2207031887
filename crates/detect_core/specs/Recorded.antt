-- A choice with the answers that it was made by (buildpack.md, "Phase #1: Detection").
use Rattle.std.specs.Prelude.{◌≡◌, List, [], ◌∷◌, map, Option, Some, Result, Ok, Err}
use Rattle.std.specs.List.{AllByRecursion}
use Rattle.cnb_world.specs.Runs.{Ran}
use Rattle.cnb_world.specs.declared.child.Probed.{Probed}
use Rattle.cnb_toml.specs.declared.names.Key.{Key}
use Rattle.cnb_toml.specs.declared.target.Target.{Target}
use Rattle.bp_docs.specs.declared.descriptor.Descriptor.{Descriptor}
use Rattle.bp_docs.specs.declared.descriptor.Entry.{Entry}
use Rattle.order_expand.specs.declared.member.Member.{Member}
use Rattle.plan_resolve.specs.declared.rows.Resolved.{Resolved}
use Rattle.detect_core.specs.declared.chosen.AnswerRow.{AnswerRow}
use Rattle.detect_core.specs.declared.chosen.Chosen.{Chosen}
use Rattle.detect_core.specs.declared.chosen.DetectEnd.{DetectEnd}
use Rattle.detect_core.specs.declared.chosen.Recorded.{Recorded}
use Rattle.detect_core.specs.declared.chosen.Verdict.{Verdict}
use Rattle.detect_core.specs.Answer.{answer_of, build_plan, recorded}
use Rattle.detect_core.specs.Asking.{AreNew}
use Rattle.detect_core.specs.Detection.{FirstTrial, asked_keys, first_trial}
use Rattle.detect_core.specs.Kept.{KeptRow, kept_says}
use Rattle.detect_core.specs.Search.{IsChoice}

-- these buildpacks, each with its answer
abbrev pub answer_rows : List Key → List Probed → List AnswerRow
answer_rows [] answers = []
answer_rows (key ∷ keys) [] = []
answer_rows (key ∷ keys) (probed ∷ answers) = record { key = key; probed = probed } ∷ answer_rows keys answers

abbrev pub answered_keys : List AnswerRow → List Key
answered_keys rows = map (λ row. row.key) rows

-- what a buildpack's child said by its answer
abbrev pub kept_row : AnswerRow → KeptRow
kept_row row = (row.key, answer_of build_plan row.probed)

-- What recorded answers say of a member: the first one of its buildpack decides, and a buildpack without one counts as
-- one that ended with an error.
abbrev pub says_recorded : Option Target → List AnswerRow → Member → Verdict
says_recorded target rows = kept_says target (map kept_row rows)

-- each answer is the one that these children recorded for its buildpack
abbrev pub AreRecordedBy : List Ran → List AnswerRow → Type 0
AreRecordedBy rans rows = AllByRecursion (λ row. recorded rans row.key ≡ Some row.probed) rows

-- the choice without the answers
abbrev pub chosen_of : Result Recorded DetectEnd → Result Chosen DetectEnd
chosen_of (Ok found) = Ok found.chosen
chosen_of (Err end) = Err end

-- By the recorded answers the choice is the first trial that passes, and the answered buildpacks are exactly those that
-- have to be asked, in order, each once.
pub record IsRecorded (order : List (List Entry)) (catalog : List Descriptor) (target : Option Target)
    (found : Recorded) : Type 0 where
  pub resolved : Resolved
  pub group : List Key
  pub first : first_trial (says_recorded target found.answers) catalog order
      ≡ Some (FirstTrial found.chosen.place resolved group)
  pub choice : IsChoice found.chosen found.chosen.place resolved group
      (asked_keys target (says_recorded target found.answers) catalog order)
  pub keys : answered_keys found.answers ≡ asked_keys target (says_recorded target found.answers) catalog order
  pub once : AreNew [] (answered_keys found.answers)
