-- What `detect` chooses (buildpack.md, "Phase #1: Detection").
use Rattle.std.specs.Prelude.{Bool, List, map, Option, Some, None, Result, Ok, Err}
use Rattle.cnb_world.specs.declared.child.DetectJob.{DetectJob}
use Rattle.cnb_world.specs.declared.limits.LimitKind.TheVariants.{Trials}
use Rattle.cnb_world.specs.Runs.{Ran}
use Rattle.run_docs.specs.declared.group.GroupRow.{GroupRow}
use Rattle.run_docs.specs.declared.plan.PlanEntry.{PlanEntry}
use Rattle.order_expand.specs.Groups.{listed_groups}
use Rattle.detect_core.specs.declared.chosen.Chosen.{Chosen}
use Rattle.detect_core.specs.Answer.{says, build_plan}
use Rattle.detect_core.specs.Detection.{Ending, TooManyTrials, FirstTrial, first_trial, asked_members, fitting}
use Rattle.detect_core.specs.Detection.{has_erred, members_of}
use Rattle.detect_core.specs.Job.{detect_job}
use Rattle.detect_core.specs.Search.{group_rows}
use Rattle.cnb_detect.specs.declared.preparation.Prepared.{Prepared}
use Rattle.cnb_detect.specs.declared.refusal.DetectRefusal.{DetectRefusal}
use Rattle.cnb_detect.specs.declared.refusal.DetectRefusal.TheVariants.{Limit, NoGroup}

-- the chosen group and its plan
pub record Choice : Type 0 where
  pub group : List GroupRow
  pub plan : List PlanEntry

-- the choice of a search that ended so, where an asked child erred or not
abbrev pub choice_by : Bool → Option Ending → Result Choice DetectRefusal
choice_by erred (Some (FirstTrial place resolved kept)) = Ok (record { group = group_rows kept; plan = resolved.plan })
choice_by erred (Some (TooManyTrials place)) = Err (Limit Trials)
choice_by erred None = Err (NoGroup erred)

-- the choice by what the children answered
unfoldable pub choice_of : Prepared → List Ran → Result Choice DetectRefusal
choice_of prepared answers =
    choice_by (has_erred prepared.frame.target (says prepared.frame.target build_plan answers) prepared.catalog
    prepared.order)
    (first_trial (says prepared.frame.target build_plan answers) prepared.catalog prepared.order)

-- the children that have to be asked, by what they answered
abbrev pub jobs_of : Prepared → List Ran → List DetectJob
jobs_of prepared answers =
    map (detect_job prepared.frame) (asked_members prepared.frame.target
    (says prepared.frame.target build_plan answers) prepared.catalog prepared.order)

-- the children of all buildpacks that the order lists and that fit the target, each once
abbrev pub listed_jobs : Prepared → List DetectJob
listed_jobs prepared = map (detect_job prepared.frame)
    (members_of (fitting prepared.frame.target (listed_groups prepared.catalog prepared.order)))

abbrev pub choice_in : Chosen → Choice
choice_in chosen = record { group = chosen.group; plan = chosen.plan }

abbrev pub as_choice : {E : Type 0} → Result Chosen E → Result Choice E
as_choice (Ok chosen) = Ok (choice_in chosen)
as_choice (Err refusal) = Err refusal
