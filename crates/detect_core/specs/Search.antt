-- What a call that detects says of its answer, of the children that it ran and of the spawners' faults.
use Rattle.std.specs.Prelude.{ℕ, ◌≡◌, ◌&&◌, Bool, List, length, map, nat_le, Option, Some, None, Result, Ok, Err, OnErr}
use Rattle.cnb_world.specs.Runs.{Ran}
use Rattle.cnb_toml.specs.Api.{buildpack_api}
use Rattle.cnb_toml.specs.declared.names.Key.{Key}
use Rattle.run_docs.specs.declared.group.GroupRow.{GroupRow}
use Rattle.bp_docs.specs.declared.descriptor.Descriptor.{Descriptor}
use Rattle.bp_docs.specs.declared.descriptor.Entry.{Entry}
use Rattle.order_expand.specs.Groups.{listed_groups}
use Rattle.plan_resolve.specs.declared.rows.Resolved.{Resolved}
use Rattle.detect_core.specs.declared.chosen.Chosen.{Chosen}
use Rattle.detect_core.specs.declared.chosen.DetectEnd.{DetectEnd}
use Rattle.detect_core.specs.declared.chosen.DetectEnd.TheVariants.{NoGroup, ManyTrials, Child, Memory}
use Rattle.detect_core.specs.declared.chosen.DetectFrame.{DetectFrame}
use Rattle.detect_core.specs.Answer.{build_plan, says}
use Rattle.detect_core.specs.Detection.{Ending, TooManyTrials, FirstTrial, asked_members, fitting, members_of}
use Rattle.detect_core.specs.Job.{detect_job}
use Rattle.steps.specs.Asking.{AskedBy, AreSome}
use Rattle.steps.specs.Causes.{Cause, ChildFailed, OutOfMemory, Decided}
use Rattle.steps.specs.Outside.{SpawnerSeen}

-- the chosen group, each buildpack with the API that it is written for
abbrev pub group_rows : List Key → List GroupRow
group_rows keys = map (λ key. record { key = key; api = buildpack_api }) keys

-- a choice is that of the first trial that passes
pub record IsChoice (chosen : Chosen) (at : ℕ) (resolved : Resolved) (kept keys : List Key) : Type 0 where
  pub group : chosen.group ≡ group_rows kept
  pub plan : chosen.plan ≡ resolved.plan
  pub place : chosen.place ≡ at
  pub trial : chosen.trial ≡ resolved.trial
  pub trials : chosen.trials ≡ resolved.trials
  pub asked : chosen.asked ≡ keys

-- the answer of a detection that ended so, where an asked child erred or not; a failed spawner and want of memory say
-- nothing
abbrev pub DetectsAs : Result Chosen DetectEnd → Option Ending → List Key → Bool → Type 0
DetectsAs (Ok chosen) (Some (FirstTrial place resolved group)) asked erred = IsChoice chosen place resolved group asked
DetectsAs (Ok chosen) (Some (TooManyTrials place)) asked erred = ⊥
DetectsAs (Ok chosen) None asked erred = ⊥
DetectsAs (Err ManyTrials) (Some (TooManyTrials place)) asked erred = Unit {0}
DetectsAs (Err ManyTrials) (Some (FirstTrial place resolved group)) asked erred = ⊥
DetectsAs (Err ManyTrials) None asked erred = ⊥
DetectsAs (Err (NoGroup told)) None asked erred = told ≡ erred
DetectsAs (Err (NoGroup told)) (Some ending) asked erred = ⊥
DetectsAs (Err Child) ending asked erred = Unit {0}
DetectsAs (Err Memory) ending asked erred = Unit {0}

-- the fact, unless a spawner failed or memory ran out
abbrev pub OnDetected : Result Chosen DetectEnd → Type 0 → Type 0
OnDetected (Ok chosen) P = P
OnDetected (Err (NoGroup erred)) P = P
OnDetected (Err ManyTrials) P = P
OnDetected (Err Child) P = Unit {0}
OnDetected (Err Memory) P = Unit {0}

-- why no group was chosen
abbrev pub end_cause : DetectEnd → Cause
end_cause Child = ChildFailed
end_cause Memory = OutOfMemory
end_cause (NoGroup erred) = Decided
end_cause ManyTrials = Decided

-- The children that spawners ran between them: exactly those that have to be asked, by what they answered, each once;
-- after a failure some of those that the order lists for the target, each at most once.
pub record RunsAsked (frame : DetectFrame) (catalog : List Descriptor) (order : List (List Entry))
    (old : List SpawnerSeen)
    (result : Result Chosen DetectEnd) (new : List SpawnerSeen) : Type 0 where
  pub answers : List Ran
  pub asked : AskedBy answers old new
  pub exactly : OnDetected result (map (λ ran. ran.job) answers
      ≡ map (detect_job frame) (asked_members frame.target (says frame.target build_plan answers) catalog order))
  pub some : OnErr result (AreSome (map (λ ran. ran.job) answers)
      (map (detect_job frame) (members_of (fitting frame.target (listed_groups catalog order)))))

-- the folders of a frame are short enough that every path that is made of them is a path
abbrev pub is_short : DetectFrame → Bool
is_short frame = nat_le (length frame.buildpacks) 4096 && nat_le (length frame.app) 4096
    && nat_le (length frame.platform) 4096 && nat_le (length frame.work) 4096
