-- A search over spawners is a detection, in whatever order their children finished.
use Rattle.std.proofs.Common.{◌≡◌, sym, subst, List, map}
use Rattle.std.specs.Prelude.{Result}
use Rattle.cnb_world.specs.Runs.{Ran}
use Rattle.bp_docs.specs.declared.descriptor.Entry.{Entry}
use Rattle.bp_docs.specs.declared.descriptor.Descriptor.{Descriptor}
use Rattle.order_expand.specs.declared.member.Member.{Member}
use Rattle.order_expand.specs.Groups.{listed_groups}
use Rattle.steps.specs.Asking.{AskedBy}
use Rattle.steps.specs.Outside.{SpawnerSeen}
use Rattle.detect_core.specs.declared.chosen.AnswerRow.{AnswerRow}
use Rattle.detect_core.specs.declared.chosen.Chosen.{Chosen}
use Rattle.detect_core.specs.declared.chosen.DetectEnd.{DetectEnd}
use Rattle.detect_core.specs.declared.chosen.DetectFrame.{DetectFrame}
use Rattle.detect_core.specs.declared.chosen.Verdict.{Verdict}
use Rattle.detect_core.specs.Answer.{build_plan, says}
use Rattle.detect_core.specs.Detection.{first_trial, asked_members, asked_keys, fitting, has_erred}
use Rattle.detect_core.specs.Job.{detect_job}
use Rattle.detect_core.specs.Search.{DetectsAs, OnDetected, RunsAsked}
use Rattle.detect_core.specs.Searching.{IsSearch}
use Rattle.detect_core.proofs.AskingLemmas.{on_err}
use Rattle.detect_core.proofs.OrderLemmas.{same_in_any_order, each_once}

-- the answer and the children of a detection that ran these
pub record IsDetection (frame : DetectFrame) (catalog : List Descriptor) (order : List (List Entry))
    (ran : List Ran) (result : Result Chosen DetectEnd) : Type 0 where
  pub detects : DetectsAs result (first_trial (says frame.target build_plan ran) catalog order)
      (asked_keys frame.target (says frame.target build_plan ran) catalog order)
      (has_erred frame.target (says frame.target build_plan ran) catalog order)
  pub asked : OnDetected result (map (λ r. r.job) ran ≡ map (detect_job frame)
      (asked_members frame.target (says frame.target build_plan ran) catalog order))

module _ (frame : DetectFrame) (catalog : List Descriptor) (order : List (List Entry))
    (old new : List SpawnerSeen) (rows : List AnswerRow) (result : Result Chosen DetectEnd)
    (s : IsSearch frame (listed_groups catalog order) old new rows result) where
  pub detection_of : IsDetection frame catalog order s.answers result
  unfolding first_trial asked_members
  detection_of = record { detects = s.detects; asked = s.asked }

  pub asked_so : RunsAsked frame catalog order old result new
  asked_so = record {
    answers = s.answers;
    asked = s.asked_by;
    exactly = detection_of.asked;
    some = on_err result
        s.some;
  }

  pub detected_so : (finished : List Ran) → AskedBy finished old new →
      DetectsAs result (first_trial (says frame.target build_plan finished) catalog order)
      (asked_keys frame.target (says frame.target build_plan finished) catalog order)
      (has_erred frame.target (says frame.target build_plan finished) catalog order)
  detected_so finished asked =
      subst (λ (say : Member → Verdict). DetectsAs result (first_trial say catalog order)
      (asked_keys frame.target say catalog order) (has_erred frame.target say catalog order))
      (sym (same_in_any_order frame.target s.answers finished old new s.asked_by asked
      (each_once frame (fitting frame.target (listed_groups catalog order)) s.answers s.some)))
      detection_of.detects
