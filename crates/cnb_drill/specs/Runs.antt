-- Which children the spawners of the drill run.
use Rattle.std.specs.Prelude.{ℕ, ◌≡◌, List, length, map, None, Result, OnOk, OnErr}
use Rattle.cnb_world.specs.declared.child.Reply.{Reply}
use Rattle.cnb_world.specs.Runs.{Ran, reply_of}
use Rattle.cnb_world.specs.declared.values.Memory.{Memory}
use Rattle.order_expand.specs.declared.member.Member.{Member}
use Rattle.order_expand.specs.Groups.{listed_groups}
use Rattle.steps.specs.Asking.{AreSome, AskedBy}
use Rattle.steps.specs.Outside.{SpawnerSeen}
use Rattle.detect_core.specs.declared.chosen.Verdict.{Verdict}
use Rattle.detect_core.specs.Answer.{answer_or_error, build_plan}
use Rattle.detect_core.specs.Detection.{asked_members, members_of}
use Rattle.detect_core.specs.Job.{detect_job}
use Rattle.cnb_drill.specs.Digits.{asked_count}
use Rattle.cnb_drill.specs.Frame.{drill_frame}
use Rattle.cnb_drill.specs.Order.{drill_catalog, drill_order}
use Rattle.cnb_drill.specs.Replies.{drill_replies}

-- what a member's child says by such replies
abbrev pub said_by : List Reply → Member → Verdict
said_by replies member = answer_or_error build_plan (reply_of replies member.key.id member.key.version)

-- The children that spawners ran between them: exactly those that have to be asked by the replies, each once, and as
-- many as the text tells; where memory ran out some of those that the order lists, each at most once.
pub record RunsDrill {A : Type 0} (number : ℕ) (old : List SpawnerSeen) (result : Result A Memory)
    (new : List SpawnerSeen) : Type 0 where
  pub answers : List Ran
  pub asked : AskedBy answers old new
  pub exactly : OnOk result (map (λ ran. ran.job) answers
      ≡ map (detect_job drill_frame) (asked_members None (said_by (drill_replies number)) drill_catalog
      drill_order))
  pub count : OnOk result (length answers ≡ asked_count number)
  pub some : OnErr result (AreSome (map (λ ran. ran.job) answers)
      (map (detect_job drill_frame) (members_of (listed_groups drill_catalog drill_order))))
