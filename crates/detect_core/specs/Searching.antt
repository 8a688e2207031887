-- What the search over the listed groups says of its answer.
use Rattle.std.specs.Prelude.{◌≡◌, ◌≤◌, Bool, false, List, length, map, nat_lt, Result, IfOk, OnOk}
use Rattle.std.specs.List.{list_any}
use Rattle.cnb_world.specs.Runs.{Ran}
use Rattle.order_expand.specs.declared.member.Member.{Member}
use Rattle.steps.specs.Asking.{AskedBy, AreSome}
use Rattle.steps.specs.Outside.{SpawnerSeen}
use Rattle.ticket_pool.specs.declared.fault.PoolFault.{PoolFault}
use Rattle.ticket_pool.specs.declared.fault.PoolFault.TheVariants as pool
use Rattle.detect_core.specs.declared.chosen.AnswerRow.{AnswerRow}
use Rattle.detect_core.specs.declared.chosen.Chosen.{Chosen}
use Rattle.detect_core.specs.declared.chosen.DetectEnd.{DetectEnd}
use Rattle.detect_core.specs.declared.chosen.DetectEnd.TheVariants.{Child, Memory}
use Rattle.detect_core.specs.declared.chosen.DetectFrame.{DetectFrame}
use Rattle.detect_core.specs.declared.chosen.Recorded.{Recorded}
use Rattle.detect_core.specs.Answer.{answer_row, is_error, build_plan, says}
use Rattle.detect_core.specs.Detection.{first_ending, fitting, reached, members_of}
use Rattle.detect_core.specs.Job.{detect_job}
use Rattle.detect_core.specs.Recorded.{chosen_of}
use Rattle.detect_core.specs.Search.{DetectsAs, OnDetected}

abbrev pub is_long : List Member → Bool
is_long group = nat_lt 256 (length group)

-- at most 4,096 groups, none of more than 256 members
pub record AreWithin (groups : List (List Member)) : Type 0 where
  pub few : length groups ≤ 4096
  pub short : list_any is_long groups ≡ false

-- a child without an answer gives `Child`
abbrev pub end_of_fault : PoolFault → DetectEnd
end_of_fault pool.Child = Child
end_of_fault pool.Memory = Memory

-- A search over these groups: the children that spawners ran, the rows of what they answered, and the answer by what
-- they said.
pub record IsSearch (frame : DetectFrame) (groups : List (List Member)) (old new : List SpawnerSeen)
    (rows : List AnswerRow) (result : Result Chosen DetectEnd) : Type 0 where
  pub answers : List Ran
  pub asked_by : AskedBy answers old new
  pub some : AreSome (map (λ ran. ran.job) answers) (map (detect_job frame) (members_of (fitting frame.target groups)))
  pub asked : OnDetected result (map (λ ran. ran.job) answers
      ≡ map (detect_job frame) (members_of (fitting frame.target
      (reached (says frame.target build_plan answers) 0 groups))))
  pub detects : DetectsAs result (first_ending (says frame.target build_plan answers) 0 groups)
      (map (λ member. member.key) (members_of (fitting frame.target
      (reached (says frame.target build_plan answers) 0 groups))))
      (list_any (λ member. is_error (says frame.target build_plan answers member))
      (members_of (fitting frame.target (reached (says frame.target build_plan answers) 0 groups))))
  pub rows_are : OnOk result (rows ≡ map answer_row answers)

-- the same, where the rows are those of the answer
pub record IsRecordedSearch (frame : DetectFrame) (groups : List (List Member)) (old new : List SpawnerSeen)
    (result : Result Recorded DetectEnd) : Type 0 where
  pub rows : List AnswerRow
  pub search : IsSearch frame groups old new rows (chosen_of result)
  pub own : IfOk result (λ found. found.answers ≡ rows)
