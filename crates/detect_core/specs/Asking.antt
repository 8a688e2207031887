-- Which children a detection runs when it comes to a group, and what spawners ran between them.
use Rattle.std.specs.Prelude.{◌≡◌, false, List, [], ◌∷◌, ◌++◌, map, if◌then◌else◌}
use Rattle.std.specs.List.{list_any}
use Rattle.cnb_world.specs.Runs.{Ran}
use Rattle.cnb_world.specs.declared.child.DetectJob.{DetectJob}
use Rattle.cnb_world.specs.declared.child.Probed.{Probed}
use Rattle.cnb_toml.specs.declared.names.Key.{Key}
use Rattle.cnb_toml.specs.Keys.{same_key}
use Rattle.order_expand.specs.declared.member.Member.{Member}
use Rattle.steps.specs.Asking.{AskedBy, AreSome}
use Rattle.steps.specs.Causes.{Cause, ChildFailed, OutOfMemory}
use Rattle.steps.specs.Outside.{SpawnerSeen}
use Rattle.ticket_pool.specs.declared.fault.PoolFault.{PoolFault}
use Rattle.ticket_pool.specs.declared.fault.PoolFault.TheVariants as pool
use Rattle.detect_core.specs.declared.chosen.AnswerRow.{AnswerRow}
use Rattle.detect_core.specs.declared.chosen.DetectFrame.{DetectFrame}
use Rattle.detect_core.specs.Answer.{answer_of, answer_row, build_plan}
use Rattle.detect_core.specs.Job.{detect_job}
use Rattle.detect_core.specs.Kept.{KeptRow, row_of}

-- the members whose buildpacks are not among these, each buildpack once, in order of first meeting
abbrev pub unmet : List Key → List Member → List Member
unmet keys [] = []
unmet keys (member ∷ members) =
    if list_any (same_key member.key) keys then unmet keys members else member ∷ unmet (keys ++ member.key ∷ []) members

-- none of these keys is among the known ones, or stands twice
abbrev pub AreNew : List Key → List Key → Type 0
AreNew known [] = Unit {0}
AreNew known (key ∷ keys) = (list_any (same_key key) known ≡ false) × AreNew (known ++ key ∷ []) keys

-- what is kept of the children of these buildpacks, which ended so
abbrev pub rows_of : List Key → List Probed → List KeptRow
rows_of [] answers = []
rows_of (key ∷ keys) [] = []
rows_of (key ∷ keys) (probed ∷ answers) = (key, answer_of build_plan probed) ∷ rows_of keys answers

-- Spawners ran the children of all these members, each once, and what they answered is kept, and added to the rows, in
-- the members' order.
pub record RunsAll (frame : DetectFrame) (members : List Member) (old new : List SpawnerSeen)
    (kept_old kept_new : List KeptRow) (rows_old rows_new : List AnswerRow) : Type 0 where
  pub answers : List Ran
  pub asked : AskedBy answers old new
  pub jobs : map (λ ran. ran.job) answers ≡ map (detect_job frame) members
  pub kept : kept_new ≡ kept_old ++ map row_of answers
  pub rows : rows_new ≡ rows_old ++ map answer_row answers

-- Spawners ran some of these jobs, each at most once.
pub record RunsSome (jobs : List DetectJob) (old new : List SpawnerSeen) : Type 0 where
  pub answers : List Ran
  pub asked : AskedBy answers old new
  pub some : AreSome (map (λ ran. ran.job) answers) jobs

-- why not every child has an answer
abbrev pub pool_cause : PoolFault → Cause
pool_cause pool.Child = ChildFailed
pool_cause pool.Memory = OutOfMemory
