-- The documents of a choice, in the work folder.
use Rattle.std.specs.Prelude.{ℕ, ◌≡◌, ◌&&◌, Bool, List, codes, Option, Result, Ok}
use Rattle.std.specs.Option.{option_map}
use Rattle.cnb_world.specs.Path.{joined}
use Rattle.cnb_world.specs.Tree.{Tree}
use Rattle.cnb_world.specs.Whole.{can_write, written}
use Rattle.run_docs.specs.Group.{group_in}
use Rattle.run_docs.specs.Plan.{plan_in}
use Rattle.steps.specs.Outside.{Seen}
use Rattle.steps.specs.Steps.{◌>>=◌, writes, yields}
use Rattle.cnb_detect.specs.declared.refusal.DetectRefusal.{DetectRefusal}
use Rattle.cnb_detect.specs.Choice.{Choice}
use Rattle.cnb_detect.specs.Refusals.{cause_of}

abbrev pub group_document : List ℕ → List ℕ
group_document work = joined work (codes "group.toml")

abbrev pub plan_document : List ℕ → List ℕ
plan_document work = joined work (codes "plan.toml")

-- the group is written, and then the plan: bytes that read so
unfoldable pub writes_choice : List ℕ → Choice → Seen → Result (Unit {0}) DetectRefusal → Seen → Type 0
writes_choice work choice = do
  group ← writes cause_of (group_document work) (λ bytes. group_in bytes ≡ Ok choice.group)
  plan ← writes cause_of (plan_document work) (λ bytes. plan_in bytes ≡ Ok choice.plan)
  yields tt

-- Both documents are there with bytes that read so, and nothing else is changed but what is made above and beside them.
pub record WritesChoice (work : List ℕ) (choice : Choice) (old new : Option Tree) : Type 0 where
  pub group : List ℕ
  pub plan : List ℕ
  pub group_reads : group_in group ≡ Ok choice.group
  pub plan_reads : plan_in plan ≡ Ok choice.plan
  pub files : new ≡ option_map (λ files. written (plan_document work) plan
      (written (group_document work) group files)) old

-- both documents can be written
abbrev pub can_write_choice : List ℕ → Tree → Bool
can_write_choice work files = can_write (group_document work) files && can_write (plan_document work) files
