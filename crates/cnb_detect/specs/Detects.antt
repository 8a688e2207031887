-- What the command `detect` does, in the order of its work (platform.md, "detector").
use Rattle.std.specs.Prelude.{ℕ, ◌&&◌, Bool, List, length, Result, Ok}
use Rattle.cnb_world.specs.declared.env.Variable.{Variable}
use Rattle.cnb_world.specs.Tree.{Tree}
use Rattle.cnb_words.specs.declared.choice.ChoiceWords.{ChoiceWords}
use Rattle.steps.specs.Asking.{asks}
use Rattle.steps.specs.Outside.{Outside}
use Rattle.steps.specs.Steps.{◌>>=◌, gives, in_spawners, in_world, yields}
use Rattle.cnb_detect.specs.declared.refusal.DetectRefusal.{DetectRefusal}
use Rattle.cnb_detect.specs.declared.target.TargetSource.{TargetSource}
use Rattle.cnb_detect.specs.Choice.{Choice, choice_of, jobs_of, listed_jobs}
use Rattle.cnb_detect.specs.Documents.{can_write_choice, writes_choice}
use Rattle.cnb_detect.specs.Preparation.{is_fit_preparation, prepares}
use Rattle.cnb_detect.specs.Refusals.{cause_of}
use Rattle.cnb_detect.specs.Report.{choice_text}

-- the text of a choice
abbrev pub text_of : Choice → List ℕ
text_of choice = choice_text choice.group (length choice.plan)

-- The files are read, and the children are asked and decide.
unfoldable pub chooses : TargetSource → ChoiceWords → List Variable → Outside → Result Choice DetectRefusal
    → Outside → Type 0
chooses source options env = do
  prepared ← in_world (prepares source options env)
  in_spawners (asks cause_of (listed_jobs prepared) (jobs_of prepared) (choice_of prepared))

-- A group and its plan are chosen, the text is made, and the choice is written.
unfoldable pub detects : TargetSource → ChoiceWords → List Variable → Outside → Result (List ℕ) DetectRefusal
    → Outside → Type 0
detects source options env = do
  choice ← chooses source options env
  text ← gives cause_of (Ok (text_of choice))
  written ← in_world (writes_choice options.work choice)
  yields text

-- what stands where the command reads and writes is of the kind that it needs
abbrev pub is_fit_detect : TargetSource → ChoiceWords → Tree → Bool
is_fit_detect source options files = is_fit_preparation source options files && can_write_choice options.work files
