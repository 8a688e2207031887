-- What `detect` does where a record is asked for, in the order of its work (platform.md, "detector").
use Rattle.std.specs.Prelude.{ℕ, ◌≡◌, List, Result, Ok}
use Rattle.cnb_world.specs.declared.env.Variable.{Variable}
use Rattle.cnb_words.specs.declared.choice.ChoiceWords.{ChoiceWords}
use Rattle.cnb_detect.specs.Choice.{choice_in}
use Rattle.cnb_detect.specs.Detects.{text_of}
use Rattle.cnb_detect.specs.Documents.{writes_choice}
use Rattle.cnb_detect.specs.Refusals.{cause_of}
use Rattle.cnb_detect.specs.declared.refusal.DetectRefusal.{DetectRefusal}
use Rattle.cnb_detect.specs.declared.target.TargetSource.{TargetSource}
use Rattle.steps.specs.Outside.{Outside, Seen}
use Rattle.steps.specs.Steps.{◌>>=◌, gives, in_world, writes, yields}
use Rattle.cnb_record.specs.Choosing.{chooses_recorded}
use Rattle.cnb_record.specs.declared.choosing.RecordedChoice.{RecordedChoice}

-- the text is made, the choice is written, and then the record, whole
unfoldable pub writes_recorded : List ℕ → List ℕ → RecordedChoice → Seen → Result (List ℕ) DetectRefusal → Seen → Type 0
writes_recorded work path found = do
  text ← gives cause_of (Ok (text_of (choice_in found.chosen)))
  written ← writes_choice work (choice_in found.chosen)
  kept ← writes cause_of path (λ bytes. bytes ≡ found.bytes)
  yields text

-- A group and its plan are chosen, the record of that is made, and all three are written.
unfoldable pub detects_recorded : TargetSource → ChoiceWords → List ℕ → List Variable → Outside
    → Result (List ℕ) DetectRefusal → Outside → Type 0
detects_recorded source options path env = do
  found ← chooses_recorded source options env
  in_world (writes_recorded options.work path found)
