-- Who was asked, and what was chosen, by the end of a command.
use Rattle.std.specs.Prelude.{ℕ, ◌≡◌, List, Option, Some, None, Result}
use Rattle.cnb_create.specs.Headline.{DecidesImage}
use Rattle.cnb_create.specs.Surroundings.{Surroundings, over_outside}
use Rattle.cnb_detect.specs.Outcome.{Decides}
use Rattle.cnb_detect.specs.declared.refusal.DetectRefusal.{DetectRefusal}
use Rattle.cnb_detect.specs.declared.target.TargetSource.TheVariants as target
use Rattle.cnb_record.specs.Outcome.{DecidesRecorded}
use Rattle.cnb_words.specs.declared.choice.ChoiceWords.{ChoiceWords}
use Rattle.cnb_words.specs.declared.words.Asked.{Asked}
use Rattle.cnb_words.specs.declared.words.Asked.TheVariants.{Detect, Analyze, Restore, Build, Export, Create, Rebase}
use Rattle.cnb_words.specs.declared.words.Asked.TheVariants.{Base, Unpack, Show, Prune, Verify, Check, Drill, Launch}
use Rattle.cnb_world.specs.declared.env.Variable.{Variable}
use Rattle.steps.specs.Outside.{Outside}
use Rattle.cnb_lifecycle.specs.declared.answer.Answer.{Answer}
use Rattle.cnb_lifecycle.specs.declared.answer.Answer.TheVariants.{Printed}
use Rattle.cnb_lifecycle.specs.declared.refusal.Refusal.{Refusal}
use Rattle.cnb_lifecycle.specs.Faults.{of_detect}
use Rattle.cnb_lifecycle.specs.PhaseFaults.{of_create}
use Rattle.cnb_lifecycle.specs.Telling.{tells}

-- of `detect`, with a record and without one
abbrev pub decides_into : Option (List ℕ) → ChoiceWords → List Variable → Outside → Result (List ℕ) DetectRefusal
    → Outside → Type 0
decides_into None choice env old end new = Decides target.Document choice env old.world.files old.spawners new.spawners
    end
decides_into (Some path) choice env old end new = DecidesRecorded target.Document choice env old.world.files
    old.spawners new.spawners end

-- no child is asked
abbrev pub asks_nobody : Surroundings → Result Answer Refusal → Surroundings → Type 0
asks_nobody old end new = new.spawners ≡ old.spawners

-- `detect` and `create` ask exactly those that have to be asked, each once, and the first trial that passes decides;
-- the other commands ask nobody.
abbrev pub decides : Asked → List Variable → Surroundings → Result Answer Refusal → Surroundings → Type 0
decides (Detect options) env = over_outside (tells Printed of_detect
    (decides_into options.proof_path options.choice env))
decides (Create options) env = tells Printed of_create (DecidesImage options env)
decides (Analyze options) env = asks_nobody
decides (Restore options) env = asks_nobody
decides (Build options) env = asks_nobody
decides (Export options) env = asks_nobody
decides (Rebase options) env = asks_nobody
decides (Base options) env = asks_nobody
decides (Unpack options) env = asks_nobody
decides (Show options) env = asks_nobody
decides (Prune options) env = asks_nobody
decides (Verify options) env = asks_nobody
decides (Check options) env = asks_nobody
decides (Drill options) env = asks_nobody
decides (Launch options) env = asks_nobody
