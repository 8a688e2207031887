-- What the sink takes of a command's text.
use Rattle.std.specs.Prelude.{ℕ, ◌≡◌, ◌≤◌, List, ◌++◌, length, take, Option, Result, Ok, Err}
use Rattle.std.specs.Option.{option_map}
use Rattle.cnb_world.specs.Calls.{Rose}
use Rattle.cnb_lifecycle.specs.declared.answer.Answer.{Answer}
use Rattle.cnb_lifecycle.specs.declared.answer.Answer.TheVariants as answer
use Rattle.cnb_lifecycle.specs.declared.refusal.Refusal.{Refusal}
use Rattle.cnb_lifecycle.specs.declared.refusal.Refusal.TheVariants.{Memory}
use Rattle.cnb_lifecycle.specs.declared.status.Status.{Status}
use Rattle.cnb_lifecycle.specs.declared.status.Status.TheVariants.{Done, Output, Refused, Launched}
use Rattle.cnb_lifecycle.specs.Report.{error_line}

-- all of a text was taken
abbrev pub Adds : Option (List ℕ) → Option (List ℕ) → List ℕ → Type 0
Adds old new text = new ≡ option_map (λ taken. taken ++ text) old

-- a beginning of a text was taken
abbrev pub AddsPart : Option (List ℕ) → Option (List ℕ) → List ℕ → Type 0
AddsPart old new text = (n : ℕ) × (n ≤ length text) × Adds old new (take n text)

-- a refusal that has a line: memory that ran out has none
abbrev pub IsTold : Refusal → Type 0
IsTold Memory = ⊥
IsTold refusal = Unit {0}

-- The status of a command that did its work, by what the sink took: all of the text, or a part of it. A child that was
-- launched is no text: its end is told by the status alone.
abbrev pub FinishesWork : Answer → Status → Option (List ℕ) → Option (List ℕ) → Type 0
FinishesWork (answer.Printed text) Done old new = Adds old new text
FinishesWork (answer.Printed text) Output old new = AddsPart old new text
FinishesWork (answer.Printed text) (Refused refusal) old new = ⊥
FinishesWork (answer.Printed text) (Launched code) old new = ⊥
FinishesWork (answer.Launched code) Done old new = ⊥
FinishesWork (answer.Launched code) Output old new = ⊥
FinishesWork (answer.Launched code) (Refused refusal) old new = ⊥
FinishesWork (answer.Launched code) (Launched told) old new = (told ≡ code) × (new ≡ old)

-- The status of a command that came to this end, its answer or a refusal, by what the sink took. Where memory runs out,
-- it takes nothing.
abbrev pub Finishes : Result Answer Refusal → Status → Option (List ℕ) → Option (List ℕ) → Type 0
Finishes (Ok done) status old new = FinishesWork done status old new
Finishes (Err refusal) Done old new = ⊥
Finishes (Err Memory) Output old new = ⊥
Finishes (Err refusal) Output old new = AddsPart old new (error_line refusal)
Finishes (Err refusal) (Refused Memory) old new = new ≡ old
Finishes (Err refusal) (Refused told) old new = (told ≡ refusal) × Adds old new (error_line refusal)
Finishes (Err refusal) (Launched code) old new = ⊥

-- the sink's faults: `Output` comes where the count rose
abbrev pub CountsOutput : Status → ℕ → ℕ → Type 0
CountsOutput Output before now = Rose before now
CountsOutput Done before now = now ≡ before
CountsOutput (Refused refusal) before now = now ≡ before
CountsOutput (Launched code) before now = now ≡ before
