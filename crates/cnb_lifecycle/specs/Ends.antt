-- How a command ends: its status, its text, and the causes of both.
use Rattle.std.specs.Prelude.{ℕ, ℤ, pos, negsuc, ◌≡◌, ◌≤◌, List, if◌then◌else◌, nat_lt, Option, Some, None, Result}
use Rattle.steps.specs.Asking.{NoneFell}
use Rattle.steps.specs.Causes.{CountsFiles, FilesBy}
use Rattle.steps.specs.Outside.{Outside, faults_of}
use Rattle.steps.specs.EitherCounts.{CountsEither, EitherBy}
use Rattle.cnb_lifecycle.specs.declared.answer.Answer.{Answer}
use Rattle.cnb_lifecycle.specs.declared.refusal.Refusal.{Refusal}
use Rattle.cnb_lifecycle.specs.declared.status.Status.{Status}
use Rattle.cnb_lifecycle.specs.declared.status.Status.TheVariants.{Done, Output, Refused, Launched}
use Rattle.cnb_lifecycle.specs.Faults.{cause_of}
use Rattle.cnb_lifecycle.specs.Printing.{Finishes}
use Rattle.cnb_lifecycle.specs.Refusal.{code_of}
use Rattle.cnb_create.specs.Surroundings.{Surroundings, surroundings}
use Rattle.shelf_set.specs.Caches.{caches_of}
use Rattle.shelf_set.specs.ShelfState.{ShelfState}

-- the exit status of a child, which is 84 where it has no code, or one outside 0 to 255
abbrev pub launched_code : Option ℤ → ℕ
launched_code None = 84
launched_code (Some (pos code)) = if nat_lt code 256 then code else 84
launched_code (Some (negsuc code)) = 84

-- the exit status of the program
abbrev pub status_code : Status → ℕ
status_code Done = 0
status_code Output = 7
status_code (Refused refusal) = code_of refusal
status_code (Launched code) = launched_code code

-- the counts of children that gave no end, in the world and by the spawners
abbrev pub CountsChild : {A : Type 0} → Result A Refusal → ℕ → ℕ → List ℕ → List ℕ → Type 0
CountsChild result before now befores nows = CountsEither cause_of result before now befores nows

-- A command did these steps and came to an end, its answer or a refusal, and these shelves stand then. Each failure of
-- the outside is counted, and told by the end; the status and what the sink took are those of the end.
pub record Ends (steps : Surroundings → Result Answer Refusal → Surroundings → Type 0) (old : Surroundings)
    (outside : Outside) (shelves : List ShelfState)
    (status : Status) (taken_old taken_new : Option (List ℕ)) : Type 0 where
  pub end : Result Answer Refusal
  pub standing : List ℕ
  pub did : steps old end (surroundings outside (caches_of shelves standing))
  pub files : CountsFiles cause_of end old.world.file_faults outside.world.file_faults
  pub children : CountsChild end old.world.child_faults outside.world.child_faults (faults_of old.spawners)
      (faults_of outside.spawners)
  pub finishes : Finishes end status taken_old taken_new

-- `File` comes only where the count of file faults rose; where it grew, the status is `File`, or memory ran out, or the
-- text was cut
abbrev pub CauseOfFile : Status → ℕ → ℕ → Type 0
CauseOfFile Done before now = now ≡ before
CauseOfFile Output before now = before ≤ now
CauseOfFile (Refused refusal) before now = FilesBy (cause_of refusal) before now
CauseOfFile (Launched code) before now = now ≡ before

-- the same of `Child`, the world's count of children that gave no end and the counts of the spawners
abbrev pub CauseOfChild : Status → ℕ → ℕ → List ℕ → List ℕ → Type 0
CauseOfChild Done before now befores nows = (now ≡ before) × (nows ≡ befores)
CauseOfChild Output before now befores nows = (before ≤ now) × NoneFell befores nows
CauseOfChild (Refused refusal) before now befores nows = EitherBy (cause_of refusal) before now befores nows
CauseOfChild (Launched code) before now befores nows = (now ≡ before) × (nows ≡ befores)
