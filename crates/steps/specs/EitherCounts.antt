-- The counts of children that gave no end or no answer, in the world and by the spawners.
use Rattle.std.specs.Prelude.{ℕ, ◌≡◌, ◌≤◌, ◌⊎◌, List, Option, Some, None, Result}
use Rattle.cnb_world.specs.Calls.{Rose}
use Rattle.steps.specs.Asking.{NoneFell, OneRose}
use Rattle.steps.specs.Causes.{Cause, FileFailed, ChildFailed, OutOfMemory, Decided, FilesEnd, ended_by}
use Rattle.steps.specs.Outside.{Outside, faults_of}

-- a child could not be run: the world's count of such rose, or a spawner's did
abbrev pub EitherRose : ℕ → ℕ → List ℕ → List ℕ → Type 0
EitherRose before now befores nows = (Rose before now × NoneFell befores nows) ⊎ ((before ≤ now) × OneRose befores nows)

abbrev pub EitherBy : Cause → ℕ → ℕ → List ℕ → List ℕ → Type 0
EitherBy ChildFailed before now befores nows = EitherRose before now befores nows
EitherBy OutOfMemory before now befores nows = (before ≤ now) × NoneFell befores nows
EitherBy (FileFailed path) before now befores nows = (now ≡ before) × (nows ≡ befores)
EitherBy Decided before now befores nows = (now ≡ before) × (nows ≡ befores)

abbrev pub EitherEnd : Option Cause → ℕ → ℕ → List ℕ → List ℕ → Type 0
EitherEnd None before now befores nows = (now ≡ before) × (nows ≡ befores)
EitherEnd (Some cause) before now befores nows = EitherBy cause before now befores nows

-- a refusal for a child comes where one of the counts rose, and they stay at any other answer but want of memory
abbrev pub CountsEither : {A E : Type 0} → (E → Cause) → Result A E → ℕ → ℕ → List ℕ → List ℕ → Type 0
CountsEither cause_of result before now befores nows = EitherEnd (ended_by cause_of result) before now befores nows

-- what a step says of all counts, by what ended it
pub record OutsideCounts (last : Option Cause) (old new : Outside) : Type 0 where
  pub files : FilesEnd last old.world.file_faults new.world.file_faults
  pub children : EitherEnd last old.world.child_faults new.world.child_faults (faults_of old.spawners)
      (faults_of new.spawners)
