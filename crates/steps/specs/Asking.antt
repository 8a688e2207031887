-- Detect children are asked, by spawners that may take turns.
use Rattle.std.specs.Prelude.{ℕ, ◌≡◌, ◌≤◌, ◌⊎◌, ◌++◌, List, [], ◌∷◌, map, Option, Some, None, Result, Ok, Err}
use Rattle.std.specs.List.{AllByRecursion}
use Rattle.cnb_world.specs.Calls.{Rose}
use Rattle.cnb_world.specs.Runs.{Ran, IsSaid}
use Rattle.cnb_world.specs.declared.child.DetectJob.{DetectJob}
use Rattle.cnb_world.specs.declared.child.Reply.{Reply}
use Rattle.steps.specs.Causes.{Cause, FileFailed, ChildFailed, OutOfMemory, Decided, ended_by}
use Rattle.steps.specs.Outside.{SpawnerSeen, faults_of}

-- A list is made of shares, each in its own order: its first is the first of some share, and so on.
abbrev pub IsMadeOf : List Ran → List (List Ran) → Type 0
IsMadeOf [] shares = AllByRecursion (λ share. share ≡ []) shares
IsMadeOf (ran ∷ rans) shares =
    (front : List (List Ran)) × (rest : List Ran) × (back : List (List Ran))
    × (shares ≡ front ++ (ran ∷ rest) ∷ back) × IsMadeOf rans (front ++ rest ∷ back)

-- each child answers as its spawner says, where that is fixed
abbrev pub AreSaid : Option (List Reply) → List Ran → Type 0
AreSaid says rans = AllByRecursion (λ ran. IsSaid says ran.job ran.probed) rans

-- a spawner ran these children besides, and says what it said
pub record RunsMore (rans : List Ran) (old new : SpawnerSeen) : Type 0 where
  pub runs : new.runs ≡ old.runs ++ rans
  pub says : new.says ≡ old.says
  pub said : AreSaid old.says rans

-- a spawner ran some children besides
pub record Grows (old new : SpawnerSeen) : Type 0 where
  pub rans : List Ran
  pub more : RunsMore rans old new

-- each spawner ran its share
abbrev pub RunShares : List (List Ran) → List SpawnerSeen → List SpawnerSeen → Type 0
RunShares [] [] [] = Unit {0}
RunShares (share ∷ shares) (old ∷ olds) (new ∷ news) = RunsMore share old new × RunShares shares olds news
RunShares _ _ _ = ⊥

-- The spawners ran these children, each its share in this order.
pub record AskedBy (answers : List Ran) (old new : List SpawnerSeen) : Type 0 where
  pub shares : List (List Ran)
  pub made : IsMadeOf answers shares
  pub ran : RunShares shares old new

-- some of these jobs, each at most once, in their order
abbrev pub AreSome : List DetectJob → List DetectJob → Type 0
AreSome [] jobs = Unit {0}
AreSome (job ∷ some) [] = ⊥
AreSome (job ∷ some) (first ∷ jobs) = ((job ≡ first) × AreSome some jobs) ⊎ AreSome (job ∷ some) jobs

-- refused by what the children answered, or, with some of the children asked, for one that gave no answer or for want
-- of memory
abbrev pub AsksBy : Cause → Type 0 → Type 0 → Type 0
AsksBy (FileFailed path) Part All = ⊥
AsksBy ChildFailed Part All = Part
AsksBy OutOfMemory Part All = Part
AsksBy Decided Part All = All

abbrev pub MeetsAnswers : {E A : Type 0} → (E → Cause) → Result A E → Result A E → Type 0 → Type 0 → Type 0
MeetsAnswers cause_of (Ok value) want Part All = All × (want ≡ Ok value)
MeetsAnswers cause_of (Err fault) want Part All = AsksBy (cause_of fault) Part (All × (want ≡ Err fault))

-- no count of some spawners fell
abbrev pub NoneFell : List ℕ → List ℕ → Type 0
NoneFell [] [] = Unit {0}
NoneFell (before ∷ befores) (now ∷ nows) = (before ≤ now) × NoneFell befores nows
NoneFell _ _ = ⊥

-- one of them rose, and none fell
abbrev pub OneRose : List ℕ → List ℕ → Type 0
OneRose [] nows = ⊥
OneRose (before ∷ befores) [] = ⊥
OneRose (before ∷ befores) (now ∷ nows) = (Rose before now × NoneFell befores nows)
    ⊎ ((before ≤ now) × OneRose befores nows)

abbrev pub SpawnersBy : Cause → List ℕ → List ℕ → Type 0
SpawnersBy ChildFailed before now = OneRose before now
SpawnersBy OutOfMemory before now = NoneFell before now
SpawnersBy (FileFailed path) before now = now ≡ before
SpawnersBy Decided before now = now ≡ before

abbrev pub SpawnersEnd : Option Cause → List ℕ → List ℕ → Type 0
SpawnersEnd None before now = now ≡ before
SpawnersEnd (Some cause) before now = SpawnersBy cause before now

-- the counts of spawners' faults: a refusal for a child comes where one rose, and they stay at any other answer but
-- want of memory
abbrev pub CountsSpawners : {A E : Type 0} → (E → Cause) → Result A E → List ℕ → List ℕ → Type 0
CountsSpawners cause_of result before now = SpawnersEnd (ended_by cause_of result) before now

-- Children were asked: what they answered, in the order of asking, and the spawners that ran them.
pub record Asks {E A : Type 0} (cause_of : E → Cause) (listed : List DetectJob) (jobs : List Ran → List DetectJob)
    (want : List Ran → Result A E)
    (old : List SpawnerSeen) (result : Result A E) (new : List SpawnerSeen) : Type 0 where
  pub answers : List Ran
  pub asked : AskedBy answers old new
  pub meets : MeetsAnswers cause_of result (want answers) (AreSome (map (λ ran. ran.job) answers) listed)
      (map (λ ran. ran.job) answers ≡ jobs answers)
  pub counts : CountsSpawners cause_of result (faults_of old) (faults_of new)

-- Exactly those of the listed children are asked that have to be, by what they answer, and the answers decide.
unfoldable pub asks : {E A : Type 0} → (E → Cause) → List DetectJob → (List Ran → List DetectJob)
    → (List Ran → Result A E) → List SpawnerSeen → Result A E → List SpawnerSeen → Type 0
asks cause_of listed jobs want old result new = Asks cause_of listed jobs want old result new
