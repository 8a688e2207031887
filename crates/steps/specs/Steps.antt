-- Steps, one after another: each from what is seen before, by an answer, to what is seen after.
use Rattle.std.specs.Prelude.{ℕ, Bool, not, ◌≡◌, ◌⊎◌, ◌++◌, List, [], ◌∷◌, Option, Some, None, Result, Ok, Err, IfErr}
use Rattle.std.specs.Prelude.{IfSome, IsTrue}
use Rattle.std.specs.Option.{option_map}
use Rattle.cnb_world.specs.Calls.{MayMisuse, RemovesSome}
use Rattle.cnb_world.specs.Tree.{Tree, folder_made, can_make_folder, is_root, without}
use Rattle.cnb_world.specs.Whole.{written, can_write, LeavesPart}
use Rattle.cnb_world.specs.declared.child.ChildJob.{ChildJob}
use Rattle.cnb_world.specs.declared.child.End.{End}
use Rattle.steps.specs.Causes.{Cause, IsAnswer, IsReadCause, IsGivenCause, IsWriteCause, IsRunCause, NamesOne, ended_by}
use Rattle.steps.specs.Counts.{AllCounts, FileCounts}
use Rattle.steps.specs.Outside.{Outside, Seen, SpawnerSeen}

-- one step after another: the first refusal ends them
infixl 10 ◌>>=◌
unfoldable pub ◌>>=◌ : {S E A B : Type 0} → (S → Result A E → S → Type 0) → (A → S → Result B E → S → Type 0) → S
    → Result B E → S → Type 0
◌>>=◌ {S} {E} {A} first next old (Ok value) new = (a : A) × (mid : S) × first old (Ok a) mid × next a mid (Ok value) new
◌>>=◌ {S} {E} {A} first next old (Err fault) new = first old (Err fault) new
    ⊎ ((a : A) × (mid : S) × first old (Ok a) mid × next a mid (Err fault) new)

-- steps whose fault is told as another
unfoldable pub map_err : {S E F A : Type 0} → (E → F) → (S → Result A E → S → Type 0) → S → Result A F → S → Type 0
map_err of step old (Ok value) new = step old (Ok value) new
map_err {S} {E} of step old (Err refusal) new = (fault : E) × (refusal ≡ of fault) × step old (Err fault) new

-- steps over the world alone
unfoldable pub in_world : {E A : Type 0} → (Seen → Result A E → Seen → Type 0) → Outside → Result A E → Outside → Type 0
in_world step old result new = step old.world result new.world × (new.spawners ≡ old.spawners)

-- steps over the spawners alone
unfoldable pub in_spawners : {E A : Type 0} → (List SpawnerSeen → Result A E → List SpawnerSeen → Type 0)
    → Outside → Result A E → Outside → Type 0
in_spawners step old result new = step old.spawners result new.spawners × (new.world ≡ old.world)

-- this value, which costs nothing
unfoldable pub yields : {S E A : Type 0} → A → S → Result A E → S → Type 0
yields want old (Ok value) new = (value ≡ want) × (new ≡ old)
yields want old (Err fault) new = ⊥

-- an answer that is known, at the cost of memory
unfoldable pub gives : {S E A : Type 0} → (E → Cause) → Result A E → S → Result A E → S → Type 0
gives cause_of want old result new = (new ≡ old) × IsAnswer cause_of result want
    × IfErr result (λ fault. IsGivenCause (cause_of fault))

-- files and children are as before
pub record Same (old new : Seen) : Type 0 where
  pub files : new.files ≡ old.files
  pub runs : new.runs ≡ old.runs

-- a call on a path of the wrong kind is made only where the files don't fit the step
abbrev pub Allows : (Tree → Bool) → Seen → Seen → Type 0
Allows fits old new = MayMisuse (option_map fits old.files) old.misused new.misused

-- Files are read: the answer is what they say, as they then are, and a failed call is told with one of the paths that
-- are read. It reads paths of the right kind where they fit.
pub record Reads {E A : Type 0} (cause_of : E → Cause) (Among : List ℕ → Type 0) (fits : Tree → Bool)
    (want : Tree → Result A E) (old : Seen) (result : Result A E) (new : Seen) : Type 0 where
  pub same : Same old new
  pub answer : IfSome old.files (λ files. IsAnswer cause_of result (want files))
  pub cause : IfErr result (λ fault. IsReadCause new.failed_at (cause_of fault))
  pub named : IfErr result (λ fault. NamesOne Among (cause_of fault))
  pub allows : Allows fits old new
  pub counts : FileCounts (ended_by cause_of result) old new

unfoldable pub reads : {E A : Type 0} → (E → Cause) → (List ℕ → Type 0) → (Tree → Bool) → (Tree → Result A E)
    → Seen → Result A E → Seen → Type 0
reads cause_of Among fits want old result new = Reads cause_of Among fits want old result new

pub record Writes (path : List ℕ) (Says : List ℕ → Type 0) (old new : Seen) : Type 0 where
  pub bytes : List ℕ
  pub says : Says bytes
  pub files : new.files ≡ option_map (written path bytes) old.files
  pub fits : IfSome old.files (λ files. IsTrue (can_write path files))
  pub runs : new.runs ≡ old.runs
  pub allows : Allows (can_write path) old new
  pub counts : FileCounts None old new

-- all is as it was, or a part of bytes of which this holds stands beside the path
abbrev pub LeavesSome : List ℕ → (List ℕ → Type 0) → Option Tree → Option Tree → Type 0
LeavesSome path Says old new = (new ≡ old) ⊎ ((bytes : List ℕ) × Says bytes × LeavesPart old new path bytes)

pub record LeavesUnwritten (path : List ℕ) (Says : List ℕ → Type 0) (old new : Seen) : Type 0 where
  pub files : LeavesSome path Says old.files new.files
  pub runs : new.runs ≡ old.runs
  pub allows : Allows (can_write path) old new

-- a document is written whole, with bytes of which this holds
unfoldable pub writes : {E : Type 0} → (E → Cause) → List ℕ → (List ℕ → Type 0) → Seen → Result (Unit {0}) E
    → Seen → Type 0
writes cause_of path Says old (Ok done) new = Writes path Says old new
writes cause_of path Says old (Err fault) new = IsWriteCause path (cause_of fault)
    × LeavesUnwritten path Says old new × FileCounts (Some (cause_of fault)) old new

pub record MakesFolder (path : List ℕ) (old new : Seen) : Type 0 where
  pub files : new.files ≡ option_map (folder_made path) old.files
  pub runs : new.runs ≡ old.runs

-- a folder is made
unfoldable pub makes_folder : {E : Type 0} → (E → Cause) → List ℕ → Seen → Result (Unit {0}) E → Seen → Type 0
makes_folder cause_of path old (Ok done) new = MakesFolder path old new
    × Allows (λ files. can_make_folder files path) old new × FileCounts None old new
makes_folder cause_of path old (Err fault) new = IsWriteCause path (cause_of fault) × Same old new
    × Allows (λ files. can_make_folder files path) old new × FileCounts (Some (cause_of fault)) old new

pub record Removes (path : List ℕ) (old new : Seen) : Type 0 where
  pub files : new.files ≡ option_map (without path) old.files
  pub runs : new.runs ≡ old.runs

pub record RemovesPart (path : List ℕ) (old new : Seen) : Type 0 where
  pub files : RemovesSome old.files new.files path
  pub runs : new.runs ≡ old.runs

-- what stands at a path, and below it, is removed
unfoldable pub removes : {E : Type 0} → (E → Cause) → List ℕ → Seen → Result (Unit {0}) E → Seen → Type 0
removes cause_of path old (Ok done) new = Removes path old new × Allows (λ files. not (is_root path)) old new
    × FileCounts None old new
removes cause_of path old (Err fault) new =
    IsWriteCause path (cause_of fault) × RemovesPart path old new × Allows (λ files. not (is_root path)) old new
    × FileCounts (Some (cause_of fault)) old new

-- a child runs: it finds the files as they then are, and what it leaves stands
unfoldable pub runs_child : {E : Type 0} → (E → Cause) → ChildJob → Seen → Result End E → Seen → Type 0
runs_child cause_of job old (Ok end) new = (new.misused ≡ old.misused)
    × (new.runs ≡ old.runs ++ record { job = job; end = end; found = old.files; left = new.files } ∷ [])
    × AllCounts None old new
runs_child cause_of job old (Err fault) new = IsRunCause (cause_of fault) × Same old new
    × (new.misused ≡ old.misused) × AllCounts (Some (cause_of fault)) old new
