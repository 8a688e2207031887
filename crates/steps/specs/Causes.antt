-- Why a call is refused, whatever its type of refusals is: each has a function that gives the cause.
use Rattle.std.specs.Prelude.{ℕ, ◌≡◌, ◌≤◌, List, Option, Some, None, Result, Ok, Err}
use Rattle.cnb_world.specs.Calls.{Rose}

-- A call on the file at a path failed, a child gave no end, memory ran out, or what was read or answered decides.
pub data Cause : Type 0 where
  FileFailed : List ℕ → Cause
  ChildFailed : Cause
  OutOfMemory : Cause
  Decided : Cause

-- the fact, unless the outside failed or memory ran out
abbrev pub WhereDecided : Cause → Type 0 → Type 0
WhereDecided (FileFailed path) P = Unit {0}
WhereDecided ChildFailed P = Unit {0}
WhereDecided OutOfMemory P = Unit {0}
WhereDecided Decided P = P

abbrev pub OnAnswer : {A E : Type 0} → (E → Cause) → Result A E → Type 0 → Type 0
OnAnswer cause_of (Ok value) P = P
OnAnswer cause_of (Err fault) P = WhereDecided (cause_of fault) P

-- the answer is this one, unless a counted failure came or memory ran out
abbrev pub IsAnswer : {A E : Type 0} → (E → Cause) → Result A E → Result A E → Type 0
IsAnswer cause_of (Ok value) want = want ≡ Ok value
IsAnswer cause_of (Err fault) want = WhereDecided (cause_of fault) (want ≡ Err fault)

-- what ended it, if anything did
abbrev pub ended_by : {A E : Type 0} → (E → Cause) → Result A E → Option Cause
ended_by cause_of (Ok value) = None
ended_by cause_of (Err fault) = Some (cause_of fault)

abbrev pub FilesBy : Cause → ℕ → ℕ → Type 0
FilesBy (FileFailed path) before now = Rose before now
FilesBy OutOfMemory before now = before ≤ now
FilesBy ChildFailed before now = now ≡ before
FilesBy Decided before now = now ≡ before

abbrev pub FilesEnd : Option Cause → ℕ → ℕ → Type 0
FilesEnd None before now = now ≡ before
FilesEnd (Some cause) before now = FilesBy cause before now

-- the count of failed calls on files: a refusal for one comes where the count rose, and the count stays at any other
-- answer but want of memory
abbrev pub CountsFiles : {A E : Type 0} → (E → Cause) → Result A E → ℕ → ℕ → Type 0
CountsFiles cause_of result before now = FilesEnd (ended_by cause_of result) before now

abbrev pub ChildrenBy : Cause → ℕ → ℕ → Type 0
ChildrenBy ChildFailed before now = Rose before now
ChildrenBy OutOfMemory before now = before ≤ now
ChildrenBy (FileFailed path) before now = now ≡ before
ChildrenBy Decided before now = now ≡ before

abbrev pub ChildrenEnd : Option Cause → ℕ → ℕ → Type 0
ChildrenEnd None before now = now ≡ before
ChildrenEnd (Some cause) before now = ChildrenBy cause before now

-- the same of the children that gave no end
abbrev pub CountsChildren : {A E : Type 0} → (E → Cause) → Result A E → ℕ → ℕ → Type 0
CountsChildren cause_of result before now = ChildrenEnd (ended_by cause_of result) before now

-- What each kind of step may be refused for: reading for a failed call, which is told with the path whose call failed
-- last, want of memory or what was read;
abbrev pub IsReadCause : Option (List ℕ) → Cause → Type 0
IsReadCause last (FileFailed path) = last ≡ Some path
IsReadCause last ChildFailed = ⊥
IsReadCause last OutOfMemory = Unit {0}
IsReadCause last Decided = Unit {0}

-- a path that a failed call is told with is one of these
abbrev pub NamesOne : (List ℕ → Type 0) → Cause → Type 0
NamesOne Among (FileFailed path) = Among path
NamesOne Among ChildFailed = Unit {0}
NamesOne Among OutOfMemory = Unit {0}
NamesOne Among Decided = Unit {0}

-- it is this one
abbrev pub Only : List ℕ → List ℕ → Type 0
Only path named = named ≡ path

-- a value that is known for want of memory, or because it is a refusal;
abbrev pub IsGivenCause : Cause → Type 0
IsGivenCause (FileFailed path) = ⊥
IsGivenCause ChildFailed = ⊥
IsGivenCause OutOfMemory = Unit {0}
IsGivenCause Decided = Unit {0}

-- a write at a path for a failed call, which is told with that path, or want of memory;
abbrev pub IsWriteCause : List ℕ → Cause → Type 0
IsWriteCause path (FileFailed failed) = failed ≡ path
IsWriteCause path ChildFailed = ⊥
IsWriteCause path OutOfMemory = Unit {0}
IsWriteCause path Decided = ⊥

-- a child that runs for one that gave no end, or want of memory.
abbrev pub IsRunCause : Cause → Type 0
IsRunCause (FileFailed path) = ⊥
IsRunCause ChildFailed = Unit {0}
IsRunCause OutOfMemory = Unit {0}
IsRunCause Decided = ⊥
