-- What a step says of the counts of the world, by what ended it.
use Rattle.std.specs.Prelude.{◌≡◌, Option, Some, None}
use Rattle.steps.specs.Causes.{Cause, FileFailed, ChildFailed, OutOfMemory, Decided, ChildrenEnd, FilesEnd}
use Rattle.steps.specs.Outside.{Seen}

-- no child is what ended it
abbrev pub IsFileEnd : Option Cause → Type 0
IsFileEnd None = Unit {0}
IsFileEnd (Some (FileFailed path)) = Unit {0}
IsFileEnd (Some ChildFailed) = ⊥
IsFileEnd (Some OutOfMemory) = Unit {0}
IsFileEnd (Some Decided) = Unit {0}

-- where no child ran
pub record FileCounts (last : Option Cause) (old new : Seen) : Type 0 where
  pub ends : IsFileEnd last
  pub files : FilesEnd last old.file_faults new.file_faults
  pub children : new.child_faults ≡ old.child_faults

-- where children may have run
pub record AllCounts (last : Option Cause) (old new : Seen) : Type 0 where
  pub files : FilesEnd last old.file_faults new.file_faults
  pub children : ChildrenEnd last old.child_faults new.child_faults
