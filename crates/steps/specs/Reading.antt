-- What a call leaves as it was that only reads.
use Rattle.std.specs.Prelude.{◌≡◌, Result, IfErr}
use Rattle.steps.specs.Causes.{Cause, CountsFiles, IsReadCause}
use Rattle.steps.specs.Outside.{Seen}

-- Files and children are as before. A refusal for a failed call comes where the count rose, with the path whose call
-- failed last.
pub record LeavesUnchanged {E A : Type 0} (cause_of : E → Cause) (result : Result A E) (old new : Seen) : Type 0 where
  pub files : new.files ≡ old.files
  pub runs : new.runs ≡ old.runs
  pub children : new.child_faults ≡ old.child_faults
  pub counts : CountsFiles cause_of result old.file_faults new.file_faults
  pub cause : IfErr result (λ fault. IsReadCause new.failed_at (cause_of fault))
