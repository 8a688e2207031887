-- A world over the files and programs of the system.
use Rattle.std.specs.Prelude.{ℕ, List, map, Option, None}
use Rattle.cnb_world.specs.Runs.{Run}
use Rattle.cnb_world.specs.declared.child.ChildJob.{ChildJob}
use Rattle.cnb_world.specs.declared.child.End.{End}

-- a child that ended
pub record Ended : Type 0 where
  pub job : ChildJob
  pub end : End

-- the children that ended, in order, the counts of the calls that failed, and the path of the call on files that failed
-- last
pub record System : Type 0 where
  pub runs : List Ended
  pub file_faults : ℕ
  pub failed_at : Option (List ℕ)
  pub child_faults : ℕ

-- what the child found and left isn't told
abbrev pub run_of : Ended → Run
run_of row = record { job = row.job; end = row.end; found = None; left = None }

abbrev pub runs_of : List Ended → List Run
runs_of rows = map run_of rows
