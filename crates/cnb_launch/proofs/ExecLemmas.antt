-- Children that ran.
use Rattle.std.proofs.Common.{◌≡◌, arith, refl, subst, sym, Some, Result, Err}
use Rattle.cnb_world.specs.Calls.{CountsChild}
use Rattle.cnb_world.specs.declared.child.ChildFault.{ChildFault}
use Rattle.cnb_world.specs.declared.child.ChildFault.TheVariants as child_fault
use Rattle.cnb_world.specs.declared.child.ChildJob.{ChildJob}
use Rattle.cnb_world.specs.declared.child.End.{End}
use Rattle.steps.specs.Counts.{AllCounts}
use Rattle.steps.specs.Outside.{Seen}
use Rattle.steps.specs.Steps.{runs_child}
use Rattle.steps.proofs.EndLaws.{all_rest}
use Rattle.cnb_launch.specs.Faults.{cause_of, of_child_fault}
use Rattle.cnb_launch.specs.declared.fault.LaunchFault.{LaunchFault}
use Rattle.cnb_launch.specs.declared.fault.LaunchFault.TheVariants.{Memory}

-- a child that wasn't run, for want of memory
pub not_run : (job : ChildJob) (old : Seen) → runs_child cause_of job old (Err Memory) old
unfolding runs_child
not_run job old = (tt, record { files = refl; runs = refl }, refl, all_rest.memory old)

-- the same job
pub run_as : (job other : ChildJob) (old new : Seen) (result : Result End LaunchFault) → job ≡ other
    → runs_child cause_of job old result new → runs_child cause_of other old result new
run_as job other old new result same h = let P : ChildJob → Type 0 = λ j. runs_child cause_of j old result new
    in subst P same h

pub run_as_refused : (job other : ChildJob) (old new : Seen) (fault : LaunchFault) → job ≡ other
    → runs_child cause_of job old (Err fault) new → runs_child cause_of other old (Err fault) new
run_as_refused job other old new fault same h = run_as job other old new (Err fault) same h

-- a child that gave no end, and is counted where it failed
pub child_counted : (T : Type 0) (fault : ChildFault) (given : LaunchFault) (old new : Seen)
    → new.file_faults ≡ old.file_faults → CountsChild {T = T} (Err fault) old.child_faults new.child_faults
    → given ≡ of_child_fault fault
    → AllCounts (Some (cause_of given)) old new
child_counted T fault given old new files children is = subst (λ f. AllCounts (Some (cause_of f)) old new)
    (sym is) (by fault children)
  where
    by : (f : ChildFault) → CountsChild {T = T} (Err f) old.child_faults new.child_faults
        → AllCounts (Some (cause_of (of_child_fault f))) old new
    by child_fault.Failed k = record { files = files; children = k }
    by child_fault.Memory k = record { files = omega (arith, files); children = omega (arith, k) }
