-- Calls on a path that failed, as their refusals count.
use Rattle.std.proofs.Common.{◌≡◌, ◌≤◌, arith, ℕ, List, Some, Err}
use Rattle.cnb_world.specs.Calls.{CountsFailed}
use Rattle.cnb_world.specs.declared.world.FileFault.{FileFault}
use Rattle.cnb_world.specs.declared.world.FileFault.TheVariants as file_fault
use Rattle.steps.specs.Counts.{FileCounts}
use Rattle.steps.specs.Outside.{Seen}
use Rattle.store_prune.specs.Faults.{Blames, cause_of}
use Rattle.store_prune.specs.declared.fault.PruneFault.{PruneFault}
use Rattle.store_prune.specs.declared.fault.PruneFault.TheVariants.{Document, Limit, File, Memory}

-- a call is counted or not
grew : (T : Type 0) (fault : FileFault) (before now : ℕ) → CountsFailed {T = T} (Err fault) before now → before ≤ now
grew T file_fault.Failed before now h = h.later
grew T file_fault.Memory before now h = omega (arith, h)

pub blamed_counts : (T : Type 0) (path : List ℕ) (fault : FileFault) (refusal : PruneFault) (old new : Seen)
    → Blames path fault refusal → CountsFailed {T = T} (Err fault) old.file_faults new.file_faults
    → new.child_faults ≡ old.child_faults → FileCounts (Some (cause_of refusal)) old new
blamed_counts T path fault Memory old new h counts e = record
    { ends = tt; files = grew T fault old.file_faults new.file_faults counts; children = e }
blamed_counts T path file_fault.Failed (File blamed) old new h counts e = record
    { ends = tt; files = counts; children = e }
blamed_counts T path file_fault.Memory (File blamed) old new h counts e = absurd h
blamed_counts T path file_fault.Failed (Document blamed fault) old new h counts e = absurd h
blamed_counts T path file_fault.Memory (Document blamed fault) old new h counts e = absurd h
blamed_counts T path file_fault.Failed (Limit kind) old new h counts e = absurd h
blamed_counts T path file_fault.Memory (Limit kind) old new h counts e = absurd h
