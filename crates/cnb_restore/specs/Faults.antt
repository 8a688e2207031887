-- Why the steps of `analyze` and `restore` are refused.
use Rattle.std.specs.Prelude.{ℕ, ◌≡◌, List}
use Rattle.cnb_world.specs.declared.world.FileFault.{FileFault}
use Rattle.cnb_world.specs.declared.world.FileFault.TheVariants as file_fault
use Rattle.doc_files.specs.declared.fault.ReadFault.{ReadFault}
use Rattle.doc_files.specs.declared.fault.ReadFault.TheVariants as read
use Rattle.tree_store.specs.declared.fault.StoreFault.{StoreFault}
use Rattle.tree_store.specs.declared.fault.StoreFault.TheVariants as store
use Rattle.steps.specs.Causes.{Cause, FileFailed, OutOfMemory, Decided}
use Rattle.cnb_restore.specs.declared.fault.RestoreFault.{RestoreFault}
use Rattle.cnb_restore.specs.declared.fault.RestoreFault.TheVariants.{NoImage, Document, Damaged, Limit, File, Memory}

abbrev pub cause_of : RestoreFault → Cause
cause_of (File path) = FileFailed path
cause_of Memory = OutOfMemory
cause_of (NoImage name) = Decided
cause_of (Document path fault) = Decided
cause_of (Damaged asked found bad) = Decided
cause_of (Limit kind) = Decided

abbrev pub of_read_fault : ReadFault → RestoreFault
of_read_fault (read.File path) = File path
of_read_fault (read.Document path fault) = Document path fault
of_read_fault (read.Limit kind) = Limit kind
of_read_fault read.Memory = Memory

-- where a tree is laid, no fault but these two comes
abbrev pub of_laying_fault : StoreFault → RestoreFault
of_laying_fault (store.File path) = File path
of_laying_fault fault = Memory

-- a call on a path that failed is a refusal of that path, or memory ran out
abbrev pub Blames : List ℕ → FileFault → RestoreFault → Type 0
Blames path fault Memory = Unit {0}
Blames path file_fault.Failed (File blamed) = blamed ≡ path
Blames path fault refusal = ⊥
