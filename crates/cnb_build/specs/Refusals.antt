-- Why builds are refused.
use Rattle.cnb_world.specs.declared.child.ChildFault.{ChildFault}
use Rattle.cnb_world.specs.declared.child.ChildFault.TheVariants as child
use Rattle.doc_files.specs.declared.fault.ReadFault.{ReadFault}
use Rattle.doc_files.specs.declared.fault.ReadFault.TheVariants as read
use Rattle.steps.specs.Causes.{Cause, FileFailed, ChildFailed, OutOfMemory, Decided}
use Rattle.cnb_build.specs.declared.fault.BuildFault.{BuildFault}
use Rattle.cnb_build.specs.declared.fault.BuildFault.TheVariants.{BuildFailed, UnknownUnmet, Api, Document, Limit}
use Rattle.cnb_build.specs.declared.fault.BuildFault.TheVariants.{Child, File, Memory}

abbrev pub cause_of : BuildFault → Cause
cause_of (BuildFailed id code) = Decided
cause_of (UnknownUnmet id name) = Decided
cause_of (Api text) = Decided
cause_of (Document path fault) = Decided
cause_of (Limit kind) = Decided
cause_of Child = ChildFailed
cause_of (File path) = FileFailed path
cause_of Memory = OutOfMemory

abbrev pub of_read_fault : ReadFault → BuildFault
of_read_fault (read.File path) = File path
of_read_fault (read.Document path fault) = Document path fault
of_read_fault (read.Limit kind) = Limit kind
of_read_fault read.Memory = Memory

abbrev pub of_child_fault : ChildFault → BuildFault
of_child_fault child.Failed = Child
of_child_fault child.Memory = Memory
