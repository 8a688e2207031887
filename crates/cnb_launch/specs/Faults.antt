-- Why unpacking and launching are refused.
use Rattle.cnb_world.specs.declared.child.ChildFault.{ChildFault}
use Rattle.cnb_world.specs.declared.child.ChildFault.TheVariants as child
use Rattle.doc_files.specs.declared.fault.ReadFault.{ReadFault}
use Rattle.doc_files.specs.declared.fault.ReadFault.TheVariants as read
use Rattle.image_files.specs.declared.fault.ImageFault.{ImageFault}
use Rattle.image_files.specs.declared.fault.ImageFault.TheVariants as image
use Rattle.tree_store.specs.Answers.{cause_of as store_cause}
use Rattle.tree_store.specs.declared.fault.StoreFault.{StoreFault}
use Rattle.tree_store.specs.declared.fault.StoreFault.TheVariants as store
use Rattle.steps.specs.Causes.{Cause, ChildFailed, OutOfMemory, Decided}
use Rattle.cnb_launch.specs.declared.fault.LaunchFault.{LaunchFault}
use Rattle.cnb_launch.specs.declared.fault.LaunchFault.TheVariants.{NoImage, Exists, ShellProcess, NoProcess}
use Rattle.cnb_launch.specs.declared.fault.LaunchFault.TheVariants.{ExecFailed, BadExecOutput, Child, Document, Store}
use Rattle.cnb_launch.specs.declared.fault.LaunchFault.TheVariants.{Memory}

abbrev pub cause_of : LaunchFault → Cause
cause_of (NoImage name) = Decided
cause_of (Exists path) = Decided
cause_of (ShellProcess word) = Decided
cause_of (NoProcess kind) = Decided
cause_of (ExecFailed path code) = Decided
cause_of (BadExecOutput path) = Decided
cause_of Child = ChildFailed
cause_of (Document path fault) = Decided
cause_of (Store fault) = store_cause fault
cause_of Memory = OutOfMemory

abbrev pub of_read_fault : ReadFault → LaunchFault
of_read_fault (read.File path) = Store (store.File path)
of_read_fault (read.Document path fault) = Document path fault
of_read_fault (read.Limit kind) = Store (store.Limit kind)
of_read_fault read.Memory = Memory

abbrev pub of_store_fault : StoreFault → LaunchFault
of_store_fault store.Memory = Memory
of_store_fault (store.File path) = Store (store.File path)
of_store_fault (store.OddFile path) = Store (store.OddFile path)
of_store_fault (store.Limit kind) = Store (store.Limit kind)
of_store_fault (store.NoTree digest) = Store (store.NoTree digest)
of_store_fault (store.Damaged asked found bad) = Store (store.Damaged asked found bad)
of_store_fault (store.Clash digest) = Store (store.Clash digest)

abbrev pub of_child_fault : ChildFault → LaunchFault
of_child_fault child.Failed = Child
of_child_fault child.Memory = Memory

abbrev pub of_image_fault : ImageFault → LaunchFault
of_image_fault (image.NoImage name) = NoImage name
of_image_fault (image.Document path fault) = Document path fault
of_image_fault (image.Limit kind) = Store (store.Limit kind)
of_image_fault (image.File path) = Store (store.File path)
of_image_fault image.Memory = Memory
