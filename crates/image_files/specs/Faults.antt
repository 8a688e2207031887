-- Why the documents of images are not read or written.
use Rattle.doc_files.specs.declared.fault.ReadFault.{ReadFault}
use Rattle.doc_files.specs.declared.fault.ReadFault.TheVariants as read
use Rattle.steps.specs.Causes.{Cause, FileFailed, OutOfMemory, Decided}
use Rattle.image_files.specs.declared.fault.ImageFault.{ImageFault}
use Rattle.image_files.specs.declared.fault.ImageFault.TheVariants.{NoImage, Document, Limit, File, Memory}

abbrev pub cause_of : ImageFault → Cause
cause_of (File path) = FileFailed path
cause_of Memory = OutOfMemory
cause_of (NoImage name) = Decided
cause_of (Document path fault) = Decided
cause_of (Limit kind) = Decided

abbrev pub of_read_fault : ReadFault → ImageFault
of_read_fault (read.File path) = File path
of_read_fault (read.Document path fault) = Document path fault
of_read_fault (read.Limit kind) = Limit kind
of_read_fault read.Memory = Memory
