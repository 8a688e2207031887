-- Why files were not read.
use Rattle.steps.specs.Causes.{Cause, FileFailed, OutOfMemory, Decided}
use Rattle.doc_files.specs.declared.fault.ReadFault.{ReadFault}
use Rattle.doc_files.specs.declared.fault.ReadFault.TheVariants.{File, Document, Limit, Memory}

abbrev pub read_cause : ReadFault → Cause
read_cause (File path) = FileFailed path
read_cause (Document path fault) = Decided
read_cause (Limit kind) = Decided
read_cause Memory = OutOfMemory
