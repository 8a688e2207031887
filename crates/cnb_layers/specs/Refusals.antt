-- Why exports are refused.
use Rattle.doc_files.specs.declared.fault.ReadFault.{ReadFault}
use Rattle.doc_files.specs.declared.fault.ReadFault.TheVariants as read
use Rattle.image_files.specs.declared.fault.ImageFault.{ImageFault}
use Rattle.image_files.specs.declared.fault.ImageFault.TheVariants as image
use Rattle.steps.specs.Causes.{Cause, Decided}
use Rattle.tree_store.specs.Answers as store
use Rattle.tree_store.specs.declared.fault.StoreFault.TheVariants as stored
use Rattle.cnb_layers.specs.declared.fault.ExportFault.{ExportFault}
use Rattle.cnb_layers.specs.declared.fault.ExportFault.TheVariants.{NoContents, NoPrevious, TwoDefaults, BadPattern}
use Rattle.cnb_layers.specs.declared.fault.ExportFault.TheVariants.{NoImage, Document, Store}

abbrev pub cause_of : ExportFault → Cause
cause_of (NoContents id layer) = Decided
cause_of (NoPrevious id layer) = Decided
cause_of (TwoDefaults id) = Decided
cause_of (BadPattern id pattern) = Decided
cause_of (NoImage name) = Decided
cause_of (Document path fault) = Decided
cause_of (Store fault) = store.cause_of fault

abbrev pub of_read_fault : ReadFault → ExportFault
of_read_fault (read.File path) = Store (stored.File path)
of_read_fault (read.Document path fault) = Document path fault
of_read_fault (read.Limit kind) = Store (stored.Limit kind)
of_read_fault read.Memory = Store stored.Memory

abbrev pub of_image_fault : ImageFault → ExportFault
of_image_fault (image.NoImage name) = NoImage name
of_image_fault (image.Document path fault) = Document path fault
of_image_fault (image.Limit kind) = Store (stored.Limit kind)
of_image_fault (image.File path) = Store (stored.File path)
of_image_fault image.Memory = Store stored.Memory
