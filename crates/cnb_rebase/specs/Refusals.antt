-- Why the steps of `rebase` and `base` are refused.
use Rattle.image_files.specs.Faults as image_files
use Rattle.image_files.specs.declared.fault.ImageFault.{ImageFault}
use Rattle.image_files.specs.declared.fault.ImageFault.TheVariants as image
use Rattle.steps.specs.Causes.{Cause, FileFailed, OutOfMemory, Decided}
use Rattle.tree_store.specs.Answers as tree_store
use Rattle.cnb_rebase.specs.declared.refusal.BaseFault.{BaseFault}
use Rattle.cnb_rebase.specs.declared.refusal.BaseFault.TheVariants.{Store, Image}
use Rattle.cnb_rebase.specs.declared.refusal.RebaseFault.{RebaseFault}
use Rattle.cnb_rebase.specs.declared.refusal.RebaseFault.TheVariants.{NoImage, TopDiffers, TargetDiffers, Document}
use Rattle.cnb_rebase.specs.declared.refusal.RebaseFault.TheVariants.{Limit, File, Memory}

abbrev pub cause_of : RebaseFault → Cause
cause_of (File path) = FileFailed path
cause_of Memory = OutOfMemory
cause_of (NoImage name) = Decided
cause_of (TopDiffers recorded found) = Decided
cause_of (TargetDiffers old new) = Decided
cause_of (Document path fault) = Decided
cause_of (Limit kind) = Decided

abbrev pub of_image_fault : ImageFault → RebaseFault
of_image_fault (image.NoImage name) = NoImage name
of_image_fault (image.Document path fault) = Document path fault
of_image_fault (image.Limit kind) = Limit kind
of_image_fault (image.File path) = File path
of_image_fault image.Memory = Memory

abbrev pub base_cause : BaseFault → Cause
base_cause (Store fault) = tree_store.cause_of fault
base_cause (Image fault) = image_files.cause_of fault
