-- Why `prune` and `verify` are refused.
use Rattle.std.specs.Prelude.{ℕ, ◌≡◌, List}
use Rattle.cnb_world.specs.declared.world.FileFault.{FileFault}
use Rattle.cnb_world.specs.declared.world.FileFault.TheVariants as file_fault
use Rattle.doc_files.specs.declared.fault.ReadFault.{ReadFault}
use Rattle.doc_files.specs.declared.fault.ReadFault.TheVariants as read
use Rattle.image_files.specs.declared.fault.ImageFault.{ImageFault}
use Rattle.image_files.specs.declared.fault.ImageFault.TheVariants as image
use Rattle.steps.specs.Causes.{Cause, FileFailed, OutOfMemory, Decided}
use Rattle.tree_store.specs.Answers as tree_store
use Rattle.tree_store.specs.declared.fault.StoreFault.TheVariants as store
use Rattle.store_prune.specs.declared.fault.PruneFault.{PruneFault}
use Rattle.store_prune.specs.declared.fault.PruneFault.TheVariants.{Document, Limit, File, Memory}
use Rattle.store_prune.specs.declared.fault.VerifyFault.{VerifyFault}
use Rattle.store_prune.specs.declared.fault.VerifyFault.TheVariants as verify

-- why `prune` is refused
abbrev pub cause_of : PruneFault → Cause
cause_of (File path) = FileFailed path
cause_of Memory = OutOfMemory
cause_of (Document path fault) = Decided
cause_of (Limit kind) = Decided

-- a call on a path that failed is a refusal of that path, or memory ran out
abbrev pub Blames : List ℕ → FileFault → PruneFault → Type 0
Blames path fault Memory = Unit {0}
Blames path file_fault.Failed (File blamed) = blamed ≡ path
Blames path fault refusal = ⊥

abbrev pub of_read_fault : ReadFault → PruneFault
of_read_fault (read.File path) = File path
of_read_fault (read.Document path fault) = Document path fault
of_read_fault (read.Limit kind) = Limit kind
of_read_fault read.Memory = Memory

-- why `verify` is refused
abbrev pub verify_cause : VerifyFault → Cause
verify_cause (verify.NoImage name) = Decided
verify_cause (verify.Document path fault) = Decided
verify_cause (verify.Limit kind) = Decided
verify_cause (verify.Store fault) = tree_store.cause_of fault

abbrev pub of_image_fault : ImageFault → VerifyFault
of_image_fault (image.NoImage name) = verify.NoImage name
of_image_fault (image.Document path fault) = verify.Document path fault
of_image_fault (image.Limit kind) = verify.Limit kind
of_image_fault (image.File path) = verify.Store (store.File path)
of_image_fault image.Memory = verify.Store store.Memory
