-- Reading that is refused, as `prune` is.
use Rattle.std.proofs.Common.{◌≡◌, refl}
use Rattle.doc_files.specs.Faults.{read_cause}
use Rattle.doc_files.specs.declared.fault.ReadFault.{ReadFault}
use Rattle.doc_files.specs.declared.fault.ReadFault.TheVariants.{Document, File, Limit, Memory}
use Rattle.store_prune.specs.Faults.{cause_of, of_read_fault}

pub same_cause : (fault : ReadFault) → cause_of (of_read_fault fault) ≡ read_cause fault
same_cause (File path) = refl
same_cause (Document path fault) = refl
same_cause (Limit kind) = refl
same_cause Memory = refl
