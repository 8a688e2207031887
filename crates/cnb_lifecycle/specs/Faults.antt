-- The refusals that the faults of the steps come to, and why a command is refused.
use Rattle.cnb_words.specs.declared.fault.WordsFault.{WordsFault}
use Rattle.cnb_words.specs.declared.fault.WordsFault.TheVariants as words
use Rattle.cnb_detect.specs.declared.refusal.DetectRefusal.{DetectRefusal}
use Rattle.cnb_detect.specs.declared.refusal.DetectRefusal.TheVariants as detect
use Rattle.steps.specs.Causes.{Cause, FileFailed, ChildFailed, OutOfMemory, Decided}
use Rattle.cnb_lifecycle.specs.declared.refusal.Refusal.{Refusal}
use Rattle.cnb_lifecycle.specs.declared.refusal.Refusal.TheVariants.{Usage, File, Memory, Document, Child, Limit}
use Rattle.cnb_lifecycle.specs.declared.refusal.Refusal.TheVariants.{OddFile, PlatformApi, BuildpackApi, Order, NoTree}
use Rattle.cnb_lifecycle.specs.declared.refusal.Refusal.TheVariants.{Exists, NoGroup, BadRecord, RecordDiffers, Damaged}
use Rattle.cnb_lifecycle.specs.declared.refusal.Refusal.TheVariants.{NoImage, BuildFailed, UnknownUnmet, NoContents}
use Rattle.cnb_lifecycle.specs.declared.refusal.Refusal.TheVariants.{Clash, NoPrevious, TwoDefaults, BadPattern}
use Rattle.cnb_lifecycle.specs.declared.refusal.Refusal.TheVariants.{TopDiffers, TargetDiffers, ShellProcess, NoProcess}
use Rattle.cnb_lifecycle.specs.declared.refusal.Refusal.TheVariants.{ExecFailed, BadExecOutput}

abbrev pub of_words_fault : WordsFault → Refusal
of_words_fault words.Usage = Usage
of_words_fault words.Memory = Memory

abbrev pub of_detect : DetectRefusal → Refusal
of_detect (detect.File path) = File path
of_detect detect.Memory = Memory
of_detect (detect.Document path fault) = Document path fault
of_detect detect.Child = Child
of_detect (detect.Limit kind) = Limit kind
of_detect (detect.BuildpackApi text) = BuildpackApi text
of_detect (detect.Order id ambiguous) = Order id ambiguous
of_detect (detect.NoGroup erred) = NoGroup erred

abbrev pub cause_of : Refusal → Cause
cause_of Usage = Decided
cause_of (File path) = FileFailed path
cause_of Memory = OutOfMemory
cause_of (Document path fault) = Decided
cause_of Child = ChildFailed
cause_of (Limit kind) = Decided
cause_of (OddFile path) = Decided
cause_of (PlatformApi text) = Decided
cause_of (BuildpackApi text) = Decided
cause_of (Order id ambiguous) = Decided
cause_of (NoTree digest) = Decided
cause_of (Exists path) = Decided
cause_of (NoGroup erred) = Decided
cause_of (BadRecord line) = Decided
cause_of (RecordDiffers path) = Decided
cause_of (Damaged asked found bad) = Decided
cause_of (NoImage name) = Decided
cause_of (BuildFailed id code) = Decided
cause_of (UnknownUnmet id name) = Decided
cause_of (NoContents id layer) = Decided
cause_of (Clash digest) = Decided
cause_of (NoPrevious id layer) = Decided
cause_of (TwoDefaults id) = Decided
cause_of (BadPattern id pattern) = Decided
cause_of (TopDiffers recorded found) = Decided
cause_of (TargetDiffers old new) = Decided
cause_of (ShellProcess word) = Decided
cause_of (NoProcess kind) = Decided
cause_of (ExecFailed path code) = Decided
cause_of (BadExecOutput path) = Decided
