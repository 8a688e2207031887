-- A line that was cut.
use Rattle.std.proofs.Common.{ℕ, List, Option, Err}
use Rattle.cnb_lifecycle.specs.declared.refusal.Refusal.{Refusal}
use Rattle.cnb_lifecycle.specs.declared.refusal.Refusal.TheVariants.{Usage, File, Memory, Document, Child, Limit}
use Rattle.cnb_lifecycle.specs.declared.refusal.Refusal.TheVariants.{OddFile, PlatformApi, BuildpackApi, Order, NoTree}
use Rattle.cnb_lifecycle.specs.declared.refusal.Refusal.TheVariants.{Exists, NoGroup, BadRecord, RecordDiffers, Damaged}
use Rattle.cnb_lifecycle.specs.declared.refusal.Refusal.TheVariants.{NoImage, BuildFailed, UnknownUnmet, NoContents}
use Rattle.cnb_lifecycle.specs.declared.refusal.Refusal.TheVariants.{Clash, NoPrevious, TwoDefaults, BadPattern}
use Rattle.cnb_lifecycle.specs.declared.refusal.Refusal.TheVariants.{TopDiffers, TargetDiffers, ShellProcess, NoProcess}
use Rattle.cnb_lifecycle.specs.declared.refusal.Refusal.TheVariants.{ExecFailed, BadExecOutput}
use Rattle.cnb_lifecycle.specs.declared.status.Status.TheVariants.{Output}
use Rattle.cnb_lifecycle.specs.Printing.{AddsPart, Finishes, IsTold}
use Rattle.cnb_lifecycle.specs.Report.{error_line}

-- where a refusal has a line, a part of it may be taken
pub cut_line : (refusal : Refusal) (before now : Option (List ℕ)) → IsTold refusal
    → AddsPart before now (error_line refusal) → Finishes (Err refusal) Output before now
cut_line Usage before now told h = h
cut_line (File path) before now told h = h
cut_line Memory before now told h = absurd told
cut_line (Document path fault) before now told h = h
cut_line Child before now told h = h
cut_line (Limit kind) before now told h = h
cut_line (OddFile path) before now told h = h
cut_line (PlatformApi text) before now told h = h
cut_line (BuildpackApi text) before now told h = h
cut_line (Order id ambiguous) before now told h = h
cut_line (NoTree digest) before now told h = h
cut_line (Exists path) before now told h = h
cut_line (NoGroup erred) before now told h = h
cut_line (BadRecord line) before now told h = h
cut_line (RecordDiffers path) before now told h = h
cut_line (Damaged asked found bad) before now told h = h
cut_line (NoImage name) before now told h = h
cut_line (BuildFailed id code) before now told h = h
cut_line (UnknownUnmet id name) before now told h = h
cut_line (NoContents id layer) before now told h = h
cut_line (Clash digest) before now told h = h
cut_line (NoPrevious id layer) before now told h = h
cut_line (TwoDefaults id) before now told h = h
cut_line (BadPattern id pattern) before now told h = h
cut_line (TopDiffers recorded found) before now told h = h
cut_line (TargetDiffers old new) before now told h = h
cut_line (ShellProcess word) before now told h = h
cut_line (NoProcess kind) before now told h = h
cut_line (ExecFailed path code) before now told h = h
cut_line (BadExecOutput path) before now told h = h
