-- The refusals that the faults of the phases come to.
use Rattle.image_files.specs.declared.fault.ImageFault.{ImageFault}
use Rattle.image_files.specs.declared.fault.ImageFault.TheVariants as image
use Rattle.tree_store.specs.declared.fault.StoreFault.{StoreFault}
use Rattle.tree_store.specs.declared.fault.StoreFault.TheVariants as store
use Rattle.cnb_build.specs.declared.fault.BuildFault.{BuildFault}
use Rattle.cnb_build.specs.declared.fault.BuildFault.TheVariants as build
use Rattle.cnb_create.specs.declared.refusal.CreateRefusal.{CreateRefusal}
use Rattle.cnb_create.specs.declared.refusal.CreateRefusal.TheVariants as create
use Rattle.cnb_layers.specs.declared.fault.ExportFault.{ExportFault}
use Rattle.cnb_layers.specs.declared.fault.ExportFault.TheVariants as export_fault
use Rattle.cnb_export.specs.declared.refusal.ExportRefusal.{ExportRefusal}
use Rattle.cnb_export.specs.declared.refusal.ExportRefusal.TheVariants as export
use Rattle.cnb_launch.specs.declared.fault.LaunchFault.{LaunchFault}
use Rattle.cnb_launch.specs.declared.fault.LaunchFault.TheVariants as launch
use Rattle.cnb_rebase.specs.declared.refusal.BaseFault.{BaseFault}
use Rattle.cnb_rebase.specs.declared.refusal.BaseFault.TheVariants as base
use Rattle.cnb_rebase.specs.declared.refusal.RebaseFault.{RebaseFault}
use Rattle.cnb_rebase.specs.declared.refusal.RebaseFault.TheVariants as rebase
use Rattle.cnb_record.specs.declared.refusal.CheckRefusal.{CheckRefusal}
use Rattle.cnb_record.specs.declared.refusal.CheckRefusal.TheVariants as check
use Rattle.cnb_restore.specs.declared.fault.RestoreFault.{RestoreFault}
use Rattle.cnb_restore.specs.declared.fault.RestoreFault.TheVariants as restore
use Rattle.cnb_restore.specs.declared.refusal.RestoreRefusal.{RestoreRefusal}
use Rattle.cnb_restore.specs.declared.refusal.RestoreRefusal.TheVariants as restore_refusal
use Rattle.store_prune.specs.declared.fault.PruneFault.{PruneFault}
use Rattle.store_prune.specs.declared.fault.PruneFault.TheVariants as prune
use Rattle.store_prune.specs.declared.fault.VerifyFault.{VerifyFault}
use Rattle.store_prune.specs.declared.fault.VerifyFault.TheVariants as verify
use Rattle.cnb_lifecycle.specs.Faults.{of_detect}
use Rattle.cnb_lifecycle.specs.declared.refusal.Refusal.{Refusal}
use Rattle.cnb_lifecycle.specs.declared.refusal.Refusal.TheVariants.{File, Memory, Document, Child, Limit, OddFile}
use Rattle.cnb_lifecycle.specs.declared.refusal.Refusal.TheVariants.{BuildpackApi, Order, NoTree, Exists, BadRecord}
use Rattle.cnb_lifecycle.specs.declared.refusal.Refusal.TheVariants.{RecordDiffers, Damaged, NoImage, BuildFailed}
use Rattle.cnb_lifecycle.specs.declared.refusal.Refusal.TheVariants.{UnknownUnmet, NoContents, Clash, NoPrevious}
use Rattle.cnb_lifecycle.specs.declared.refusal.Refusal.TheVariants.{TwoDefaults, BadPattern, TopDiffers, TargetDiffers}
use Rattle.cnb_lifecycle.specs.declared.refusal.Refusal.TheVariants.{ShellProcess, NoProcess, ExecFailed, BadExecOutput}

abbrev pub of_build : BuildFault → Refusal
of_build (build.BuildFailed id code) = BuildFailed id code
of_build (build.UnknownUnmet id name) = UnknownUnmet id name
of_build (build.Api text) = BuildpackApi text
of_build (build.Document path fault) = Document path fault
of_build (build.Limit kind) = Limit kind
of_build build.Child = Child
of_build (build.File path) = File path
of_build build.Memory = Memory

abbrev pub of_rebase : RebaseFault → Refusal
of_rebase (rebase.NoImage name) = NoImage name
of_rebase (rebase.TopDiffers recorded found) = TopDiffers recorded found
of_rebase (rebase.TargetDiffers old new) = TargetDiffers old new
of_rebase (rebase.Document path fault) = Document path fault
of_rebase (rebase.Limit kind) = Limit kind
of_rebase (rebase.File path) = File path
of_rebase rebase.Memory = Memory

abbrev pub of_image : ImageFault → Refusal
of_image (image.NoImage name) = NoImage name
of_image (image.Document path fault) = Document path fault
of_image (image.Limit kind) = Limit kind
of_image (image.File path) = File path
of_image image.Memory = Memory

abbrev pub of_store : StoreFault → Refusal
of_store (store.OddFile path) = OddFile path
of_store (store.Limit kind) = Limit kind
of_store (store.File path) = File path
of_store (store.NoTree digest) = NoTree digest
of_store (store.Damaged asked found bad) = Damaged asked found bad
of_store (store.Clash digest) = Clash digest
of_store store.Memory = Memory

abbrev pub of_base : BaseFault → Refusal
of_base (base.Store fault) = of_store fault
of_base (base.Image fault) = of_image fault

abbrev pub of_check : CheckRefusal → Refusal
of_check (check.File path) = File path
of_check check.Memory = Memory
of_check (check.Document path fault) = Document path fault
of_check (check.Limit kind) = Limit kind
of_check (check.BuildpackApi text) = BuildpackApi text
of_check (check.Order id ambiguous) = Order id ambiguous
of_check (check.BadRecord line) = BadRecord line
of_check (check.RecordDiffers path) = RecordDiffers path

abbrev pub of_prune : PruneFault → Refusal
of_prune (prune.Document path fault) = Document path fault
of_prune (prune.Limit kind) = Limit kind
of_prune (prune.File path) = File path
of_prune prune.Memory = Memory

abbrev pub of_verify : VerifyFault → Refusal
of_verify (verify.NoImage name) = NoImage name
of_verify (verify.Document path fault) = Document path fault
of_verify (verify.Limit kind) = Limit kind
of_verify (verify.Store fault) = of_store fault

abbrev pub of_restore : RestoreFault → Refusal
of_restore (restore.NoImage name) = NoImage name
of_restore (restore.Document path fault) = Document path fault
of_restore (restore.Damaged asked found bad) = Damaged asked found bad
of_restore (restore.Limit kind) = Limit kind
of_restore (restore.File path) = File path
of_restore restore.Memory = Memory

abbrev pub of_restore_refusal : RestoreRefusal → Refusal
of_restore_refusal (restore_refusal.BuildpackApi text) = BuildpackApi text
of_restore_refusal (restore_refusal.Fault fault) = of_restore fault

abbrev pub of_export_fault : ExportFault → Refusal
of_export_fault (export_fault.NoContents id layer) = NoContents id layer
of_export_fault (export_fault.NoPrevious id layer) = NoPrevious id layer
of_export_fault (export_fault.TwoDefaults id) = TwoDefaults id
of_export_fault (export_fault.BadPattern id pattern) = BadPattern id pattern
of_export_fault (export_fault.NoImage name) = NoImage name
of_export_fault (export_fault.Document path fault) = Document path fault
of_export_fault (export_fault.Store fault) = of_store fault

abbrev pub of_export : ExportRefusal → Refusal
of_export (export.BuildpackApi text) = BuildpackApi text
of_export (export.Fault fault) = of_export_fault fault

abbrev pub of_launch : LaunchFault → Refusal
of_launch (launch.NoImage name) = NoImage name
of_launch (launch.Exists path) = Exists path
of_launch (launch.ShellProcess word) = ShellProcess word
of_launch (launch.NoProcess kind) = NoProcess kind
of_launch (launch.ExecFailed path code) = ExecFailed path code
of_launch (launch.BadExecOutput path) = BadExecOutput path
of_launch launch.Child = Child
of_launch (launch.Document path fault) = Document path fault
of_launch (launch.Store fault) = of_store fault
of_launch launch.Memory = Memory

abbrev pub of_create : CreateRefusal → Refusal
of_create (create.Detect refusal) = of_detect refusal
of_create (create.Restore fault) = of_restore fault
of_create (create.Build fault) = of_build fault
of_create (create.Export fault) = of_export_fault fault
of_create create.Memory = Memory
