-- The refusals of the phases keep their causes, as the lifecycle's refusals tell them.
use Rattle.std.proofs.Common.{◌≡◌, refl}
use Rattle.image_files.specs.Faults as image_files
use Rattle.image_files.specs.declared.fault.ImageFault.{ImageFault}
use Rattle.image_files.specs.declared.fault.ImageFault.TheVariants as image
use Rattle.tree_store.specs.Answers as tree_store
use Rattle.tree_store.specs.declared.fault.StoreFault.{StoreFault}
use Rattle.tree_store.specs.declared.fault.StoreFault.TheVariants as store
use Rattle.cnb_build.specs.Refusals as building
use Rattle.cnb_build.specs.declared.fault.BuildFault.{BuildFault}
use Rattle.cnb_build.specs.declared.fault.BuildFault.TheVariants as build
use Rattle.cnb_create.specs.Refusals as creating
use Rattle.cnb_create.specs.declared.refusal.CreateRefusal.{CreateRefusal}
use Rattle.cnb_create.specs.declared.refusal.CreateRefusal.TheVariants as create
use Rattle.cnb_export.specs.Given as exporting
use Rattle.cnb_layers.specs.Refusals as export_faults
use Rattle.cnb_layers.specs.declared.fault.ExportFault.{ExportFault}
use Rattle.cnb_layers.specs.declared.fault.ExportFault.TheVariants as export_fault
use Rattle.cnb_export.specs.declared.refusal.ExportRefusal.{ExportRefusal}
use Rattle.cnb_export.specs.declared.refusal.ExportRefusal.TheVariants as export
use Rattle.cnb_launch.specs.Faults as launching
use Rattle.cnb_launch.specs.declared.fault.LaunchFault.{LaunchFault}
use Rattle.cnb_launch.specs.declared.fault.LaunchFault.TheVariants as launch
use Rattle.cnb_restore.specs.Commands as restore_command
use Rattle.cnb_restore.specs.Faults as restoring
use Rattle.cnb_record.specs.Refusals as checking
use Rattle.cnb_record.specs.declared.refusal.CheckRefusal.{CheckRefusal}
use Rattle.cnb_record.specs.declared.refusal.CheckRefusal.TheVariants as check
use Rattle.cnb_restore.specs.declared.fault.RestoreFault.{RestoreFault}
use Rattle.cnb_restore.specs.declared.fault.RestoreFault.TheVariants as restore
use Rattle.cnb_restore.specs.declared.refusal.RestoreRefusal.{RestoreRefusal}
use Rattle.cnb_restore.specs.declared.refusal.RestoreRefusal.TheVariants as restore_refusal
use Rattle.cnb_rebase.specs.Refusals as rebasing
use Rattle.cnb_rebase.specs.declared.refusal.BaseFault.{BaseFault}
use Rattle.cnb_rebase.specs.declared.refusal.BaseFault.TheVariants as base
use Rattle.cnb_rebase.specs.declared.refusal.RebaseFault.{RebaseFault}
use Rattle.cnb_rebase.specs.declared.refusal.RebaseFault.TheVariants as rebase
use Rattle.store_prune.specs.Faults as pruning
use Rattle.store_prune.specs.declared.fault.PruneFault.{PruneFault}
use Rattle.store_prune.specs.declared.fault.PruneFault.TheVariants as prune
use Rattle.store_prune.specs.declared.fault.VerifyFault.{VerifyFault}
use Rattle.store_prune.specs.declared.fault.VerifyFault.TheVariants as verify
use Rattle.cnb_lifecycle.specs.Faults.{cause_of}
use Rattle.cnb_lifecycle.proofs.CauseLemmas.{same_cause}
use Rattle.cnb_lifecycle.specs.PhaseFaults.{of_base, of_build, of_check, of_create, of_export, of_export_fault}
use Rattle.cnb_lifecycle.specs.PhaseFaults.{of_image, of_launch, of_prune, of_rebase, of_restore, of_restore_refusal}
use Rattle.cnb_lifecycle.specs.PhaseFaults.{of_store, of_verify}

pub build_cause : (fault : BuildFault) → cause_of (of_build fault) ≡ building.cause_of fault
build_cause (build.BuildFailed id code) = refl
build_cause (build.UnknownUnmet id name) = refl
build_cause (build.Api text) = refl
build_cause (build.Document path fault) = refl
build_cause (build.Limit kind) = refl
build_cause build.Child = refl
build_cause (build.File path) = refl
build_cause build.Memory = refl

pub rebase_cause : (fault : RebaseFault) → cause_of (of_rebase fault) ≡ rebasing.cause_of fault
rebase_cause (rebase.NoImage name) = refl
rebase_cause (rebase.TopDiffers recorded found) = refl
rebase_cause (rebase.TargetDiffers old new) = refl
rebase_cause (rebase.Document path fault) = refl
rebase_cause (rebase.Limit kind) = refl
rebase_cause (rebase.File path) = refl
rebase_cause rebase.Memory = refl

pub image_cause : (fault : ImageFault) → cause_of (of_image fault) ≡ image_files.cause_of fault
image_cause (image.NoImage name) = refl
image_cause (image.Document path fault) = refl
image_cause (image.Limit kind) = refl
image_cause (image.File path) = refl
image_cause image.Memory = refl

pub store_cause : (fault : StoreFault) → cause_of (of_store fault) ≡ tree_store.cause_of fault
store_cause (store.OddFile path) = refl
store_cause (store.Limit kind) = refl
store_cause (store.File path) = refl
store_cause (store.NoTree digest) = refl
store_cause (store.Damaged asked found bad) = refl
store_cause (store.Clash digest) = refl
store_cause store.Memory = refl

pub base_cause : (fault : BaseFault) → cause_of (of_base fault) ≡ rebasing.base_cause fault
base_cause (base.Store fault) = store_cause fault
base_cause (base.Image fault) = image_cause fault

pub check_cause : (refusal : CheckRefusal) → cause_of (of_check refusal) ≡ checking.cause_of refusal
check_cause (check.File path) = refl
check_cause check.Memory = refl
check_cause (check.Document path fault) = refl
check_cause (check.Limit kind) = refl
check_cause (check.BuildpackApi text) = refl
check_cause (check.Order id ambiguous) = refl
check_cause (check.BadRecord line) = refl
check_cause (check.RecordDiffers path) = refl

pub prune_cause : (fault : PruneFault) → cause_of (of_prune fault) ≡ pruning.cause_of fault
prune_cause (prune.Document path fault) = refl
prune_cause (prune.Limit kind) = refl
prune_cause (prune.File path) = refl
prune_cause prune.Memory = refl

pub verify_cause : (fault : VerifyFault) → cause_of (of_verify fault) ≡ pruning.verify_cause fault
verify_cause (verify.NoImage name) = refl
verify_cause (verify.Document path fault) = refl
verify_cause (verify.Limit kind) = refl
verify_cause (verify.Store fault) = store_cause fault

pub restore_cause : (fault : RestoreFault) → cause_of (of_restore fault) ≡ restoring.cause_of fault
restore_cause (restore.NoImage name) = refl
restore_cause (restore.Document path fault) = refl
restore_cause (restore.Damaged asked found bad) = refl
restore_cause (restore.Limit kind) = refl
restore_cause (restore.File path) = refl
restore_cause restore.Memory = refl

pub refused_restore : (refusal : RestoreRefusal) → cause_of (of_restore_refusal refusal)
    ≡ restore_command.refusal_cause refusal
refused_restore (restore_refusal.BuildpackApi text) = refl
refused_restore (restore_refusal.Fault fault) = restore_cause fault

export_cause : (fault : ExportFault) → cause_of (of_export_fault fault) ≡ export_faults.cause_of fault
export_cause (export_fault.NoContents id layer) = refl
export_cause (export_fault.NoPrevious id layer) = refl
export_cause (export_fault.TwoDefaults id) = refl
export_cause (export_fault.BadPattern id pattern) = refl
export_cause (export_fault.NoImage name) = refl
export_cause (export_fault.Document path fault) = refl
export_cause (export_fault.Store fault) = store_cause fault

pub refused_export : (refusal : ExportRefusal) → cause_of (of_export refusal) ≡ exporting.refusal_cause refusal
refused_export (export.BuildpackApi text) = refl
refused_export (export.Fault fault) = export_cause fault

pub launch_cause : (fault : LaunchFault) → cause_of (of_launch fault) ≡ launching.cause_of fault
launch_cause (launch.NoImage name) = refl
launch_cause (launch.Exists path) = refl
launch_cause (launch.ShellProcess word) = refl
launch_cause (launch.NoProcess kind) = refl
launch_cause (launch.ExecFailed path code) = refl
launch_cause (launch.BadExecOutput path) = refl
launch_cause launch.Child = refl
launch_cause (launch.Document path fault) = refl
launch_cause (launch.Store fault) = store_cause fault
launch_cause launch.Memory = refl

pub create_cause : (refusal : CreateRefusal) → cause_of (of_create refusal) ≡ creating.cause_of refusal
create_cause (create.Detect refusal) = same_cause refusal
create_cause (create.Restore fault) = restore_cause fault
create_cause (create.Build fault) = build_cause fault
create_cause (create.Export fault) = export_cause fault
create_cause create.Memory = refl
