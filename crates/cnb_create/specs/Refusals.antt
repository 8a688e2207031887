-- Why the phases of `create` are refused.
use Rattle.steps.specs.Causes.{Cause, OutOfMemory}
use Rattle.cnb_build.specs.Refusals as building
use Rattle.cnb_detect.specs.Refusals as detection
use Rattle.cnb_layers.specs.Refusals as exporting
use Rattle.cnb_restore.specs.Faults as restoring
use Rattle.cnb_create.specs.declared.refusal.CreateRefusal.{CreateRefusal}
use Rattle.cnb_create.specs.declared.refusal.CreateRefusal.TheVariants.{Detect, Restore, Build, Export, Memory}

abbrev pub cause_of : CreateRefusal → Cause
cause_of (Detect refusal) = detection.cause_of refusal
cause_of (Restore fault) = restoring.cause_of fault
cause_of (Build fault) = building.cause_of fault
cause_of (Export fault) = exporting.cause_of fault
cause_of Memory = OutOfMemory
