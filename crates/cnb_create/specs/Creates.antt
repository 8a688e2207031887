-- What the command `create` does, in the order of its work (platform.md, "creator").
use Rattle.std.specs.Prelude.{ℕ, Bool, true, List, length, Some, Result, Ok, unwrap_or}
use Rattle.cnb_build.specs.Builds.{builds}
use Rattle.cnb_build.specs.Reading.{reads_files}
use Rattle.cnb_build.specs.Refusals as building
use Rattle.cnb_build.specs.declared.fault.BuildFault.{BuildFault}
use Rattle.cnb_build.specs.declared.frame.BuildFrame.{BuildFrame}
use Rattle.cnb_detect.specs.Choice.{Choice}
use Rattle.cnb_detect.specs.Detects.{chooses}
use Rattle.cnb_detect.specs.Documents.{writes_choice}
use Rattle.cnb_detect.specs.declared.refusal.DetectRefusal.{DetectRefusal}
use Rattle.cnb_detect.specs.declared.target.TargetSource.TheVariants.{Given}
use Rattle.cnb_env.specs.Files.{IsOfFolder, is_fit_platform, platform_env, platform_files_in}
use Rattle.cnb_env.specs.declared.files.EnvFile.{EnvFile}
use Rattle.cnb_export.specs.Command.{saves_readable_image}
use Rattle.cnb_export.specs.Exports.{exports}
use Rattle.cnb_layers.specs.Refusals as exporting
use Rattle.cnb_layers.specs.declared.frame.ExportFrame.{ExportFrame}
use Rattle.cnb_export.specs.declared.exported.Exported.{Exported}
use Rattle.cnb_layers.specs.declared.fault.ExportFault.{ExportFault}
use Rattle.cnb_restore.specs.Analyzes.{analyzes}
use Rattle.cnb_restore.specs.Commands.{ReadsAsAnalyzed}
use Rattle.cnb_restore.specs.Faults as restoring
use Rattle.cnb_restore.specs.Restores.{restores}
use Rattle.cnb_restore.specs.declared.fault.RestoreFault.{RestoreFault}
use Rattle.cnb_restore.specs.declared.restored.Restored.{Restored}
use Rattle.cnb_toml.specs.declared.target.Target.{Target}
use Rattle.cnb_words.specs.declared.create.CreateWords.{CreateWords}
use Rattle.cnb_words.specs.declared.choice.ChoiceWords.{ChoiceWords}
use Rattle.cnb_world.specs.declared.env.Variable.{Variable}
use Rattle.image_docs.specs.declared.analyzed.Analyzed.{Analyzed}
use Rattle.image_files.specs.Target.{analyzed_document, target_of}
use Rattle.run_docs.specs.declared.group.GroupRow.{GroupRow}
use Rattle.shelf_set.specs.Caches.{WorldAndCaches, in_world}
use Rattle.steps.specs.Outside.{Outside, Seen}
use Rattle.steps.specs.Steps.{◌>>=◌, gives, map_err, writes, yields}
use Rattle.steps.specs.Steps as steps
use Rattle.cnb_create.specs.declared.phases.Phases.{Phases}
use Rattle.cnb_create.specs.declared.refusal.CreateRefusal.{CreateRefusal}
use Rattle.cnb_create.specs.declared.refusal.CreateRefusal.TheVariants.{Detect, Restore, Build, Export}
use Rattle.cnb_create.specs.Refusals.{cause_of}
use Rattle.cnb_create.specs.Report.{created_text}
use Rattle.cnb_create.specs.Surroundings.{Surroundings, over_caches, over_outside, over_world}

-- the name of the previous image: the one that was asked for, or else the image's own
abbrev pub previous_name : CreateWords → List ℕ
previous_name words = unwrap_or words.previous words.image

-- the run image and the previous image are looked at, and what they are is written
unfoldable pub looks_at_images : CreateWords → Seen → Result Analyzed RestoreFault → Seen → Type 0
looks_at_images words = do
  analyzed ← analyzes words.store words.run (Some (previous_name words))
  written ← writes restoring.cause_of (analyzed_document words.detect.work) (ReadsAsAnalyzed analyzed)
  yields analyzed

-- a group and its plan are chosen for a target, and they are written
unfoldable pub chooses_group : Target → ChoiceWords → List Variable → Outside → Result Choice DetectRefusal
    → Outside → Type 0
chooses_group target words env = do
  choice ← chooses (Given target) words env
  written ← steps.in_world (writes_choice words.work choice)
  yields choice

-- the layers of the group's buildpacks are restored from the previous image and the caches
abbrev pub restores_layers : CreateWords → Analyzed → List GroupRow → WorldAndCaches
    → Result Restored RestoreFault → WorldAndCaches → Type 0
restores_layers words analyzed group = restores words.store analyzed.previous group words.layers

-- what all builds have in common
abbrev pub build_frame : Target → CreateWords → List Variable → List EnvFile → BuildFrame
build_frame target words env files = record {
  buildpacks = words.detect.buildpacks;
  app = words.detect.app;
  platform = words.detect.platform;
  layers = words.layers;
  work = words.detect.work;
  env = env;
  files = files;
  target = Some target;
}

-- the platform's environment files are read, and the group is built
unfoldable pub builds_group : Target → CreateWords → List Variable → Choice → Seen → Result (Unit {0}) BuildFault
    → Seen → Type 0
builds_group target words env choice = do
  files ← reads_files (IsOfFolder (platform_env words.detect.platform)) (is_fit_platform words.detect.platform)
      (platform_files_in words.detect.platform)
  frame ← gives building.cause_of (Ok (build_frame target words env files))
  builds frame choice.plan choice.group

-- the folders of the export
abbrev pub export_frame : CreateWords → ExportFrame
export_frame words = record {
  store = words.store;
  layers = words.layers;
  app = words.detect.app;
  launcher =
      words.launcher;
}

-- trees go into the store and the caches, whose documents read as their rows where this is told, and make the image
unfoldable pub exports_image : Bool → CreateWords → Analyzed → List GroupRow → WorldAndCaches
    → Result Exported ExportFault → WorldAndCaches → Type 0
exports_image readable words analyzed group = do
  frame ← gives exporting.cause_of (Ok (export_frame words))
  exports readable frame group analyzed

-- the image is exported, with documents of the caches that read as their rows, the text is made, and the image's
-- document is written last, with bytes that read as the image
unfoldable pub leaves_image : CreateWords → Phases → WorldAndCaches → Result (List ℕ) CreateRefusal
    → WorldAndCaches → Type 0
leaves_image words phases = do
  exported ← map_err Export (exports_image true words phases.analyzed phases.group)
  text ← gives cause_of (Ok (created_text words.image phases exported))
  saved ← in_world (map_err Export (saves_readable_image words.store words.image exported.image))
  yields text

abbrev pub phases_of : Analyzed → Choice → Restored → Phases
phases_of analyzed choice restored = record {
  analyzed = analyzed;
  group = choice.group;
  entries = length
      choice.plan;
  restored = restored;
}

-- The phases, one after another; what was analyzed, with the target of its run image, and the choice are handed on as
-- values.
unfoldable pub creates : CreateWords → List Variable → Surroundings → Result (List ℕ) CreateRefusal → Surroundings
    → Type 0
creates words env = do
  analyzed ← over_world (map_err Restore (looks_at_images words))
  choice ← over_outside (map_err Detect (chooses_group (target_of analyzed) words.detect env))
  restored ← over_caches (map_err Restore (restores_layers words analyzed choice.group))
  built ← over_world (map_err Build (builds_group (target_of analyzed) words env choice))
  over_caches (leaves_image words (phases_of analyzed choice restored))
