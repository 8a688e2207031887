-- The headline: with any replies of detect children, with any number of workers and in any order of finishing, `create`
-- takes the group and plan of the first trial that passes, or ends as `detect` does; and the image that it writes is
-- the one that the definitions give for this group, the folders after the builds, and the image of before. Each state
-- in between is the end of one phase and the beginning of the next.
use Rattle.std.specs.Prelude.{ℕ, ◌≡◌, ◌⊎◌, true, List, Result, Ok, Err, IfSome}
use Rattle.cnb_build.specs.Outcome.{RunsBuilds}
use Rattle.cnb_build.specs.declared.fault.BuildFault.{BuildFault}
use Rattle.cnb_detect.specs.Choice.{Choice}
use Rattle.cnb_detect.specs.Documents.{WritesChoice}
use Rattle.cnb_detect.specs.Outcome.{ChoosesFirst, ComesTo, Decides}
use Rattle.cnb_detect.specs.declared.refusal.DetectRefusal.{DetectRefusal}
use Rattle.cnb_detect.specs.declared.target.TargetSource.TheVariants.{Given}
use Rattle.cnb_env.specs.Files.{platform_files_in}
use Rattle.cnb_env.specs.declared.files.EnvFile.{EnvFile}
use Rattle.cnb_export.specs.Command.{saves_readable_image}
use Rattle.cnb_export.specs.Exports.{exports}
use Rattle.cnb_export.specs.declared.exported.Exported.{Exported}
use Rattle.cnb_layers.specs.declared.fault.ExportFault.{ExportFault}
use Rattle.cnb_restore.specs.declared.fault.RestoreFault.{RestoreFault}
use Rattle.cnb_restore.specs.declared.restored.Restored.{Restored}
use Rattle.cnb_words.specs.declared.create.CreateWords.{CreateWords}
use Rattle.cnb_world.specs.declared.env.Variable.{Variable}
use Rattle.image_docs.specs.Image.{image_in}
use Rattle.image_docs.specs.declared.analyzed.Analyzed.{Analyzed}
use Rattle.image_files.specs.Paths.{image_path}
use Rattle.image_files.specs.Target.{target_of}
use Rattle.shelf_set.specs.Caches.{WorldAndCaches}
use Rattle.steps.specs.Causes.{Cause, ChildFailed, Decided, FileFailed, OutOfMemory}
use Rattle.steps.specs.Outside.{Seen, SpawnerSeen}
use Rattle.steps.specs.Steps.{Writes}
use Rattle.cnb_create.specs.declared.refusal.CreateRefusal.{CreateRefusal}
use Rattle.cnb_create.specs.declared.refusal.CreateRefusal.TheVariants.{Build, Detect, Export, Memory, Restore}
use Rattle.cnb_create.specs.Creates.{build_frame, builds_group, export_frame, looks_at_images, phases_of}
use Rattle.cnb_create.specs.Creates.{restores_layers}
use Rattle.cnb_create.specs.Refusals.{cause_of}
use Rattle.cnb_create.specs.Report.{created_text}
use Rattle.cnb_create.specs.Surroundings.{Surroundings, caches_beside, outside_of}

-- The run image and the previous image were looked at, and by the children of these spawners a group and its plan were
-- chosen for the target of the run image, and written.
pub record ChoosesGroup (words : CreateWords) (env : List Variable) (old : Surroundings)
    (spawners : List SpawnerSeen) : Type 0 where
  pub analyzed : Analyzed
  pub looked_at : Seen
  pub looked : looks_at_images words old.world (Ok analyzed) looked_at
  pub choice : Choice
  pub chooses : ChoosesFirst (Given (target_of analyzed)) words.detect env looked_at.files old.spawners spawners
      (Ok choice)
  pub chosen_at : WorldAndCaches
  pub written : WritesChoice words.detect.work choice looked_at.files chosen_at.world.files
  pub runs : chosen_at.world.runs ≡ looked_at.runs
  pub caches : chosen_at.caches ≡ old.caches

-- For that group the layers of the previous image were restored.
pub record RestoresGroup (words : CreateWords) (env : List Variable) (old : Surroundings)
    (spawners : List SpawnerSeen) : Type 0 where
  pub chosen : ChoosesGroup words env old spawners
  pub restored : Restored
  pub restored_at : WorldAndCaches
  pub restores : restores_layers words chosen.analyzed chosen.choice.group chosen.chosen_at (Ok restored) restored_at

-- Over what was restored, with the platform's environment files as they then were, each buildpack of the group was
-- built, in its order, by a child of its own.
pub record BuildsGroup (words : CreateWords) (env : List Variable) (old : Surroundings)
    (spawners : List SpawnerSeen) : Type 0 where
  pub restoring : RestoresGroup words env old spawners
  pub files : List EnvFile
  pub environment : IfSome restoring.restored_at.world.files
      (λ tree. platform_files_in words.detect.platform tree ≡ Ok files)
  pub built_at : WorldAndCaches
  pub builds : RunsBuilds (build_frame (target_of restoring.chosen.analyzed) words env files)
      restoring.chosen.choice.plan restoring.chosen.choice.group restoring.restored_at.world (Ok tt) built_at.world
  pub caches : built_at.caches ≡ restoring.restored_at.caches

-- Where `create` is done, the image was made for the group, of what the builds left and of what was looked at; its
-- document was saved last, with bytes that read as it, and the text tells of all this.
pub record MakesImage (words : CreateWords) (env : List Variable) (old : Surroundings) (text : List ℕ)
    (new : Surroundings) : Type 0 where
  pub built : BuildsGroup words env old new.spawners
  pub exported : Exported
  pub exported_at : WorldAndCaches
  pub export_steps : exports true (export_frame words) built.restoring.chosen.choice.group
      built.restoring.chosen.analyzed built.built_at (Ok exported) exported_at
  pub saved : Writes (image_path words.store words.image) (λ bytes. image_in bytes ≡ Ok exported.image)
      exported_at.world new.world
  pub caches : new.caches ≡ exported_at.caches
  pub told : text ≡ created_text words.image
      (phases_of built.restoring.chosen.analyzed built.restoring.chosen.choice built.restoring.restored) exported

-- ---- where it is refused

-- No choice was made, or it was not written: as `detect` is refused where the images were looked at.
pub record ChoosesNone (words : CreateWords) (env : List Variable) (old : Surroundings) (refusal : DetectRefusal)
    (new : Surroundings) : Type 0 where
  pub analyzed : Analyzed
  pub looked_at : Seen
  pub looked : looks_at_images words old.world (Ok analyzed) looked_at
  pub comes : ComesTo (Given (target_of analyzed)) words.detect env
      (record { world = looked_at; spawners = old.spawners }) (Err refusal) (outside_of new)
  pub caches : new.caches ≡ old.caches

-- The images were looked at in vain, and no child was asked.
pub record LooksInVain (words : CreateWords) (old : Surroundings) (fault : RestoreFault) (new : Surroundings)
    : Type 0 where
  pub looked : looks_at_images words old.world (Err fault) new.world
  pub spawners : new.spawners ≡ old.spawners
  pub caches : new.caches ≡ old.caches

-- The choice was made and written, and the restoring of its layers was refused.
pub record RestoresNone (words : CreateWords) (env : List Variable) (old : Surroundings) (fault : RestoreFault)
    (new : Surroundings) : Type 0 where
  pub chosen : ChoosesGroup words env old new.spawners
  pub refused : restores_layers words chosen.analyzed chosen.choice.group chosen.chosen_at (Err fault)
      (caches_beside new)

-- Its layers were restored, and the builds of its buildpacks were refused.
pub record BuildsNone (words : CreateWords) (env : List Variable) (old : Surroundings) (fault : BuildFault)
    (new : Surroundings) : Type 0 where
  pub restoring : RestoresGroup words env old new.spawners
  pub refused : builds_group (target_of restoring.chosen.analyzed) words env restoring.chosen.choice
      restoring.restored_at.world (Err fault) new.world
  pub caches : new.caches ≡ restoring.restored_at.caches

-- Its buildpacks were built, and the making of the image was refused,
pub record ExportsNone (words : CreateWords) (env : List Variable) (old : Surroundings) (fault : ExportFault)
    (new : Surroundings) : Type 0 where
  pub built : BuildsGroup words env old new.spawners
  pub refused : exports true (export_frame words) built.restoring.chosen.choice.group built.restoring.chosen.analyzed
      built.built_at (Err fault) (caches_beside new)

-- or the saving of its document.
pub record SavesNone (words : CreateWords) (env : List Variable) (old : Surroundings) (fault : ExportFault)
    (new : Surroundings) : Type 0 where
  pub built : BuildsGroup words env old new.spawners
  pub exported : Exported
  pub exported_at : WorldAndCaches
  pub export_steps : exports true (export_frame words) built.restoring.chosen.choice.group
      built.restoring.chosen.analyzed built.built_at (Ok exported) exported_at
  pub refused : saves_readable_image words.store words.image exported.image exported_at.world (Err fault) new.world
  pub caches : new.caches ≡ exported_at.caches

-- ---- all ends

-- the fact, unless memory ran out
abbrev pub UnlessMemory : Cause → Type 0 → Type 0
UnlessMemory (FileFailed path) P = P
UnlessMemory ChildFailed P = P
UnlessMemory OutOfMemory P = Unit {0}
UnlessMemory Decided P = P

abbrev pub IsRefused : CreateWords → List Variable → Surroundings → CreateRefusal → Surroundings → Type 0
IsRefused words env old (Detect refusal) new = ChoosesNone words env old refusal new
IsRefused words env old (Restore fault) new = LooksInVain words old fault new ⊎ RestoresNone words env old fault new
IsRefused words env old (Build fault) new = BuildsNone words env old fault new
IsRefused words env old (Export fault) new = ExportsNone words env old fault new ⊎ SavesNone words env old fault new
IsRefused words env old Memory new = Unit {0}

-- where memory ran out, no step is named
abbrev pub ComesToImage : CreateWords → List Variable → Surroundings → Result (List ℕ) CreateRefusal
    → Surroundings → Type 0
ComesToImage words env old (Ok text) new = MakesImage words env old text new
ComesToImage words env old (Err refusal) new = UnlessMemory (cause_of refusal) (IsRefused words env old refusal new)

-- ---- who was asked, and what was chosen

-- No choice was made, by what the children said; or nothing is said, since the choice was not written.
pub record DecidesNone (words : CreateWords) (env : List Variable) (old : Surroundings) (refusal : DetectRefusal)
    (new : Surroundings) : Type 0 where
  pub analyzed : Analyzed
  pub looked_at : Seen
  pub looked : looks_at_images words old.world (Ok analyzed) looked_at
  pub first : Decides (Given (target_of analyzed)) words.detect env looked_at.files old.spawners new.spawners
      (Err refusal)

abbrev pub DecidesAt : CreateWords → List Variable → Surroundings → CreateRefusal → Surroundings → Type 0
DecidesAt words env old (Detect refusal) new = DecidesNone words env old refusal new
DecidesAt words env old (Restore fault) new = (new.spawners ≡ old.spawners) ⊎ ChoosesGroup words env old new.spawners
DecidesAt words env old (Build fault) new = ChoosesGroup words env old new.spawners
DecidesAt words env old (Export fault) new = ChoosesGroup words env old new.spawners
DecidesAt words env old Memory new = Unit {0}

-- By the end of `create`: a refusal behind detection comes where the choice was made and written, and one of the images
-- that are looked at asks nobody.
abbrev pub DecidesImage : CreateWords → List Variable → Surroundings → Result (List ℕ) CreateRefusal
    → Surroundings → Type 0
DecidesImage words env old (Ok text) new = ChoosesGroup words env old new.spawners
DecidesImage words env old (Err refusal) new = UnlessMemory (cause_of refusal) (DecidesAt words env old refusal new)
