-- What follows from what `create` comes to, and from nothing else.
use Rattle.std.specs.Prelude.{ℕ, ◌≡◌, true, Bool, List, Ok, Err, IfSome}
use Rattle.cnb_build.specs.Outcome.{RunsBuilds}
use Rattle.cnb_detect.specs.Choice.{Choice}
use Rattle.cnb_detect.specs.Documents.{WritesChoice}
use Rattle.cnb_detect.specs.FirstTrial.{IsFirstTrial}
use Rattle.cnb_detect.specs.declared.refusal.DetectRefusal.TheVariants.{NoGroup}
use Rattle.cnb_detect.specs.declared.target.TargetSource.TheVariants.{Given}
use Rattle.cnb_env.specs.Files.{platform_files_in}
use Rattle.cnb_env.specs.declared.files.EnvFile.{EnvFile}
use Rattle.cnb_export.specs.Exports.{exports}
use Rattle.cnb_export.specs.OneImage.{IsOneImage}
use Rattle.cnb_export.specs.declared.exported.Exported.{Exported}
use Rattle.cnb_restore.specs.declared.restored.Restored.{Restored}
use Rattle.cnb_words.specs.declared.create.CreateWords.{CreateWords}
use Rattle.cnb_world.specs.declared.env.Variable.{Variable}
use Rattle.image_docs.specs.Image.{image_in}
use Rattle.image_docs.specs.declared.analyzed.Analyzed.{Analyzed}
use Rattle.image_files.specs.Images.{ReadsAs}
use Rattle.image_files.specs.Paths.{image_path}
use Rattle.image_files.specs.Target.{target_of}
use Rattle.run_docs.specs.declared.group.GroupRow.{GroupRow}
use Rattle.shelf_set.specs.Caches.{Caches, WorldAndCaches, world_and_caches}
use Rattle.steps.specs.Outside.{Seen}
use Rattle.cnb_create.specs.declared.refusal.CreateRefusal.TheVariants.{Detect}
use Rattle.cnb_create.specs.Creates.{build_frame, export_frame, looks_at_images, phases_of, restores_layers}
use Rattle.cnb_create.specs.Headline.{ComesToImage}
use Rattle.cnb_create.specs.Report.{created_text}
use Rattle.cnb_create.specs.Surroundings.{Surroundings}

-- The builds of a choice left this: its documents were written over what was looked at, its layers restored over that,
-- with the caches as they were, and its buildpacks built over what was restored.
pub record IsLeft (words : CreateWords) (env : List Variable) (analyzed : Analyzed) (choice : Choice) (looked : Seen)
    (caches : Caches) (restored : Restored) (left : WorldAndCaches) : Type 0 where
  pub chosen : Seen
  pub written : WritesChoice words.detect.work choice looked.files chosen.files
  pub runs : chosen.runs ≡ looked.runs
  pub found : WorldAndCaches
  pub restores : restores_layers words analyzed choice.group (world_and_caches chosen caches) (Ok restored) found
  pub files : List EnvFile
  pub environment : IfSome found.world.files (λ tree. platform_files_in words.detect.platform tree ≡ Ok files)
  pub builds : RunsBuilds (build_frame (target_of analyzed) words env files) choice.plan choice.group found.world
      (Ok tt) left.world
  pub spared : left.caches ≡ found.caches

-- The image's document reads as the image that is made of what was left, and every export of the same makes that.
pub record IsImageOf (words : CreateWords) (analyzed : Analyzed) (group : List GroupRow) (left : WorldAndCaches)
    (exported : Exported) (new : Surroundings) : Type 0 where
  pub middle : Seen
  pub makes : exports true (export_frame words) group analyzed left (Ok exported)
      (world_and_caches middle new.caches)
  pub runs : new.world.runs ≡ middle.runs
  pub only : IsOneImage true (export_frame words) group analyzed left.world.files (Ok exported)
  pub reads : ReadsAs image_in (image_path words.store words.image) exported.image new.world.files

-- Where `create` is done: the first trial that passes by what its children answered, in whatever order, is the choice;
-- and the image in the store is the one that is defined for it, for what its builds left and for the image of before.
pub record MakesDefinedImage (words : CreateWords) (env : List Variable) (old : Surroundings) (text : List ℕ)
    (new : Surroundings) : Type 0 where
  pub analyzed : Analyzed
  pub looked_at : Seen
  pub looked : looks_at_images words old.world (Ok analyzed) looked_at
  pub choice : Choice
  pub first : IfSome looked_at.files (λ files. IsFirstTrial (Given (target_of analyzed)) words.detect env files
      old.spawners new.spawners (Ok choice))
  pub restored : Restored
  pub left : WorldAndCaches
  pub builds : IsLeft words env analyzed choice looked_at old.caches restored left
  pub exported : Exported
  pub image : IsImageOf words analyzed choice.group left exported new
  pub told : text ≡ created_text words.image (phases_of analyzed choice restored) exported

-- Where no group passes, none does by what the children answered, and nothing was written but what was analyzed.
pub record MakesNoImage (words : CreateWords) (env : List Variable) (old : Surroundings) (erred : Bool)
    (new : Surroundings) : Type 0 where
  pub analyzed : Analyzed
  pub looked_at : Seen
  pub looked : looks_at_images words old.world (Ok analyzed) looked_at
  pub first : IfSome looked_at.files (λ files. IsFirstTrial (Given (target_of analyzed)) words.detect env files
      old.spawners new.spawners (Err (NoGroup erred)))
  pub same : new.world.files ≡ looked_at.files
  pub spared : new.caches ≡ old.caches

-- both follow from what it comes to
abbrev pub CreatesDefinedImage : Type 0
CreatesDefinedImage = (words : CreateWords) (env : List Variable) (old new : Surroundings)
    → ((text : List ℕ) → ComesToImage words env old (Ok text) new → MakesDefinedImage words env old text new)
    × ((erred : Bool) → ComesToImage words env old (Err (Detect (NoGroup erred))) new
    → MakesNoImage words env old erred new)
