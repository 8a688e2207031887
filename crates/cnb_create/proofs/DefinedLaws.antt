-- What follows from what `create` comes to, and from nothing else.
use Rattle.std.proofs.Common.{◌≡◌, refl, subst, sym, ℕ, Bool, true, List, Option, Some, None, Result, Ok, Err}
use Rattle.std.specs.Prelude.{IfSome}
use Rattle.cnb_detect.specs.Choice.{Choice}
use Rattle.cnb_detect.specs.FirstTrial.{IsFirstTrial}
use Rattle.cnb_detect.specs.Outcome.{ChoosesFirst}
use Rattle.cnb_detect.specs.declared.refusal.DetectRefusal.{DetectRefusal}
use Rattle.cnb_detect.specs.declared.refusal.DetectRefusal.TheVariants.{NoGroup}
use Rattle.cnb_detect.specs.declared.target.TargetSource.{TargetSource}
use Rattle.cnb_detect.specs.declared.target.TargetSource.TheVariants.{Given}
use Rattle.cnb_detect.proofs.FirstTrialLaws.{is_first_trial}
use Rattle.cnb_export.specs.Exports.{exports}
use Rattle.cnb_export.proofs.OneImageLaws.{one_image}
use Rattle.cnb_words.specs.declared.choice.ChoiceWords.{ChoiceWords}
use Rattle.cnb_words.specs.declared.create.CreateWords.{CreateWords}
use Rattle.cnb_world.specs.Tree.{Tree}
use Rattle.cnb_world.specs.declared.env.Variable.{Variable}
use Rattle.image_docs.specs.Image.{image_in}
use Rattle.image_docs.specs.declared.image.ImageDoc.{ImageDoc}
use Rattle.image_files.specs.Images.{ReadsAs, writes_readable_image}
use Rattle.image_files.specs.Paths.{image_path}
use Rattle.image_files.specs.Target.{target_of}
use Rattle.image_files.proofs.StandLaws.{image_reads}
use Rattle.shelf_set.specs.Caches.{Caches, world_and_caches}
use Rattle.steps.specs.Outside.{Seen, SpawnerSeen}
use Rattle.steps.specs.Steps.{Writes, writes}
use Rattle.cnb_create.specs.Creates.{export_frame, restores_layers}
use Rattle.cnb_create.specs.Defined.{CreatesDefinedImage, IsImageOf, IsLeft, MakesDefinedImage, MakesNoImage}
use Rattle.cnb_create.specs.Headline.{BuildsGroup, ChoosesNone, MakesImage}
use Rattle.cnb_create.specs.Surroundings.{Surroundings}

first_where : (source : TargetSource) (options : ChoiceWords) (env : List Variable) (told : Option Tree)
    (old new : List SpawnerSeen) (end : Result Choice DetectRefusal)
    → ChoosesFirst source options env told old new end
    → IfSome told (λ files. IsFirstTrial source options env files old new end)
first_where source options env None old new end h = tt
first_where source options env (Some files) old new end h = is_first_trial source options env files (Some files) old
    new end refl h

saved_reads : (store name : List ℕ) (image : ImageDoc) (old new : Seen)
    → Writes (image_path store name) (λ bytes. image_in bytes ≡ Ok image) old new
    → ReadsAs image_in (image_path store name) image new.files
unfolding writes_readable_image writes
saved_reads store name image old new h = image_reads store name image old new tt h

module _ (words : CreateWords) (env : List Variable) (old new : Surroundings) where
  is_left : (built : BuildsGroup words env old new.spawners) → IsLeft words env built.restoring.chosen.analyzed
      built.restoring.chosen.choice built.restoring.chosen.looked_at old.caches built.restoring.restored built.built_at
  is_left built =
      let restoring = built.restoring in
      let chosen = restoring.chosen in
      record {
        chosen = chosen.chosen_at.world;
        written = chosen.written;
        runs = chosen.runs;
        found = restoring.restored_at;
        restores = subst (λ (c : Caches). restores_layers words chosen.analyzed chosen.choice.group
            (world_and_caches chosen.chosen_at.world c) (Ok restoring.restored) restoring.restored_at) chosen.caches
            restoring.restores;
        files = built.files;
        environment = built.environment;
        builds = built.builds;
        spared = built.caches;
      }

  is_image : (text : List ℕ) (h : MakesImage words env old text new) → IsImageOf words
      h.built.restoring.chosen.analyzed h.built.restoring.chosen.choice.group h.built.built_at h.exported new
  is_image text h =
      let chosen = h.built.restoring.chosen in
      record {
        middle = h.exported_at.world;
        makes = subst (λ (c : Caches). exports true (export_frame words) chosen.choice.group chosen.analyzed
            h.built.built_at (Ok h.exported) (world_and_caches h.exported_at.world c)) (sym h.caches) h.export_steps;
        runs = h.saved.runs;
        only = one_image (export_frame words) chosen.choice.group chosen.analyzed true h.built.built_at h.exported_at
            (Ok h.exported) h.export_steps;
        reads = saved_reads words.store words.image h.exported.image h.exported_at.world new.world h.saved;
      }

  makes_defined_image : (text : List ℕ) → MakesImage words env old text new
      → MakesDefinedImage words env old text new
  makes_defined_image text h =
      let chosen = h.built.restoring.chosen in
      record {
        analyzed = chosen.analyzed;
        looked_at = chosen.looked_at;
        looked = chosen.looked;
        choice = chosen.choice;
        first = first_where (Given (target_of chosen.analyzed)) words.detect env chosen.looked_at.files old.spawners
            new.spawners (Ok chosen.choice) chosen.chooses;
        restored = h.built.restoring.restored;
        left = h.built.built_at;
        builds = is_left h.built;
        exported = h.exported;
        image = is_image text h;
        told = h.told;
      }

  makes_no_image : (erred : Bool) → ChoosesNone words env old (NoGroup erred) new
      → MakesNoImage words env old erred new
  makes_no_image erred h = record {
    analyzed = h.analyzed;
    looked_at = h.looked_at;
    looked = h.looked;
    first = first_where (Given (target_of h.analyzed)) words.detect env h.looked_at.files old.spawners new.spawners
        (Err (NoGroup erred)) h.comes.first;
    same = h.comes.kept;
    spared = h.caches;
  }

pub creates_defined_image : CreatesDefinedImage
creates_defined_image words env old new = (
  λ text h. makes_defined_image words env old new text h,
  λ erred h. makes_no_image words env old new erred h,
)
