-- What the phases of `create` do to all counts, by what ended them.
use Rattle.std.proofs.Common.{refl, List, Bool, Result}
use Rattle.cnb_build.specs.Refusals as building
use Rattle.cnb_build.proofs.CountLaws.{builds_counts}
use Rattle.cnb_detect.proofs.CountLaws.{choice_counts, written_choice_counts}
use Rattle.cnb_detect.specs.Choice.{Choice}
use Rattle.cnb_detect.specs.Refusals as detection
use Rattle.cnb_export.proofs.CountLaws.{exports_counts, saved_readable_image_counts}
use Rattle.cnb_layers.specs.Refusals as exporting
use Rattle.cnb_restore.proofs.CountLaws.{analyzes_counts, restores_counts}
use Rattle.cnb_restore.specs.Faults as restoring
use Rattle.cnb_toml.specs.declared.target.Target.{Target}
use Rattle.cnb_detect.specs.declared.target.TargetSource.TheVariants.{Given}
use Rattle.image_files.specs.Target.{target_of}
use Rattle.cnb_words.specs.declared.create.CreateWords.{CreateWords}
use Rattle.cnb_words.specs.declared.choice.ChoiceWords.{ChoiceWords}
use Rattle.cnb_world.specs.declared.env.Variable.{Variable}
use Rattle.image_docs.specs.declared.analyzed.Analyzed.{Analyzed}
use Rattle.run_docs.specs.declared.group.GroupRow.{GroupRow}
use Rattle.shelf_set.specs.Caches.{WorldAndCaches}
use Rattle.shelf_set.proofs.CountLaws.{BesideCaches, beside_link, beside_rest, obeys_in_world}
use Rattle.steps.specs.Causes.{Cause}
use Rattle.steps.specs.Counts.{AllCounts, FileCounts}
use Rattle.steps.specs.EitherCounts.{OutsideCounts}
use Rattle.steps.specs.Outside.{Outside, Seen}
use Rattle.steps.proofs.EndLaws.{Links, Obeys, Relation, Rests, all_link, all_of_files, all_rest, files_among}
use Rattle.steps.proofs.EndLaws.{files_link, files_rest, obeys_bind, obeys_gives, obeys_told, obeys_yields}
use Rattle.steps.proofs.EndLaws.{reads_counts, writes_counts}
use Rattle.steps.proofs.OutsideLaws.{obeys_over_world, outside_link, outside_rest, world_counts}
use Rattle.cnb_create.specs.Creates.{builds_group, chooses_group, creates, exports_image, leaves_image, looks_at_images}
use Rattle.cnb_create.specs.Refusals.{cause_of}
use Rattle.cnb_create.specs.Surroundings.{Surroundings, caches_beside, outside_of, over_caches, over_outside}
use Rattle.cnb_create.specs.Surroundings.{over_world}
use Rattle.cnb_create.specs.declared.phases.Phases.{Phases}
use Rattle.cnb_create.specs.declared.refusal.CreateRefusal.TheVariants.{Detect, Restore, Build, Export}

-- all counts, of all that a command sees
abbrev pub every_count : Relation Surroundings
every_count last old new = OutsideCounts last (outside_of old) (outside_of new)

pub every_link : Links every_count
every_link last a b c = outside_link last (outside_of a) (outside_of b) (outside_of c)

pub every_rest : Rests every_count
every_rest = record {
  none = λ s. outside_rest.none (outside_of s);
  memory = λ s. outside_rest.memory (outside_of s);
  decided = λ s. outside_rest.decided (outside_of s);
}

module _ {E A : Type 0} (cause : E → Cause) where
  pub obeys_world : (step : Seen → Result A E → Seen → Type 0) → Obeys AllCounts cause step
      → Obeys every_count cause (over_world step)
  unfolding over_world
  obeys_world step p old new result h = world_counts _ (outside_of old) (outside_of new) h.1
      (p old.world new.world result h.0)

  pub obeys_outside : (step : Outside → Result A E → Outside → Type 0) → Obeys OutsideCounts cause step
      → Obeys every_count cause (over_outside step)
  unfolding over_outside
  obeys_outside step p old new result h = p (outside_of old) (outside_of new) result h.0

  pub obeys_caches : (step : WorldAndCaches → Result A E → WorldAndCaches → Type 0)
      → Obeys (BesideCaches FileCounts) cause step → Obeys every_count cause (over_caches step)
  unfolding over_caches
  obeys_caches step p old new result h = world_counts _ (outside_of old) (outside_of new) h.1
      (all_of_files _ old.world new.world (p (caches_beside old) (caches_beside new) result h.0))

-- ---- the phases

looked_counts : (words : CreateWords) → Obeys FileCounts restoring.cause_of (looks_at_images words)
unfolding looks_at_images
looked_counts words =
    obeys_bind _ _ _ _ files_link (analyzes_counts words.store words.run _)
    (λ analyzed. obeys_bind _ _ _ _ files_link (writes_counts restoring.cause_of _ _)
    (λ written. obeys_yields _ _ _ files_rest))

chosen_counts : (target : Target) (words : ChoiceWords) (env : List Variable)
    → Obeys OutsideCounts detection.cause_of (chooses_group target words env)
unfolding chooses_group
chosen_counts target words env =
    obeys_bind _ _ _ _ outside_link (choice_counts (Given target) words env)
    (λ choice. obeys_bind _ _ _ _ outside_link (obeys_over_world detection.cause_of _
    (files_among detection.cause_of _ (written_choice_counts words.work choice)))
    (λ written. obeys_yields _ _ _ outside_rest))

built_counts : (target : Target) (words : CreateWords) (env : List Variable) (choice : Choice)
    → Obeys AllCounts building.cause_of (builds_group target words env choice)
unfolding builds_group
built_counts target words env choice =
    obeys_bind _ _ _ _ all_link (files_among building.cause_of _ (reads_counts building.cause_of _ _ _))
    (λ files. obeys_bind _ _ _ _ all_link (obeys_gives _ _ _ all_rest)
    (λ frame. builds_counts frame choice.plan choice.group))

exported_counts : (readable : Bool) (words : CreateWords) (analyzed : Analyzed) (group : List GroupRow)
    → Obeys (BesideCaches FileCounts) exporting.cause_of (exports_image readable words analyzed group)
unfolding exports_image
exported_counts readable words analyzed group =
    obeys_bind _ _ _ _ (beside_link _ files_link) (obeys_gives _ _ _ (beside_rest _ files_rest))
    (λ frame. exports_counts readable frame group analyzed)

left_counts : (words : CreateWords) (phases : Phases) → Obeys (BesideCaches FileCounts) cause_of
    (leaves_image words phases)
unfolding leaves_image
left_counts words phases =
    obeys_bind _ _ _ _ (beside_link _ files_link)
    (obeys_told (BesideCaches FileCounts) exporting.cause_of cause_of Export _ (λ fault. refl)
    (exported_counts _ words phases.analyzed phases.group))
    (λ exported. obeys_bind _ _ _ _ (beside_link _ files_link) (obeys_gives _ _ _ (beside_rest _ files_rest))
    (λ text. obeys_bind _ _ _ _ (beside_link _ files_link)
    (obeys_in_world FileCounts cause_of _ (obeys_told FileCounts exporting.cause_of cause_of Export _
    (λ fault. refl) (saved_readable_image_counts _ _ _)))
    (λ saved. obeys_yields _ _ _ (beside_rest _ files_rest))))

pub create_counts : (words : CreateWords) (env : List Variable) → Obeys every_count cause_of (creates words env)
unfolding creates
create_counts words env =
    obeys_bind _ _ _ _ every_link (obeys_world cause_of _
    (files_among cause_of _ (obeys_told FileCounts restoring.cause_of cause_of Restore _ (λ fault. refl)
    (looked_counts words))))
    (λ analyzed. obeys_bind _ _ _ _ every_link (obeys_outside cause_of _
    (obeys_told OutsideCounts detection.cause_of cause_of Detect _ (λ fault. refl)
    (chosen_counts (target_of analyzed) words.detect env)))
    (λ choice. obeys_bind _ _ _ _ every_link (obeys_caches cause_of _
    (obeys_told (BesideCaches FileCounts) restoring.cause_of cause_of Restore _ (λ fault. refl)
    (restores_counts _ _ _ _)))
    (λ restored. obeys_bind _ _ _ _ every_link (obeys_world cause_of _
    (obeys_told AllCounts building.cause_of cause_of Build _ (λ fault. refl)
    (built_counts (target_of analyzed) words env choice)))
    (λ built. obeys_caches cause_of _ (left_counts words _)))))
