-- From the steps of `create` to its headline.
use Rattle.std.proofs.Common.{◌≡◌, ◌∙◌, ◌++◌, refl, sym, ap, subst, ℕ, true, List, Option, Some, None, Result, Ok, Err}
use Rattle.std.proofs.Common.{inl, inr}
use Rattle.std.specs.Prelude.{IfSome}
use Rattle.cnb_build.specs.Builds.{nothing_built}
use Rattle.cnb_build.specs.Outcome.{AreRunsOf, RunsBuilds, left_by}
use Rattle.cnb_build.specs.Refusals.{of_read_fault}
use Rattle.cnb_build.specs.declared.fault.BuildFault.{BuildFault}
use Rattle.cnb_build.specs.declared.frame.BuildFrame.{BuildFrame}
use Rattle.cnb_build.proofs.OutcomeLaws.{runs_builds}
use Rattle.cnb_env.specs.Base.{base_env}
use Rattle.cnb_env.specs.Files.{platform_files_in}
use Rattle.cnb_env.specs.declared.files.EnvFile.{EnvFile}
use Rattle.cnb_export.specs.Command.{saves_readable_image}
use Rattle.cnb_export.specs.Exports.{exports}
use Rattle.cnb_layers.specs.Refusals as exporting
use Rattle.cnb_layers.specs.declared.frame.ExportFrame.{ExportFrame}
use Rattle.cnb_export.specs.declared.exported.Exported.{Exported}
use Rattle.cnb_layers.specs.declared.fault.ExportFault.{ExportFault}
use Rattle.cnb_restore.specs.declared.restored.Restored.{Restored}
use Rattle.doc_files.specs.declared.fault.ReadFault.{ReadFault}
use Rattle.image_docs.specs.Image.{image_in}
use Rattle.image_docs.specs.declared.analyzed.Analyzed.{Analyzed}
use Rattle.image_files.specs.Images.{writes_readable_image}
use Rattle.image_files.specs.Paths.{image_path}
use Rattle.image_files.specs.Target.{target_of}
use Rattle.run_docs.specs.declared.group.GroupRow.{GroupRow}
use Rattle.run_docs.specs.declared.plan.PlanEntry.{PlanEntry}
use Rattle.cnb_detect.specs.Choice.{Choice}
use Rattle.cnb_detect.specs.Detects.{detects, text_of}
use Rattle.cnb_detect.specs.Documents.{WritesChoice}
use Rattle.cnb_detect.specs.Outcome.{ChoosesFirst, ComesTo}
use Rattle.cnb_detect.specs.Refusals as detection
use Rattle.cnb_detect.specs.declared.refusal.DetectRefusal.{DetectRefusal}
use Rattle.cnb_detect.specs.declared.target.TargetSource.TheVariants.{Given}
use Rattle.cnb_detect.proofs.FirstLaws.{chosen_first, chosen_same}
use Rattle.cnb_detect.proofs.OutcomeLaws.{comes_to}
use Rattle.cnb_detect.proofs.WritingLaws.{choice_written}
use Rattle.cnb_toml.specs.declared.target.Target.{Target}
use Rattle.cnb_words.specs.declared.create.CreateWords.{CreateWords}
use Rattle.cnb_words.specs.declared.choice.ChoiceWords.{ChoiceWords}
use Rattle.cnb_world.specs.Path.{is_path}
use Rattle.cnb_world.specs.Tree.{Tree}
use Rattle.cnb_world.specs.declared.env.Variable.{Variable}
use Rattle.shelf_set.specs.Caches.{WorldAndCaches, in_world as in_cached_world}
use Rattle.steps.specs.Causes.{Cause, ChildFailed, Decided, FileFailed, IsGivenCause, OutOfMemory, WhereDecided}
use Rattle.steps.specs.Outside.{Outside, Seen, SpawnerSeen}
use Rattle.steps.specs.Results.{with_fault}
use Rattle.steps.specs.Steps.{◌>>=◌, Writes, gives, in_world, map_err, reads, writes, yields}
use Rattle.steps.proofs.StepLemmas.{given}
use Rattle.cnb_create.specs.Creates.{build_frame, builds_group, chooses_group, creates, export_frame, exports_image}
use Rattle.cnb_create.specs.Creates.{leaves_image, looks_at_images, restores_layers}
use Rattle.cnb_create.specs.Headline.{BuildsGroup, BuildsNone, ChoosesGroup, ChoosesNone, ComesToImage, DecidesAt}
use Rattle.cnb_create.specs.Headline.{DecidesImage, ExportsNone, IsRefused, LooksInVain, MakesImage, RestoresGroup}
use Rattle.cnb_create.specs.Headline.{RestoresNone, SavesNone, UnlessMemory}
use Rattle.cnb_create.specs.Refusals.{cause_of}
use Rattle.cnb_create.specs.Surroundings.{Surroundings, caches_beside, outside_of, over_caches, over_outside}
use Rattle.cnb_create.specs.Surroundings.{over_world}
use Rattle.cnb_create.specs.declared.refusal.CreateRefusal.{CreateRefusal}
use Rattle.cnb_create.specs.declared.refusal.CreateRefusal.TheVariants.{Build, Detect, Export, Memory, Restore}

-- ---- a refusal of the choice is that of `detect`

as_refused : (target : Target) (words : ChoiceWords) (env : List Variable) (old new : Outside)
    (refusal : DetectRefusal) → chooses_group target words env old (Err refusal) new
    → detects (Given target) words env old (Err refusal) new
unfolding chooses_group detects ◌>>=◌ yields
as_refused target words env old new refusal (inl refused) = inl refused
as_refused target words env old new refusal (inr (c, m, chose, inl refused)) = inr
    (c, m, chose, inr (text_of c, m, given detection.cause_of (Ok (text_of c)) m (text_of c) refl, inl refused))
as_refused target words env old new refusal (inr (c, m, chose, inr (w, m2, wrote, y))) = absurd y

-- ---- the choice was made and written

record ChosenWritten (target : Target) (words : ChoiceWords) (env : List Variable) (old : Outside) (choice : Choice)
    (new : Outside) : Type 0 where
  first : ChoosesFirst (Given target) words env old.world.files old.spawners new.spawners (Ok choice)
  written : WritesChoice words.work choice old.world.files new.world.files
  runs : new.world.runs ≡ old.world.runs

chosen_written : (target : Target) (words : ChoiceWords) (env : List Variable) → is_path words.work ≡ true
    → (old new : Outside) (choice : Choice) → chooses_group target words env old (Ok choice) new
    → ChosenWritten target words env old choice new
unfolding chooses_group in_world yields ◌>>=◌
chosen_written target words env path old new choice (c, m, chose, (w, m2, (wrote, spawners), y)) =
    let made = choice_written words.work c path m.world m2.world (Ok w) wrote in
    let same = chosen_same (Given target) words env old m c chose in
    let last : new.spawners ≡ m.spawners = ap (λ s. s.spawners) y.1 ∙ spawners in
    record {
      first = subst (λ v. ChoosesFirst (Given target) words env old.world.files old.spawners new.spawners (Ok v))
          (sym y.0)
          (subst (λ v. ChoosesFirst (Given target) words env old.world.files old.spawners v (Ok c)) (sym last)
          (chosen_first (Given target) words env old m c chose));
      written = subst (λ v. WritesChoice words.work v old.world.files new.world.files) (sym y.0)
          (subst (λ v. WritesChoice words.work c v new.world.files) same.files
          (subst (λ (s : Outside). WritesChoice words.work c m.world.files s.world.files) (sym y.1) made.both));
      runs = ap (λ s. s.world.runs) y.1 ∙ made.runs ∙ same.runs;
    }

-- ---- of all steps

told_text : (want text made : List ℕ) → (let r : Result (List ℕ) CreateRefusal = Ok want in r) ≡ Ok made
    → text ≡ made → text ≡ want
told_text want text made h e = cc

-- a known answer is never refused but for want of memory
never_given : (cause : Cause) (P : Type 0) → IsGivenCause cause → WhereDecided cause P → (P → ⊥)
    → (cause ≡ OutOfMemory → ⊥) → ⊥
never_given (FileFailed at) P h w never lacks = absurd h
never_given ChildFailed P h w never lacks = absurd h
never_given OutOfMemory P h w never lacks = lacks refl
never_given Decided P h w never lacks = never w

as_wanted : {F E : Type 0} (want made : F) → (let r : Result F E = Ok want in r) ≡ Ok made → made ≡ want
as_wanted want made h = cc

unfaulted : {A : Type 0} (read : Result A ReadFault) (value : A)
    → (let told : Result A BuildFault = with_fault of_read_fault read in told) ≡ Ok value → read ≡ Ok value
unfaulted (Ok given) value h = cc
unfaulted (Err fault) value h = absurd (cc)

-- builds behind calls that left the files
runs_from : (frame : BuildFrame) (plan : List PlanEntry) (group : List GroupRow) (a b c : Seen) (done : Unit {0})
    → b.files ≡ a.files → b.runs ≡ a.runs
    → RunsBuilds frame plan group b (Ok done) c → RunsBuilds frame plan group a (Ok tt) c
runs_from frame plan group a b c done files runs h = record {
  rows = h.rows;
  runs = h.runs ∙ ap (λ rows. rows ++ h.rows) runs;
  are = subst (λ o. AreRunsOf frame (base_env frame.env) group (nothing_built plan) o h.rows) files h.are;
  all = (h.all.0, h.all.1 ∙ ap (λ o. left_by o h.rows) files);
}

files_are : (o : Option Tree) (platform : List ℕ) (files : List EnvFile)
    → IfSome o (λ tree. with_fault of_read_fault (platform_files_in platform tree) ≡ Ok files)
    → IfSome o (λ tree. platform_files_in platform tree ≡ Ok files)
files_are None platform files h = tt
files_are (Some tree) platform files h = unfaulted (platform_files_in platform tree) files h

-- the platform's files were read, and each buildpack of the group was built
record Built (target : Target) (words : CreateWords) (env : List Variable) (choice : Choice) (old new : Seen) : Type 0
  where
    files : List EnvFile
    environment : IfSome old.files (λ tree. platform_files_in words.detect.platform tree ≡ Ok files)
    builds : RunsBuilds (build_frame target words env files) choice.plan choice.group old (Ok tt) new

built_so : (target : Target) (words : CreateWords) (env : List Variable) (choice : Choice) (old new : Seen)
    (done : Unit {0}) → builds_group target words env choice old (Ok done) new → Built target words env choice old new
unfolding builds_group reads gives ◌>>=◌
built_so target words env choice old new done (files, m1, reading, (frame, m2, given, building)) = record {
  files = files;
  environment = files_are old.files words.detect.platform files reading.answer;
  builds = runs_from (build_frame target words env files) choice.plan choice.group old m1 new done reading.same.files
      reading.same.runs
      (subst (λ (s : Seen). RunsBuilds (build_frame target words env files) choice.plan choice.group s
      (Ok done) new) given.0
      (subst (λ (f : BuildFrame). RunsBuilds f choice.plan choice.group m2 (Ok done) new)
      (as_wanted {E = BuildFault} (build_frame target words env files) frame given.1)
      (runs_builds frame choice.plan choice.group m2 new (Ok done) building)));
}

-- the image was made of what the builds left,
exported_so : (words : CreateWords) (analyzed : Analyzed) (group : List GroupRow) (old new : WorldAndCaches)
    (exported : Exported) → exports_image true words analyzed group old (Ok exported) new
    → exports true (export_frame words) group analyzed old (Ok exported) new
unfolding exports_image gives ◌>>=◌
exported_so words analyzed group old new exported (frame, mid, given, making) =
    subst (λ (s : WorldAndCaches). exports true (export_frame words) group analyzed s (Ok exported) new) given.0
    (subst (λ (f : ExportFrame). exports true f group analyzed mid (Ok exported) new)
    (as_wanted {E = ExportFault} (export_frame words) frame given.1) making)

-- or its making was refused
export_refused : (words : CreateWords) (analyzed : Analyzed) (group : List GroupRow) (old new : WorldAndCaches)
    (fault : ExportFault) → exports_image true words analyzed group old (Err fault) new
    → (exporting.cause_of fault ≡ OutOfMemory → ⊥)
    → exports true (export_frame words) group analyzed old (Err fault) new
unfolding exports_image gives ◌>>=◌
export_refused words analyzed group old new fault (inl given) lacks =
    absurd (never_given (exporting.cause_of fault) _ given.2 given.1 (λ e. absurd (cc)) lacks)
export_refused words analyzed group old new fault (inr (frame, mid, given, making)) lacks =
    subst (λ (s : WorldAndCaches). exports true (export_frame words) group analyzed s (Err fault) new) given.0
    (subst (λ (f : ExportFrame). exports true f group analyzed mid (Err fault) new)
    (as_wanted {E = ExportFault} (export_frame words) frame given.1) making)

unless : (cause : Cause) (P : Type 0) → ((cause ≡ OutOfMemory → ⊥) → P) → UnlessMemory cause P
unless (FileFailed path) P h = h (λ e. absurd (cc))
unless ChildFailed P h = h (λ e. absurd (cc))
unless OutOfMemory P h = tt
unless Decided P h = h (λ e. absurd (cc))

unless_so : (cause : Cause) (P Q : Type 0) → (P → Q) → UnlessMemory cause P → UnlessMemory cause Q
unless_so (FileFailed path) P Q f h = f h
unless_so ChildFailed P Q f h = f h
unless_so OutOfMemory P Q f h = tt
unless_so Decided P Q f h = f h

-- ---- the phases that were done

module _ (words : CreateWords) (env : List Variable) (old s1 s2 : Surroundings) (spawners : List SpawnerSeen)
    (analyzed : Analyzed) (choice : Choice) where
  abbrev chosen_of : looks_at_images words old.world (Ok analyzed) s1.world → s1.spawners ≡ old.spawners
      → s1.caches ≡ old.caches
      → ChosenWritten (target_of analyzed) words.detect env (outside_of s1) choice (outside_of s2)
      → s2.caches ≡ s1.caches → spawners ≡ s2.spawners → ChoosesGroup words env old spawners
  chosen_of looked sp1 ca1 w ca2 last = record {
    analyzed = analyzed;
    looked_at = s1.world;
    looked = looked;
    choice = choice;
    chooses = subst (λ v. ChoosesFirst (Given (target_of analyzed)) words.detect env s1.world.files v spawners
        (Ok choice)) sp1
        (subst (λ v. ChoosesFirst (Given (target_of analyzed)) words.detect env s1.world.files s1.spawners v
        (Ok choice)) (sym last) w.first);
    chosen_at = caches_beside s2;
    written = w.written;
    runs = w.runs;
    caches = ca2 ∙ ca1;
  }

module _ (words : CreateWords) (env : List Variable) (old : Surroundings) (spawners : List SpawnerSeen) where
  abbrev restored_of : (chosen : ChoosesGroup words env old spawners) (s3 : Surroundings) (restored : Restored)
      → restores_layers words chosen.analyzed chosen.choice.group chosen.chosen_at (Ok restored) (caches_beside s3)
      → RestoresGroup words env old spawners
  restored_of chosen s3 restored restores = record {
    chosen = chosen;
    restored = restored;
    restored_at = caches_beside s3;
    restores = restores;
  }

  abbrev built_of : (restoring : RestoresGroup words env old spawners) (s4 : Surroundings)
      → Built (target_of restoring.chosen.analyzed) words env restoring.chosen.choice restoring.restored_at.world
      s4.world → s4.caches ≡ restoring.restored_at.caches → BuildsGroup words env old spawners
  built_of restoring s4 b same = record {
    restoring = restoring;
    files = b.files;
    environment = b.environment;
    built_at = caches_beside s4;
    builds = b.builds;
    caches = same;
  }

module _ (words : CreateWords) (env : List Variable) (path : is_path words.detect.work ≡ true) where
  pub makes_image : (old new : Surroundings) (text : List ℕ) → creates words env old (Ok text) new
      → MakesImage words env old text new
  unfolding creates leaves_image over_world over_outside over_caches in_cached_world writes_readable_image map_err gives
      writes yields ◌>>=◌
  makes_image old new text (
    analyzed,
    s1,
    (looked, sp1, ca1),
    (
      choice,
      s2,
      (chose, ca2),
      (
        restored,
        s3,
        (restoring, sp3),
        (
          built,
          s4,
          (building, sp4, ca4),
          (
            (exported, m1, exporting, (line, m2, made, (saved, m3, saving, y))),
            sp5,
          ),
        ),
      ),
    ),
  ) =
      let w = chosen_written (target_of analyzed) words.detect env path (outside_of s1) (outside_of s2) choice chose in
      let b = built_so (target_of analyzed) words env choice s3.world s4.world built building in
      record {
        built = built_of words env old new.spawners (restored_of words env old new.spawners
            (chosen_of words env old s1 s2 new.spawners analyzed choice looked sp1 ca1 w ca2 (sp5 ∙ sp4 ∙ sp3))
            s3 restored restoring) s4 b ca4;
        exported = exported;
        exported_at = m1;
        export_steps = exported_so words analyzed choice.group (caches_beside s4) m1 exported exporting;
        saved = subst (λ (s : WorldAndCaches). Writes (image_path words.store words.image)
            (λ bytes. image_in bytes ≡ Ok exported.image) s.world new.world) made.0
            (subst (λ (s : WorldAndCaches). Writes (image_path words.store words.image)
            (λ bytes. image_in bytes ≡ Ok exported.image) m2.world s.world) (sym y.1) saving.0);
        caches = ap (λ s. s.caches) y.1 ∙ saving.1 ∙ ap (λ s. s.caches) made.0;
        told = told_text _ text line made.1 y.0;
      }

  -- a refusal other than for want of memory
  refused_so : (old new : Surroundings) (refusal : CreateRefusal) → creates words env old (Err refusal) new
      → (cause_of refusal ≡ OutOfMemory → ⊥) → IsRefused words env old refusal new
  unfolding creates leaves_image over_world over_outside over_caches in_cached_world map_err gives yields ◌>>=◌
  refused_so old new refusal (inl ((fault, is, h), sp, ca)) lacks =
      let vain : LooksInVain words old fault new = record { looked = h; spawners = sp; caches = ca } in
      subst (λ r. IsRefused words env old r new) (sym is) (inl vain)
  refused_so old new refusal (inr (analyzed, s1, (looked, sp1, ca1), inl ((fault, is, chose), ca2))) lacks =
      let none : ChoosesNone words env old fault new = record {
        analyzed = analyzed;
        looked_at = s1.world;
        looked = looked;
        comes = subst (λ v. ComesTo (Given (target_of analyzed)) words.detect env
            (record { world = s1.world; spawners = v }) (Err fault) (outside_of new)) sp1
            (comes_to (Given (target_of analyzed)) words.detect env path (outside_of s1) (outside_of new)
            (Err fault) (as_refused (target_of analyzed) words.detect env (outside_of s1) (outside_of new) fault
            chose));
        caches = ca2 ∙ ca1;
      } in
      subst (λ r. IsRefused words env old r new) (sym is) none
  refused_so old new refusal (inr (
    analyzed,
    s1,
    (looked, sp1, ca1),
    inr
        (choice, s2, (chose, ca2), inl ((fault, is, h), sp)),
  )) lacks =
      let w = chosen_written (target_of analyzed) words.detect env path (outside_of s1) (outside_of s2) choice chose in
      let none : RestoresNone words env old fault new = record {
        chosen = chosen_of words env old s1 s2 new.spawners analyzed choice looked sp1 ca1 w ca2 sp;
        refused = h;
      } in
      subst (λ r. IsRefused words env old r new) (sym is) (inr none)
  refused_so old new refusal (inr (
    analyzed,
    s1,
    (looked, sp1, ca1),
    inr
        (choice, s2, (chose, ca2), inr (restored, s3, (restoring, sp3), inl ((fault, is, h), sp, ca))),
  )) lacks =
      let w = chosen_written (target_of analyzed) words.detect env path (outside_of s1) (outside_of s2) choice chose in
      let none : BuildsNone words env old fault new = record {
        restoring = restored_of words env old new.spawners
            (chosen_of words env old s1 s2 new.spawners analyzed choice looked sp1 ca1 w ca2 (sp ∙ sp3))
            s3 restored restoring;
        refused = h;
        caches = ca;
      } in
      subst (λ r. IsRefused words env old r new) (sym is) none
  refused_so old new refusal (inr (
    analyzed,
    s1,
    (looked, sp1, ca1),
    inr (
      choice,
      s2,
      (chose, ca2),
      inr (restored, s3, (restoring, sp3), inr (built, s4, (building, sp4, ca4), (inl (fault, is, h), sp))),
    ),
  )) lacks =
      let w = chosen_written (target_of analyzed) words.detect env path (outside_of s1) (outside_of s2) choice chose in
      let b = built_so (target_of analyzed) words env choice s3.world s4.world built building in
      let none : ExportsNone words env old fault new = record {
        built = built_of words env old new.spawners (restored_of words env old new.spawners
            (chosen_of words env old s1 s2 new.spawners analyzed choice looked sp1 ca1 w ca2 (sp ∙ sp4 ∙ sp3))
            s3 restored restoring) s4 b ca4;
        refused = export_refused words analyzed choice.group (caches_beside s4) (caches_beside new) fault h
            (λ e. lacks (ap cause_of is ∙ e));
      } in
      subst (λ r. IsRefused words env old r new) (sym is) (inl none)
  refused_so old new refusal (inr (
    analyzed,
    s1,
    looked,
    inr (
      choice,
      s2,
      chose,
      inr (
        restored,
        s3,
        restoring,
        inr
            (built, s4, building, (inr (exported, m1, exporting, inl made), sp)),
      ),
    ),
  )) lacks =
      absurd (never_given (cause_of refusal) _ made.2 made.1 (λ e. absurd (cc)) lacks)
  refused_so old new refusal (inr (
    analyzed,
    s1,
    (looked, sp1, ca1),
    inr (
      choice,
      s2,
      (chose, ca2),
      inr (
        restored,
        s3,
        (restoring, sp3),
        inr (
          built,
          s4,
          (building, sp4, ca4),
          (
            inr (exported, m1, exporting, inr (line, m2, made, inl ((fault, is, h), ca))),
            sp,
          ),
        ),
      ),
    ),
  )) lacks =
      let w = chosen_written (target_of analyzed) words.detect env path (outside_of s1) (outside_of s2) choice chose in
      let b = built_so (target_of analyzed) words env choice s3.world s4.world built building in
      let none : SavesNone words env old fault new = record {
        built = built_of words env old new.spawners (restored_of words env old new.spawners
            (chosen_of words env old s1 s2 new.spawners analyzed choice looked sp1 ca1 w ca2 (sp ∙ sp4 ∙ sp3))
            s3 restored restoring) s4 b ca4;
        exported = exported;
        exported_at = m1;
        export_steps = exported_so words analyzed choice.group (caches_beside s4) m1 exported exporting;
        refused = subst (λ (s : WorldAndCaches). saves_readable_image words.store words.image exported.image s.world
            (Err fault) new.world) made.0 h;
        caches = ca ∙ ap (λ s. s.caches) made.0;
      } in
      subst (λ r. IsRefused words env old r new) (sym is) (inr none)
  refused_so old new refusal (inr (
    analyzed,
    s1,
    looked,
    inr (
      choice,
      s2,
      chose,
      inr (
        restored,
        s3,
        restoring,
        inr (
          built,
          s4,
          building,
          (
            inr (exported, m1, exporting, inr (line, m2, made, inr (saved, m3, saving, y))),
            sp,
          ),
        ),
      ),
    ),
  )) lacks = absurd y

  pub comes_to_image : (old new : Surroundings) (result : Result (List ℕ) CreateRefusal)
      → creates words env old result new → ComesToImage words env old result new
  comes_to_image old new (Ok text) did = makes_image old new text did
  comes_to_image old new (Err refusal) did = unless (cause_of refusal) (IsRefused words env old refusal new)
      (refused_so old new refusal did)

-- ---- who was asked, and what was chosen

decides_at : (words : CreateWords) (env : List Variable) (old new : Surroundings) (refusal : CreateRefusal)
    → IsRefused words env old refusal new → DecidesAt words env old refusal new
decides_at words env old new (Detect refusal) h = record {
  analyzed = h.analyzed;
  looked_at = h.looked_at;
  looked = h.looked;
  first = h.comes.first;
}
decides_at words env old new (Restore fault) (inl h) = inl h.spawners
decides_at words env old new (Restore fault) (inr h) = inr h.chosen
decides_at words env old new (Build fault) h = h.restoring.chosen
decides_at words env old new (Export fault) (inl h) = h.built.restoring.chosen
decides_at words env old new (Export fault) (inr h) = h.built.restoring.chosen
decides_at words env old new Memory h = tt

pub decides_image : (words : CreateWords) (env : List Variable) (old new : Surroundings)
    (result : Result (List ℕ) CreateRefusal) → ComesToImage words env old result new
    → DecidesImage words env old result new
decides_image words env old new (Ok text) h = h.built.restoring.chosen
decides_image words env old new (Err refusal) h = unless_so (cause_of refusal) (IsRefused words env old refusal new)
    (DecidesAt words env old refusal new) (decides_at words env old new refusal) h
