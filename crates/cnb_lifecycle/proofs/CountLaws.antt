-- What each command does to all counts, by what ended it.
use Rattle.std.proofs.Common.{◌≡◌, ◌∙◌, sym, ap, subst, ℕ, List, Option, Some, None, Result, Ok, Err}
use Rattle.cnb_build.proofs.CountLaws.{build_counts}
use Rattle.cnb_build.specs.Refusals as building
use Rattle.cnb_create.proofs.CountLaws.{create_counts, every_count, every_link, every_rest, obeys_caches, obeys_outside}
use Rattle.cnb_create.proofs.CountLaws.{obeys_world}
use Rattle.cnb_create.specs.Refusals as creating
use Rattle.cnb_create.specs.Surroundings.{Surroundings, outside_of, surroundings}
use Rattle.cnb_detect.proofs.CountLaws.{detect_counts}
use Rattle.cnb_record.proofs.CountLaws.{check_counts}
use Rattle.cnb_record.proofs.RecordCounts.{detect_recorded_counts}
use Rattle.cnb_record.specs.Refusals as checking
use Rattle.cnb_detect.specs.declared.target.TargetSource.TheVariants as target
use Rattle.cnb_detect.specs.Refusals as detection
use Rattle.cnb_export.proofs.CountLaws.{export_counts}
use Rattle.cnb_export.specs.Given as exporting
use Rattle.cnb_launch.proofs.CountLaws.{launch_counts, unpack_counts}
use Rattle.cnb_launch.specs.Faults as launching
use Rattle.cnb_rebase.proofs.CountLaws.{base_counts, rebase_counts, show_counts}
use Rattle.cnb_rebase.specs.Refusals as rebasing
use Rattle.cnb_restore.proofs.CountLaws.{analyze_counts, restore_counts}
use Rattle.cnb_restore.specs.Commands as restore_command
use Rattle.cnb_restore.specs.Faults as restoring
use Rattle.cnb_words.specs.declared.choice.ChoiceWords.{ChoiceWords}
use Rattle.cnb_words.specs.declared.words.Asked.{Asked}
use Rattle.cnb_words.specs.declared.words.Asked.TheVariants.{Detect, Analyze, Restore, Build, Export, Create, Rebase}
use Rattle.cnb_words.specs.declared.words.Asked.TheVariants.{Base, Unpack, Show, Prune, Verify, Check, Drill, Launch}
use Rattle.cnb_world.specs.declared.env.Variable.{Variable}
use Rattle.image_files.specs.Faults as image_files
use Rattle.shelf_set.proofs.CountLaws.{BesideCaches}
use Rattle.shelf_set.specs.Caches.{caches_of}
use Rattle.shelf_set.specs.ShelfState.{ShelfState}
use Rattle.steps.specs.Causes.{Cause, ended_by}
use Rattle.store_prune.proofs.CountLaws.{prune_counts, verify_counts}
use Rattle.store_prune.specs.Faults as store_prune
use Rattle.steps.specs.Counts.{AllCounts, FileCounts}
use Rattle.steps.specs.EitherCounts.{OutsideCounts}
use Rattle.steps.specs.Outside.{Outside}
use Rattle.steps.specs.Steps.{gives}
use Rattle.steps.proofs.EndLaws.{Obeys, Relation, files_among, obeys_bind, obeys_gives}
use Rattle.cnb_lifecycle.specs.Commands.{On, after_words, asked_of, does, refusal_of}
use Rattle.cnb_lifecycle.specs.Detecting.{detects_into}
use Rattle.cnb_lifecycle.specs.Ends.{Ends}
use Rattle.cnb_lifecycle.specs.Faults.{cause_of, of_detect}
use Rattle.cnb_lifecycle.specs.PhaseFaults.{of_base, of_build, of_check, of_create, of_export, of_image, of_launch}
use Rattle.cnb_lifecycle.specs.PhaseFaults.{of_prune, of_rebase, of_restore, of_restore_refusal, of_verify}
use Rattle.cnb_lifecycle.specs.Printing.{Finishes}
use Rattle.cnb_lifecycle.specs.Telling.{tells}
use Rattle.cnb_lifecycle.specs.declared.answer.Answer.{Answer}
use Rattle.cnb_lifecycle.specs.declared.answer.Answer.TheVariants.{Printed, Launched}
use Rattle.cnb_lifecycle.specs.declared.refusal.Refusal.{Refusal}
use Rattle.cnb_lifecycle.specs.declared.status.Status.{Status}
use Rattle.cnb_lifecycle.proofs.CauseLemmas.{same_cause}
use Rattle.cnb_lifecycle.proofs.EndLemmas.{Did, Step, ends}
use Rattle.cnb_lifecycle.proofs.PhaseLemmas.{base_cause, build_cause, check_cause, create_cause, image_cause}
use Rattle.cnb_lifecycle.proofs.PhaseLemmas.{launch_cause, prune_cause, rebase_cause, refused_export, refused_restore}
use Rattle.cnb_lifecycle.proofs.PhaseLemmas.{restore_cause, verify_cause}

-- steps that are told as those of a command, with the same causes
obeys_tells : {S A F : Type 0} (R : Relation S) (cause : F → Cause) (answer : A → Answer) (refusal : F → Refusal)
    (step : S → Result A F → S → Type 0)
    → ((fault : F) → cause_of (refusal fault) ≡ cause fault) → Obeys R cause step
    → Obeys R cause_of (tells answer refusal step)
unfolding tells
obeys_tells R cause answer refusal step same p old new (Ok told) (value, is, h) = p old new (Ok value) h
obeys_tells R cause answer refusal step same p old new (Err told) (fault, is, h) =
    subst (λ (c : Cause). R (Some c) old new) (sym (ap cause_of is ∙ same fault)) (p old new (Err fault) h)

detect_words_counts : (path : Option (List ℕ)) (choice : ChoiceWords) (env : List Variable)
    → Obeys OutsideCounts detection.cause_of (detects_into path choice env)
detect_words_counts None choice env = detect_counts target.Document choice env
detect_words_counts (Some path) choice env = detect_recorded_counts target.Document choice path env

does_counts : (asked : Asked) (env : List Variable) → Obeys every_count cause_of (does asked env)
does_counts (Detect options) env = obeys_outside cause_of _
    (obeys_tells OutsideCounts detection.cause_of Printed of_detect _ same_cause
    (detect_words_counts options.proof_path options.choice env))
does_counts (Analyze options) env = obeys_world cause_of _
    (files_among cause_of _ (obeys_tells FileCounts restoring.cause_of Printed of_restore _ restore_cause
    (analyze_counts options)))
does_counts (Restore options) env = obeys_caches cause_of _
    (obeys_tells (BesideCaches FileCounts) restore_command.refusal_cause Printed of_restore_refusal _
    refused_restore (restore_counts options))
does_counts (Build options) env = obeys_world cause_of _
    (obeys_tells AllCounts building.cause_of Printed of_build _ build_cause (build_counts options env))
does_counts (Export options) env = obeys_caches cause_of _
    (obeys_tells (BesideCaches FileCounts) exporting.refusal_cause Printed of_export _ refused_export
    (export_counts options))
does_counts (Create options) env = obeys_tells every_count creating.cause_of Printed of_create _ create_cause
    (create_counts options env)
does_counts (Rebase options) env = obeys_world cause_of _
    (files_among cause_of _ (obeys_tells FileCounts rebasing.cause_of Printed of_rebase _ rebase_cause
    (rebase_counts options)))
does_counts (Base options) env = obeys_world cause_of _
    (files_among cause_of _ (obeys_tells FileCounts rebasing.base_cause Printed of_base _ base_cause
    (base_counts options)))
does_counts (Unpack options) env = obeys_world cause_of _
    (files_among cause_of _ (obeys_tells FileCounts launching.cause_of Printed of_launch _ launch_cause
    (unpack_counts options)))
does_counts (Show options) env = obeys_world cause_of _
    (files_among cause_of _ (obeys_tells FileCounts image_files.cause_of Printed of_image _ image_cause
    (show_counts options)))
does_counts (Prune options) env = obeys_world cause_of _
    (files_among cause_of _ (obeys_tells FileCounts store_prune.cause_of Printed of_prune _ prune_cause
    (prune_counts options)))
does_counts (Verify options) env = obeys_world cause_of _
    (files_among cause_of _ (obeys_tells FileCounts store_prune.verify_cause Printed of_verify _ verify_cause
    (verify_counts options)))
does_counts (Check options) env = obeys_world cause_of _
    (files_among cause_of _ (obeys_tells FileCounts checking.cause_of Printed of_check _ check_cause
    (check_counts options)))
does_counts (Drill options) env = obeys_gives _ _ _ every_rest
does_counts (Launch options) env = obeys_world cause_of _
    (obeys_tells AllCounts launching.cause_of Launched of_launch _ launch_cause (launch_counts options env))

-- what the words ask for, or their refusal, says what it does to the counts
pub words_count : (asked : Result Asked Refusal) (env : List Variable) (old : Surroundings)
    (end : Result Answer Refusal) (outside : Outside) (shelves : List ShelfState) (all : List ℕ)
    → On (refusal_of asked) (λ refusal. gives {A = Answer} cause_of (Err refusal) old end
    (surroundings outside (caches_of shelves all)))
    → On (asked_of asked) (λ command. Did (after_words (does command env)) old end outside shelves)
    → OutsideCounts (ended_by cause_of end) (outside_of old) outside
words_count (Ok command) env old end outside shelves all refused (standing, did) =
    let k = obeys_bind every_count cause_of (gives {A = Unit {0}} cause_of (Ok tt))
    (λ read. does command env) every_link (obeys_gives _ _ _ every_rest) (λ read. does_counts command env) old
    (surroundings outside (caches_of shelves standing)) end did in
    record { files = k.files; children = k.children }
words_count (Err refusal) env old end outside shelves all refused did =
    let k = obeys_gives {A = Answer} every_count cause_of (Err refusal) every_rest old
    (surroundings outside (caches_of shelves all)) end refused in
    record { files = k.files; children = k.children }

-- the end of what was asked for, or of its refusal
pub ends_counted : {A : Type 0} (o : Option A) (steps : A → Step) (asked : Result Asked Refusal)
    (env : List Variable) (old : Surroundings) (outside : Outside) (shelves : List ShelfState) (all : List ℕ)
    (end : Result Answer Refusal)
    (status : Status) (taken_old taken_new : Option (List ℕ)) → On o (λ a. Did (steps a) old end outside shelves)
    → On (refusal_of asked) (λ refusal. gives {A = Answer} cause_of (Err refusal) old end
    (surroundings outside (caches_of shelves all)))
    → On (asked_of asked) (λ command. Did (after_words (does command env)) old end outside shelves)
    → Finishes end status taken_old taken_new
    → On o (λ a. Ends (steps a) old outside shelves status taken_old taken_new)
ends_counted o steps asked env old outside shelves all end status taken_old taken_new did refused does_it finishes =
    let k = words_count asked env old end outside shelves all refused does_it in
    ends o steps old outside shelves end status taken_old taken_new did k.files k.children finishes
