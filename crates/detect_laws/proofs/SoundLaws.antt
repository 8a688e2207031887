-- A detection with sound documents is prepared, and ends soundly.
use Rattle.std.proofs.Common.{◌≡◌, ◌∙◌, refl, sym, ap, subst, ℕ, Bool, true, ◌&&◌, List, Option, Some, None, Result, Ok}
use Rattle.std.proofs.Common.{Err}
use Rattle.std.specs.Prelude.{IfSome}
use Rattle.std.specs.Option.{option_map}
use Rattle.bp_docs.specs.Order.{order_in}
use Rattle.bp_docs.specs.declared.descriptor.Descriptor.{Descriptor}
use Rattle.bp_docs.specs.declared.descriptor.Entry.{Entry}
use Rattle.cnb_detect.proofs.CountLaws.{detect_counts}
use Rattle.cnb_detect.proofs.OutcomeLaws.{comes_to}
use Rattle.cnb_detect.specs.Choice.{Choice, choice_by, choice_of}
use Rattle.cnb_detect.specs.Detects.{is_fit_detect}
use Rattle.cnb_detect.specs.Documents.{can_write_choice}
use Rattle.cnb_detect.specs.Outcome.{ComesTo, detect_choice, outcome_of, prepared_in}
use Rattle.cnb_detect.specs.Preparation.{frame_of}
use Rattle.cnb_detect.specs.Refusals.{cause_of, of_order_fault, of_read_fault}
use Rattle.cnb_detect.specs.Target.{is_fit_source, target_in}
use Rattle.cnb_detect.specs.declared.preparation.Prepared.{Prepared}
use Rattle.cnb_detect.specs.declared.refusal.DetectRefusal.{DetectRefusal}
use Rattle.cnb_detect.specs.declared.refusal.DetectRefusal.TheVariants.{File, Memory, Document, Child, Limit}
use Rattle.cnb_detect.specs.declared.refusal.DetectRefusal.TheVariants.{BuildpackApi, Order, NoGroup}
use Rattle.cnb_detect.specs.declared.target.TargetSource.{TargetSource}
use Rattle.cnb_detect.specs.declared.target.TargetSource.TheVariants as target
use Rattle.cnb_env.specs.Files.{is_fit_platform, platform_files_in}
use Rattle.cnb_env.specs.declared.files.EnvFile.{EnvFile}
use Rattle.cnb_toml.specs.declared.target.Target.{Target}
use Rattle.cnb_words.specs.declared.choice.ChoiceWords.{ChoiceWords}
use Rattle.cnb_world.specs.Calls.{MayMisuse}
use Rattle.cnb_world.specs.Runs.{Ran}
use Rattle.cnb_world.specs.Tree.{Tree}
use Rattle.cnb_world.specs.declared.env.Variable.{Variable}
use Rattle.detect_core.specs.Answer.{build_plan, says}
use Rattle.detect_core.specs.Detection.{Ending, FirstTrial, TooManyTrials, first_trial, has_erred}
use Rattle.doc_files.specs.declared.fault.ReadFault.{ReadFault}
use Rattle.image_docs.specs.Analyzed.{analyzed_in}
use Rattle.image_files.specs.Target.{analyzed_document}
use Rattle.order_expand.specs.Check.{checked}
use Rattle.order_expand.specs.Groups.{listed_groups}
use Rattle.order_expand.specs.declared.order.OrderFault.{OrderFault}
use Rattle.order_files.specs.Catalog.{catalog_in, is_fit_catalog}
use Rattle.order_files.specs.OrderFile.{is_fit_order_file}
use Rattle.steps.specs.Asking.{AskedBy}
use Rattle.steps.specs.Causes.{IsAnswer, ended_by}
use Rattle.steps.specs.EitherCounts.{OutsideCounts}
use Rattle.steps.specs.Outside.{Outside}
use Rattle.steps.specs.Results.{and_then, with_fault}
use Rattle.detect_laws.specs.Sound.{EndsSoundly, EndsWell, FaultlessDetectionsEnd, HaveFewTrials, IsFaultless, IsSound}
use Rattle.detect_laws.specs.Sound.{IsSoundTarget, SoundDetectionsEnd}
use Rattle.detect_laws.proofs.BuildpackLemmas.{catalog_fits, catalog_read}
use Rattle.detect_laws.proofs.DocumentLemmas.{document_fits, optional_fits}
use Rattle.detect_laws.proofs.OrderLemmas.{order_checked, order_read}
use Rattle.detect_laws.proofs.TargetLemmas.{target_read}
use Rattle.detect_laws.proofs.TrialLemmas.{never_too_many}
use Rattle.detect_laws.proofs.VariableLemmas.{variables_fit, variables_read}

target_there : (source : TargetSource) (files : Tree) (work : List ℕ) → IsSoundTarget source files work
    → (known : Option Target) × (target_in source work files ≡ Ok known)
target_there target.Document files work h =
    let found = target_read files work h in (found.0, ap (with_fault of_read_fault) found.1)
target_there (target.Given given) files work h = (Some given, refl)

target_fits : (source : TargetSource) (files : Tree) (work : List ℕ) → IsSoundTarget source files work
    → is_fit_source source work files ≡ true
target_fits target.Document files work h = optional_fits files (analyzed_document work) analyzed_in
    (λ analyzed. Unit {0}) h
target_fits (target.Given given) files work h = refl

all_fit : (a b c d e : Bool) → a ≡ true → b ≡ true → c ≡ true → d ≡ true → e ≡ true
    → ((a && b && c && d) && e) ≡ true
all_fit a b c d e p q r s t = rw (p, q, r, s, t) refl

-- without too many trials there is a choice, or no group passes
only_no_group : (erred : Bool) (ending : Option Ending) (refusal : DetectRefusal)
    → ((at : ℕ) → ending ≡ Some (TooManyTrials at) → ⊥) → choice_by erred ending ≡ Err refusal
    → (told : Bool) × (refusal ≡ NoGroup told)
only_no_group erred (Some (FirstTrial place resolved kept)) refusal never e = absurd (cc)
only_no_group erred (Some (TooManyTrials place)) refusal never e = absurd (never place refl)
only_no_group erred None refusal never e = (erred, cc)

refused_so : (prepared : Prepared) (answers : List Ran) (refusal : DetectRefusal) → HaveFewTrials prepared answers
    → choice_of prepared answers ≡ Err refusal → (told : Bool) × (refusal ≡ NoGroup told)
unfolding choice_of first_trial
refused_so prepared answers refusal few e =
    let said = says prepared.frame.target build_plan answers in
    only_no_group (has_erred prepared.frame.target said prepared.catalog prepared.order)
    (first_trial said prepared.catalog prepared.order) refusal
    (λ at. never_too_many said 0 at (listed_groups prepared.catalog prepared.order) few) e

choice_refused : (choice : Result Choice DetectRefusal) (refusal : DetectRefusal) → outcome_of choice ≡ Err refusal
    → choice ≡ Err refusal
choice_refused (Ok choice) refusal e = absurd (cc)
choice_refused (Err other) refusal e = let same : other ≡ refusal = cc in ap Err same

module _ (source : TargetSource) (options : ChoiceWords) (env : List Variable) (files : Tree)
    (sound : IsSound source options files) where
  -- what follows each document that is read
  abbrev after_variables : List (List Entry) → List Descriptor → Option Target → Result (List EnvFile) ReadFault
      → Result Prepared DetectRefusal
  after_variables order catalog target read = and_then (with_fault of_read_fault read)
      (λ variables. Ok (record { order = order; catalog = catalog; frame = frame_of options env target variables }))

  abbrev after_target : List (List Entry) → List Descriptor → Result (Option Target) DetectRefusal
      → Result Prepared DetectRefusal
  after_target order catalog read = and_then read
      (λ target. after_variables order catalog target (platform_files_in options.platform files))

  abbrev after_check : List (List Entry) → List Descriptor → Result ℕ OrderFault → Result Prepared DetectRefusal
  after_check order catalog read = and_then (with_fault of_order_fault read)
      (λ groups. after_target order catalog (target_in source options.work files))

  abbrev after_catalog : List (List Entry) → Result (List Descriptor) ReadFault → Result Prepared DetectRefusal
  after_catalog order read = and_then (with_fault of_read_fault read)
      (λ catalog. after_check order catalog (checked catalog order))

  abbrev after_order : Result (List (List Entry)) ReadFault → Result Prepared DetectRefusal
  after_order read = and_then (with_fault of_read_fault read)
      (λ order. after_catalog order (catalog_in options.buildpacks files))

  -- all of it is there, and nothing is refused
  prepared_there : (prepared : Prepared) × (prepared_in source options env files ≡ Ok prepared)
  prepared_there =
      let catalog = catalog_read files options.buildpacks sound.buildpacks in
      let known = target_there source files options.work sound.target in
      let variables = variables_read files options.platform sound.variables in (
        record {
          order = sound.order;
          catalog = catalog.0;
          frame = frame_of options env known.0 variables.0;
        },
        ap after_order (order_read files options.order sound.order sound.order_file)
            ∙ ap (after_catalog sound.order) catalog.1
            ∙ ap (after_check sound.order catalog.0)
            (order_checked catalog.0 sound.order (sound.entries catalog.0 catalog.1))
            ∙ ap (after_target sound.order catalog.0) known.1
            ∙ ap (after_variables sound.order catalog.0 known.0) variables.1,
      )

  -- what is read and written is of the right kind
  fits : is_fit_detect source options files ≡ true
  fits = all_fit (is_fit_order_file options.order files) (is_fit_catalog options.buildpacks files)
      (is_fit_source source options.work files) (is_fit_platform options.platform files)
      (can_write_choice options.work files)
      (document_fits files options.order order_in sound.order sound.order_file)
      (catalog_fits files options.buildpacks sound.buildpacks)
      (target_fits source files options.work sound.target)
      (variables_fit files options.platform sound.variables) sound.writable

  -- where what was read or answered decides, only a want of a group is left
  decided : (prepared : Prepared) (answers : List Ran) (refusal : DetectRefusal)
      → prepared_in source options env files ≡ Ok prepared → HaveFewTrials prepared answers
      → outcome_of (detect_choice source options env answers files) ≡ Err refusal
      → (told : Bool) × (refusal ≡ NoGroup told)
  unfolding detect_choice
  decided prepared answers refusal read few e = refused_so prepared answers refusal few
      (choice_refused (choice_of prepared answers) refusal
      (sym (ap (λ p. outcome_of (and_then p (λ q. choice_of q answers))) read) ∙ e))

  ends : (prepared : Prepared) (answers : List Ran) (old new : Outside) (end : Result (List ℕ) DetectRefusal)
      → prepared_in source options env files ≡ Ok prepared → HaveFewTrials prepared answers
      → IsAnswer cause_of end (outcome_of (detect_choice source options env answers files))
      → OutsideCounts (ended_by cause_of end) old new → EndsSoundly old end new
  ends prepared answers old new (Ok text) read few answer counts = tt
  ends prepared answers old new (Err (NoGroup erred)) read few answer counts = tt
  ends prepared answers old new (Err Memory) read few answer counts = tt
  ends prepared answers old new (Err (File path)) read few answer counts = counts.files
  ends prepared answers old new (Err Child) read few answer counts = counts.children
  ends prepared answers old new (Err (Document path fault)) read few answer counts =
      let so = decided prepared answers (Document path fault) read few answer in
      let e : Document path fault ≡ NoGroup so.0 = so.1 in absurd (cc)
  ends prepared answers old new (Err (Limit kind)) read few answer counts =
      let so = decided prepared answers (Limit kind) read few answer in
      let e : Limit kind ≡ NoGroup so.0 = so.1 in absurd (cc)
  ends prepared answers old new (Err (BuildpackApi text)) read few answer counts =
      let so = decided prepared answers (BuildpackApi text) read few answer in
      let e : BuildpackApi text ≡ NoGroup so.0 = so.1 in absurd (cc)
  ends prepared answers old new (Err (Order id ambiguous)) read few answer counts =
      let so = decided prepared answers (Order id ambiguous) read few answer in
      let e : Order id ambiguous ≡ NoGroup so.0 = so.1 in absurd (cc)

  -- it ends so by what it comes to, and by what its steps do to the counts
  pub ends_by : (old new : Outside) (end : Result (List ℕ) DetectRefusal) → old.world.files ≡ Some files
      → ((prepared : Prepared) (answers : List Ran) → prepared_in source options env files ≡ Ok prepared
      → AskedBy answers old.spawners new.spawners → HaveFewTrials prepared answers)
      → ComesTo source options env old end new → OutsideCounts (ended_by cause_of end) old new
      → EndsSoundly old end new
  ends_by old new end told few comes counts =
      let there = prepared_there in
      let answer : IfSome (Some files) (λ tree. IsAnswer cause_of end
      (outcome_of (detect_choice source options env comes.answers tree))) = subst
      (λ v. IfSome v (λ tree. IsAnswer cause_of end (outcome_of (detect_choice source options env comes.answers tree))))
      told comes.comes in
      ends there.0 comes.answers old new end there.1 (few there.0 comes.answers there.1 comes.asked) answer counts

  -- and makes no call on a path of the wrong kind
  kept_right : (old new : Outside) (end : Result (List ℕ) DetectRefusal) → old.world.files ≡ Some files
      → ComesTo source options env old end new → new.world.misused ≡ old.world.misused
  kept_right old new end told comes = subst (λ v. MayMisuse v old.world.misused new.world.misused)
      (ap (option_map (is_fit_detect source options)) told ∙ ap Some fits) comes.misused

pub sound_detections_end : SoundDetectionsEnd
sound_detections_end source options env files old end new h =
    let comes = comes_to source options env h.sound.work old new end h.steps in (
      ends_by source options env files h.sound old new end h.told h.trials comes
          (detect_counts source options env old new end h.steps),
      kept_right source options env files h.sound old new end h.told comes,
    )

pub ends_well : (old new : Outside) (end : Result (List ℕ) DetectRefusal) → IsFaultless old new
    → EndsSoundly old end new
    → EndsWell end
ends_well old new (Ok text) faultless h = tt
ends_well old new (Err (NoGroup erred)) faultless h = tt
ends_well old new (Err Memory) faultless h = tt
ends_well old new (Err (File path)) faultless h = faultless.files h
ends_well old new (Err Child) faultless h = faultless.children h
ends_well old new (Err refusal) faultless h = h

pub faultless_detections_end : FaultlessDetectionsEnd
faultless_detections_end source options env files old end new h faultless = ends_well old new end faultless
    (sound_detections_end source options env files old end new h).0
