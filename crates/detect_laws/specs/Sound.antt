-- A detection that has sound documents, and how it ends.
use Rattle.std.specs.Prelude.{ℕ, ◌≡◌, List, Some, Result, Ok, Err, IsTrue}
use Rattle.bp_docs.specs.Order.{order_in}
use Rattle.bp_docs.specs.declared.descriptor.Descriptor.{Descriptor}
use Rattle.bp_docs.specs.declared.descriptor.Entry.{Entry}
use Rattle.cnb_detect.specs.Detects.{detects}
use Rattle.cnb_detect.specs.Documents.{can_write_choice}
use Rattle.cnb_detect.specs.Outcome.{prepared_in}
use Rattle.cnb_detect.specs.declared.preparation.Prepared.{Prepared}
use Rattle.cnb_detect.specs.declared.refusal.DetectRefusal.{DetectRefusal}
use Rattle.cnb_detect.specs.declared.refusal.DetectRefusal.TheVariants.{File, Memory, Document, Child, Limit}
use Rattle.cnb_detect.specs.declared.refusal.DetectRefusal.TheVariants.{BuildpackApi, Order, NoGroup}
use Rattle.cnb_detect.specs.declared.target.TargetSource.{TargetSource}
use Rattle.cnb_detect.specs.declared.target.TargetSource.TheVariants as target
use Rattle.cnb_env.specs.Files.{platform_env}
use Rattle.cnb_words.specs.declared.choice.ChoiceWords.{ChoiceWords}
use Rattle.cnb_world.specs.Calls.{Rose}
use Rattle.cnb_world.specs.Path.{is_path}
use Rattle.cnb_world.specs.Runs.{Ran}
use Rattle.cnb_world.specs.Tree.{Tree}
use Rattle.cnb_world.specs.declared.env.Variable.{Variable}
use Rattle.detect_core.specs.Answer.{build_plan, says}
use Rattle.image_docs.specs.Analyzed.{analyzed_in}
use Rattle.image_files.specs.Target.{analyzed_document}
use Rattle.order_expand.specs.Groups.{listed_groups}
use Rattle.order_files.specs.Catalog.{catalog_in}
use Rattle.steps.specs.Asking.{AskedBy}
use Rattle.steps.specs.EitherCounts.{EitherRose}
use Rattle.steps.specs.Outside.{Outside, faults_of}
use Rattle.detect_laws.specs.Buildpacks.{AreSoundBuildpacks}
use Rattle.detect_laws.specs.Documents.{IsAbsentOr, IsDocument}
use Rattle.detect_laws.specs.Orders.{IsSoundOrder}
use Rattle.detect_laws.specs.Trials.{ReachesFewTrials}
use Rattle.detect_laws.specs.Variables.{AreSoundVariables}

-- A target is given, or the document that it is read from isn't there, or is valid.
abbrev pub IsSoundTarget : TargetSource → Tree → List ℕ → Type 0
IsSoundTarget target.Document files work = IsAbsentOr analyzed_in files (analyzed_document work) (λ analyzed. Unit {0})
IsSoundTarget (target.Given given) files work = Unit {0}

-- What the files are where a detection reads and writes.
pub record IsSound (source : TargetSource) (options : ChoiceWords) (files : Tree) : Type 0 where
  -- the order file is valid,
  pub order : List (List Entry)
  pub order_file : IsDocument order_in files options.order order
  -- so is each `buildpack.toml`,
  pub buildpacks : AreSoundBuildpacks files options.buildpacks
  -- and the order names buildpacks that are there, within the limits;
  pub entries : (catalog : List Descriptor) → catalog_in options.buildpacks files ≡ Ok catalog
      → IsSoundOrder catalog order
  -- the target's document, where one is needed and there, and the platform's environment files are valid;
  pub target : IsSoundTarget source files options.work
  pub variables : AreSoundVariables files (platform_env options.platform)
  -- and at the two documents of the choice stand files, or nothing, and above them folders.
  pub work : IsTrue (is_path options.work)
  pub writable : IsTrue (can_write_choice options.work files)

-- By these answers, no group that the search reaches has more than 65,536 trials.
abbrev pub HaveFewTrials : Prepared → List Ran → Type 0
HaveFewTrials prepared answers = ReachesFewTrials (says prepared.frame.target build_plan answers)
    (listed_groups prepared.catalog prepared.order)

-- A detection that has sound files, which are told, and children whose Build Plans keep to the limit of trials.
pub record DetectsSoundly (source : TargetSource) (options : ChoiceWords) (env : List Variable) (files : Tree)
    (old : Outside) (end : Result (List ℕ) DetectRefusal) (new : Outside) : Type 0 where
  pub sound : IsSound source options files
  pub told : old.world.files ≡ Some files
  pub trials : (prepared : Prepared) (answers : List Ran) → prepared_in source options env files ≡ Ok prepared
      → AskedBy answers old.spawners new.spawners → HaveFewTrials prepared answers
  pub steps : detects source options env old end new

-- It is done, or no group passes, or memory ran out, or a call on a file or a child failed, and this was counted. There
-- is no other end.
abbrev pub EndsSoundly : Outside → Result (List ℕ) DetectRefusal → Outside → Type 0
EndsSoundly old (Ok text) new = Unit {0}
EndsSoundly old (Err (NoGroup erred)) new = Unit {0}
EndsSoundly old (Err Memory) new = Unit {0}
EndsSoundly old (Err (File path)) new = Rose old.world.file_faults new.world.file_faults
EndsSoundly old (Err Child) new = EitherRose old.world.child_faults new.world.child_faults
    (faults_of old.spawners) (faults_of new.spawners)
EndsSoundly old (Err (Document path fault)) new = ⊥
EndsSoundly old (Err (Limit kind)) new = ⊥
EndsSoundly old (Err (BuildpackApi text)) new = ⊥
EndsSoundly old (Err (Order id ambiguous)) new = ⊥

-- Such a detection ends so, and makes no call on a path of the wrong kind: a call that fails is one that could have
-- been answered.
abbrev pub SoundDetectionsEnd : Type 0
SoundDetectionsEnd = (source : TargetSource) (options : ChoiceWords) (env : List Variable) (files : Tree)
    (old : Outside) (end : Result (List ℕ) DetectRefusal) (new : Outside)
    → DetectsSoundly source options env files old end new
    → EndsSoundly old end new × (new.world.misused ≡ old.world.misused)

-- No call on a file or a child failed.
pub record IsFaultless (old new : Outside) : Type 0 where
  pub files : Rose old.world.file_faults new.world.file_faults → ⊥
  pub children : EitherRose old.world.child_faults new.world.child_faults (faults_of old.spawners)
      (faults_of new.spawners) → ⊥

-- It is done, or no group passes: these are the statuses 0, 20 and 21. Or memory ran out.
abbrev pub EndsWell : Result (List ℕ) DetectRefusal → Type 0
EndsWell (Ok text) = Unit {0}
EndsWell (Err (NoGroup erred)) = Unit {0}
EndsWell (Err Memory) = Unit {0}
EndsWell (Err (File path)) = ⊥
EndsWell (Err Child) = ⊥
EndsWell (Err (Document path fault)) = ⊥
EndsWell (Err (Limit kind)) = ⊥
EndsWell (Err (BuildpackApi text)) = ⊥
EndsWell (Err (Order id ambiguous)) = ⊥

-- Where no call fails besides, such a detection ends with one of these statuses.
abbrev pub FaultlessDetectionsEnd : Type 0
FaultlessDetectionsEnd = (source : TargetSource) (options : ChoiceWords) (env : List Variable) (files : Tree)
    (old : Outside) (end : Result (List ℕ) DetectRefusal) (new : Outside)
    → DetectsSoundly source options env files old end new → IsFaultless old new → EndsWell end
