-- What `detect` comes to, as a function of its options, the environment, the files and what the children answered.
use Rattle.std.specs.Prelude.{ℕ, ◌≡◌, ◌⊎◌, true, List, map, Option, Some, Result, Ok, Err, IfSome}
use Rattle.std.specs.Option.{option_map}
use Rattle.cnb_world.specs.Calls.{MayMisuse}
use Rattle.cnb_world.specs.declared.env.Variable.{Variable}
use Rattle.cnb_world.specs.Runs.{Ran}
use Rattle.cnb_world.specs.Tree.{Tree}
use Rattle.cnb_toml.specs.declared.target.Target.{Target}
use Rattle.cnb_words.specs.declared.choice.ChoiceWords.{ChoiceWords}
use Rattle.order_files.specs.Catalog.{catalog_in}
use Rattle.order_files.specs.OrderFile.{order_file_in}
use Rattle.cnb_env.specs.Files.{platform_files_in}
use Rattle.cnb_env.specs.declared.files.EnvFile.{EnvFile}
use Rattle.order_expand.specs.Check.{checked}
use Rattle.detect_core.specs.Answer.{build_plan, says}
use Rattle.run_docs.specs.Group.{group_in}
use Rattle.run_docs.specs.Plan.{plan_in}
use Rattle.steps.specs.Asking.{AskedBy}
use Rattle.steps.specs.Causes.{IsAnswer}
use Rattle.steps.specs.Keeping.{IsOldOrNew, is_free, standing, touched}
use Rattle.steps.specs.Outside.{Outside, SpawnerSeen}
use Rattle.steps.specs.Results.{◌>>=◌, with_fault}
use Rattle.cnb_detect.specs.declared.preparation.Prepared.{Prepared}
use Rattle.cnb_detect.specs.declared.refusal.DetectRefusal.{DetectRefusal}
use Rattle.cnb_detect.specs.declared.refusal.DetectRefusal.TheVariants.{File, Memory, Document, Child, Limit}
use Rattle.cnb_detect.specs.declared.refusal.DetectRefusal.TheVariants.{BuildpackApi, Order, NoGroup}
use Rattle.cnb_detect.specs.declared.target.TargetSource.{TargetSource}
use Rattle.cnb_detect.specs.declared.target.TargetSource.TheVariants as target
use Rattle.cnb_detect.specs.Choice.{Choice, choice_of, jobs_of}
use Rattle.cnb_detect.specs.Detects.{is_fit_detect, text_of}
use Rattle.cnb_detect.specs.Documents.{WritesChoice, group_document, plan_document}
use Rattle.cnb_detect.specs.Preparation.{frame_of}
use Rattle.cnb_detect.specs.Refusals.{cause_of, of_read_fault, of_order_fault}
use Rattle.cnb_detect.specs.Target.{target_in}

-- the order, the buildpacks, the check of the order, the target, the platform's files: the first refusal decides
abbrev pub prepared_in : TargetSource → ChoiceWords → List Variable → Tree → Result Prepared DetectRefusal
prepared_in source options env files = do
  order ← with_fault of_read_fault (order_file_in options.order files)
  catalog ← with_fault of_read_fault (catalog_in options.buildpacks files)
  groups ← with_fault of_order_fault (checked catalog order)
  target ← target_in source options.work files
  variables ← with_fault of_read_fault (platform_files_in options.platform files)
  Ok (record { order = order; catalog = catalog; frame = frame_of options env target variables })

-- the choice
unfoldable pub detect_choice : TargetSource → ChoiceWords → List Variable → List Ran → Tree
    → Result Choice DetectRefusal
detect_choice source options env answers files = prepared_in source options env files
    >>= (λ prepared. choice_of prepared answers)

-- its text
abbrev pub outcome_of : Result Choice DetectRefusal → Result (List ℕ) DetectRefusal
outcome_of choice = choice >>= (λ c. Ok (text_of c))

-- there is a choice, and it is such
abbrev pub IsChoiceWith : Result Choice DetectRefusal → (Choice → Type 0) → Type 0
IsChoiceWith (Ok choice) P = P choice
IsChoiceWith (Err refusal) P = ⊥

-- a refusal leaves all files, unless a call failed or memory ran out
abbrev pub KeepsFiles : Result (List ℕ) DetectRefusal → Option Tree → Option Tree → Type 0
KeepsFiles (Ok text) old new = Unit {0}
KeepsFiles (Err (File path)) old new = Unit {0}
KeepsFiles (Err Memory) old new = Unit {0}
KeepsFiles (Err refusal) old new = new ≡ old

-- where it did its work, both documents stand
abbrev pub WritesBoth : Result (List ℕ) DetectRefusal → List ℕ → (Choice → Type 0) → Option Tree → Option Tree → Type 0
WritesBoth (Err refusal) work IsChosen old new = Unit {0}
WritesBoth (Ok text) work IsChosen old new = (choice : Choice) × IsChosen choice × WritesChoice work choice old new

-- the children get the target that is given, where one is
abbrev pub IsTargetOf : TargetSource → Option Target → Type 0
IsTargetOf target.Document known = Unit {0}
IsTargetOf (target.Given given) known = known ≡ Some given

-- what was prepared is for these options and this environment
pub record IsPreparedFor (source : TargetSource) (options : ChoiceWords) (env : List Variable) (prepared : Prepared)
    : Type 0 where
  pub target : Option Target
  pub variables : List EnvFile
  pub frame : prepared.frame ≡ frame_of options env target variables
  pub given : IsTargetOf source target

-- Whatever the children reply, by however many workers: exactly those are asked that have to be, each once, and the
-- first trial that passes decides.
pub record ChoosesFirst (source : TargetSource) (options : ChoiceWords) (env : List Variable) (files : Option Tree)
    (old new : List SpawnerSeen) (end : Result Choice DetectRefusal) : Type 0 where
  -- what the files say of the order, the buildpacks, the target and the environment,
  pub prepared : Prepared
  pub made_for : IsPreparedFor source options env prepared
  pub read : IfSome files (λ tree. prepared_in source options env tree ≡ Ok prepared)
  -- and the children that the spawners ran, with their answers,
  pub answers : List Ran
  pub asked : AskedBy answers old new
  -- say which children have to be asked: these, each once;
  pub exactly : map (λ ran. ran.job) answers ≡ jobs_of prepared answers
  -- in whatever order they finished, they say the same;
  pub any_order : (target : Option Target) (finished : List Ran) → AskedBy finished old new
      → says target build_plan finished ≡ says target build_plan answers
  -- and the first trial that passes decides, or that there is none.
  pub first : end ≡ choice_of prepared answers

-- Who was asked, and what was chosen, by the end. A refusal of what was read asks nobody. A limit is one of what was
-- read, or of the trials. Nothing is said where a call failed or memory ran out.
abbrev pub Decides : TargetSource → ChoiceWords → List Variable → Option Tree → List SpawnerSeen → List SpawnerSeen
    → Result (List ℕ) DetectRefusal → Type 0
Decides source options env files old new (Ok text) =
    (choice : Choice) × (text ≡ text_of choice) × ChoosesFirst source options env files old new (Ok choice)
Decides source options env files old new (Err (NoGroup erred)) = ChoosesFirst source options env files old new
    (Err (NoGroup erred))
Decides source options env files old new (Err (Limit kind)) =
    (new ≡ old) ⊎ ChoosesFirst source options env files old new (Err (Limit kind))
Decides source options env files old new (Err (Document path fault)) = new ≡ old
Decides source options env files old new (Err (BuildpackApi text)) = new ≡ old
Decides source options env files old new (Err (Order id ambiguous)) = new ≡ old
Decides source options env files old new (Err (File path)) = Unit {0}
Decides source options env files old new (Err Child) = Unit {0}
Decides source options env files old new (Err Memory) = Unit {0}

-- What `detect` comes to. The end is that of the choice, by the files and by what the children of this call answered;
-- each of the two documents is the old one or a whole new one that reads as the choice.
pub record ComesTo (source : TargetSource) (options : ChoiceWords) (env : List Variable) (old : Outside)
    (end : Result (List ℕ) DetectRefusal) (new : Outside) : Type 0 where
  pub answers : List Ran
  pub asked : AskedBy answers old.spawners new.spawners
  -- in whatever order all spawners' children finished, they say the same
  pub any_order : (target : Option Target) (finished : List Ran) → AskedBy finished old.spawners new.spawners
      → says target build_plan finished ≡ says target build_plan answers
  -- by these the first trial that passes decides, whatever the files are,
  pub first : Decides source options env old.world.files old.spawners new.spawners end
  -- and by the files the end is known
  pub comes : IfSome old.world.files (λ files. IsAnswer cause_of end
      (outcome_of (detect_choice source options env answers files)))
  pub group : IsOldOrNew old.world.files new.world.files (group_document options.work)
      (λ bytes. IfSome old.world.files (λ files. IsChoiceWith (detect_choice source options env answers files)
      (λ choice. group_in bytes ≡ Ok choice.group)))
  pub plan : IsOldOrNew old.world.files new.world.files (plan_document options.work)
      (λ bytes. IfSome old.world.files (λ files. IsChoiceWith (detect_choice source options env answers files)
      (λ choice. plan_in bytes ≡ Ok choice.plan)))
  pub written : WritesBoth end options.work (λ choice. IfSome old.world.files
      (λ files. detect_choice source options env answers files ≡ Ok choice)) old.world.files new.world.files
  pub kept : KeepsFiles end old.world.files new.world.files
  pub others : (path : List ℕ) → is_free (touched (group_document options.work)) path ≡ true
      → is_free (touched (plan_document options.work)) path ≡ true
      → standing new.world.files path ≡ standing old.world.files path
  pub runs : new.world.runs ≡ old.world.runs
  pub misused : MayMisuse (option_map (is_fit_detect source options) old.world.files) old.world.misused
      new.world.misused
