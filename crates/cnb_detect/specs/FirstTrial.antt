-- What follows from what `detect` comes to, and from nothing else.
use Rattle.std.specs.Prelude.{ℕ, ◌≡◌, Bool, List, map, Some, Result, Ok, Err}
use Rattle.cnb_words.specs.declared.choice.ChoiceWords.{ChoiceWords}
use Rattle.cnb_world.specs.Runs.{Ran}
use Rattle.cnb_world.specs.Tree.{Tree}
use Rattle.cnb_world.specs.declared.env.Variable.{Variable}
use Rattle.steps.specs.Asking.{AskedBy}
use Rattle.steps.specs.Outside.{Outside, SpawnerSeen}
use Rattle.cnb_detect.specs.Choice.{Choice, choice_of, jobs_of}
use Rattle.cnb_detect.specs.Detects.{text_of}
use Rattle.cnb_detect.specs.Documents.{WritesChoice}
use Rattle.cnb_detect.specs.Outcome.{ComesTo, IsPreparedFor, prepared_in}
use Rattle.cnb_detect.specs.declared.preparation.Prepared.{Prepared}
use Rattle.cnb_detect.specs.declared.refusal.DetectRefusal.{DetectRefusal}
use Rattle.cnb_detect.specs.declared.refusal.DetectRefusal.TheVariants.{NoGroup}
use Rattle.cnb_detect.specs.declared.target.TargetSource.{TargetSource}

-- By these files, exactly the children were asked that have to be, each once, and in whatever order their answers are
-- taken, the first trial that passes by them comes to this end.
pub record IsFirstTrial (source : TargetSource) (options : ChoiceWords) (env : List Variable) (files : Tree)
    (old new : List SpawnerSeen) (end : Result Choice DetectRefusal) : Type 0 where
  pub prepared : Prepared
  pub made_for : IsPreparedFor source options env prepared
  pub read : prepared_in source options env files ≡ Ok prepared
  pub answers : List Ran
  pub asked : AskedBy answers old new
  pub exactly : map (λ ran. ran.job) answers ≡ jobs_of prepared answers
  pub decides : (finished : List Ran) → AskedBy finished old new → choice_of prepared finished ≡ end

-- Where `detect` is done, the first trial that passes is the choice that both documents and the text tell of.
pub record WritesFirstTrial (source : TargetSource) (options : ChoiceWords) (env : List Variable) (files : Tree)
    (old : Outside) (text : List ℕ) (new : Outside) : Type 0 where
  pub choice : Choice
  pub first : IsFirstTrial source options env files old.spawners new.spawners (Ok choice)
  pub told : text ≡ text_of choice
  pub documents : WritesChoice options.work choice old.world.files new.world.files

-- Where no group passes, none does by what the children answered, and the files are as before.
pub record HasNoTrial (source : TargetSource) (options : ChoiceWords) (env : List Variable) (files : Tree)
    (old : Outside) (erred : Bool) (new : Outside) : Type 0 where
  pub first : IsFirstTrial source options env files old.spawners new.spawners (Err (NoGroup erred))
  pub same : new.world.files ≡ old.world.files

-- both follow from what it comes to, where the files are told
abbrev pub DetectsFirstTrial : Type 0
DetectsFirstTrial = (source : TargetSource) (options : ChoiceWords) (env : List Variable) (old new : Outside)
    → (files : Tree) → old.world.files ≡ Some files
    → ((text : List ℕ) → ComesTo source options env old (Ok text) new
    → WritesFirstTrial source options env files old text new)
    × ((erred : Bool) → ComesTo source options env old (Err (NoGroup erred)) new
    → HasNoTrial source options env files old erred new)
