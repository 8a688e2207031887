-- The target of the run image that was analyzed.
use Rattle.std.proofs.Common.{◌≡◌, sym, subst, IsTrue, List, Some, Result}
use Rattle.cnb_detect.specs.Choice.{Choice}
use Rattle.cnb_detect.specs.Detects.{chooses}
use Rattle.cnb_detect.specs.declared.refusal.DetectRefusal.{DetectRefusal}
use Rattle.cnb_detect.specs.declared.target.TargetSource.TheVariants.{Given}
use Rattle.cnb_env.specs.Base.{is_named_target}
use Rattle.cnb_toml.specs.declared.target.Target.{Target}
use Rattle.cnb_words.specs.declared.choice.ChoiceWords.{ChoiceWords}
use Rattle.cnb_world.specs.declared.env.Variable.{Variable}
use Rattle.image_docs.specs.Analyzed.{is_analyzed}
use Rattle.image_docs.specs.declared.analyzed.Analyzed.{Analyzed}
use Rattle.image_files.specs.Target.{target_of}
use Rattle.steps.specs.Outside.{Outside}

-- two spellings of the target that is chosen for
pub chooses_as : (target want : Target) (words : ChoiceWords) (env : List Variable) (old new : Outside)
    (result : Result Choice DetectRefusal) → target ≡ want
    → chooses (Given target) words env old result new → chooses (Given want) words env old result new
chooses_as target want words env old new result same h = subst (λ t. chooses (Given t) words env old result new) same h

-- its texts are names, as those of what was analyzed are
pub target_named : (target : Target) (analyzed : Analyzed) → target ≡ target_of analyzed
    → IsTrue (is_analyzed analyzed) → IsTrue (is_named_target (Some target))
target_named target analyzed is named = subst (λ t. IsTrue (is_named_target (Some t))) (sym is) named
