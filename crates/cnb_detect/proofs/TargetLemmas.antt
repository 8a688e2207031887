-- Where the target of a detection comes from.
use Rattle.std.proofs.Common.{◌≡◌, refl, subst, sym, ℕ, ◌&&◌, List, Option, Some, None, Result, Ok, Err}
use Rattle.std.specs.Prelude.{IfErr, IfOk, IfSome, IsTrue}
use Rattle.cnb_env.specs.Base.{is_named_target}
use Rattle.cnb_toml.specs.Names.{is_target_name}
use Rattle.cnb_toml.specs.declared.target.Target.{Target}
use Rattle.steps.specs.Causes.{IsAnswer, IsGivenCause}
use Rattle.steps.specs.Outside.{Seen}
use Rattle.steps.proofs.StepLemmas.{answered}
use Rattle.cnb_detect.specs.declared.refusal.DetectRefusal.{DetectRefusal}
use Rattle.cnb_detect.specs.declared.target.TargetSource.{TargetSource}
use Rattle.cnb_detect.specs.declared.target.TargetSource.TheVariants.{Document, Given}
use Rattle.cnb_detect.specs.Refusals.{cause_of}
use Rattle.cnb_detect.specs.Target.{is_named, reads_target, takes_target}

-- the target is read
pub takes_read : (source : TargetSource) (work : List ℕ) (old : Seen)
    (result : Result (Option Target) DetectRefusal) (new : Seen) → source ≡ Document
    → reads_target work old result new → takes_target source work old result new
takes_read source work old result new is h = subst (λ s. takes_target s work old result new) (sym is) h

-- or it is given
pub takes_given : (source : TargetSource) (target : Target) (work : List ℕ) (old : Seen)
    (result : Result (Option Target) DetectRefusal) → source ≡ Given target
    → IsAnswer cause_of result (Ok (Some target))
    → IfErr result (λ refusal. IsGivenCause (cause_of refusal)) → takes_target source work old result old
takes_given source target work old result is answer cause = subst (λ s. takes_target s work old result old)
    (sym is) (answered cause_of (Ok (Some target)) result old answer cause)

-- its texts are names
pub named_so : (target : Option Target) → IfSome target
    (λ found. IsTrue (is_target_name found.os && is_target_name found.arch)) → IsTrue (is_named_target target)
named_so None h = refl
named_so (Some target) h = h

pub given_named : (source : TargetSource) (target : Target) (result : Result (Option Target) DetectRefusal)
    → source ≡ Given target → IsAnswer cause_of result (Ok (Some target)) → IsTrue (is_named source)
    → IfOk result (λ found. IsTrue (is_named_target found))
given_named source target (Err refusal) is answer named = tt
given_named source target (Ok found) is answer named = subst
    (λ r. IfOk r (λ f. IsTrue (is_named_target f))) answer
    (let own : IsTrue (is_named_target (Some target)) = subst (λ s. IsTrue (is_named s)) is named in own)
