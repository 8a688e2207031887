-- That the answers of the buildpacks that have to be asked decide the choice.
use Rattle.std.specs.Prelude.{ℕ, ◌≡◌, List, Option}
use Rattle.std.specs.List.{AllByRecursion, flat_map}
use Rattle.cnb_toml.specs.declared.target.Target.{Target}
use Rattle.order_expand.specs.declared.member.Member.{Member}
use Rattle.detect_core.specs.declared.chosen.Verdict.{Verdict}
use Rattle.detect_core.specs.Answer.{for_target}
use Rattle.detect_core.specs.Detection.{first_ending, fitting, reached}

-- Two ways of answering that agree on all members for the target in the groups that are reached reach the same groups
-- and come to the same end.
abbrev pub AnswersDecide : Type 0
AnswersDecide = (target : Option Target) (s t : Member → Verdict) (place : ℕ) (groups : List (List Member))
    → AllByRecursion (λ member. s member ≡ t member)
    (flat_map (λ group. group) (fitting target (reached (for_target target s) place groups)))
    → (first_ending (for_target target t) place groups ≡ first_ending (for_target target s) place groups)
    × (reached (for_target target t) place groups ≡ reached (for_target target s) place groups)
