-- What the children of a group say together.
use Rattle.std.specs.Prelude.{◌≡◌, List}
use Rattle.std.specs.List.{list_any}
use Rattle.order_expand.specs.declared.member.Member.{Member}
use Rattle.detect_core.specs.declared.chosen.Verdict.{Verdict}
use Rattle.detect_core.specs.declared.judging.Judged.{Judged}
use Rattle.detect_core.specs.Answer.{is_error, alive_of}

-- what the members of a group say together
pub record IsJudged (says : Member → Verdict) (group : List Member) (judged : Judged) : Type 0 where
  pub alive : judged.alive ≡ alive_of says group
  pub erred : judged.erred ≡ list_any (λ member. is_error (says member)) group
