-- How many trials the groups have that a search reaches.
use Rattle.std.specs.Prelude.{◌≡◌, ◌≤◌, List, Some}
use Rattle.std.specs.List.{AllByRecursion}
use Rattle.detect_core.specs.Answer.{alive_of}
use Rattle.detect_core.specs.Detection.{reached}
use Rattle.detect_core.specs.declared.chosen.Verdict.{Verdict}
use Rattle.order_expand.specs.declared.member.Member.{Member}
use Rattle.plan_resolve.specs.Choices.{choice_count}
use Rattle.plan_resolve.specs.declared.rows.AliveRow.{AliveRow}

-- By what the children say, a group whose buildpacks pass has at most 65,536 trials.
abbrev pub HasFewTrials : (Member → Verdict) → List Member → Type 0
HasFewTrials says group = (rows : List AliveRow) → alive_of says group ≡ Some rows → choice_count rows ≤ 65536

-- So it is with each of these groups that the search reaches.
abbrev pub ReachesFewTrials : (Member → Verdict) → List (List Member) → Type 0
ReachesFewTrials says groups = AllByRecursion (HasFewTrials says) (reached says 0 groups)
