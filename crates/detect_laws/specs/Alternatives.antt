-- Build Plans without alternatives have few trials.
use Rattle.std.specs.Prelude.{◌≤◌, List, length, IfSome}
use Rattle.std.specs.List.{AllByRecursion}
use Rattle.cnb_detect.specs.declared.preparation.Prepared.{Prepared}
use Rattle.cnb_world.specs.Runs.{Ran}
use Rattle.detect_core.specs.Answer.{build_plan}
use Rattle.detect_laws.specs.Sound.{HaveFewTrials}

-- The Build Plan that a child left, where it is one, has no alternative besides its first.
abbrev pub HasOneAlternative : Ran → Type 0
HasOneAlternative ran = IfSome (build_plan ran.probed.plan) (λ options. length options ≤ 1)

-- Where it is so with all children, no group has more than one trial.
abbrev pub OneAlternativeIsFewTrials : Type 0
OneAlternativeIsFewTrials = (prepared : Prepared) (answers : List Ran) → AllByRecursion HasOneAlternative answers
    → HaveFewTrials prepared answers
