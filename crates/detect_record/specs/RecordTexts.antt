-- The record that is made, as bytes.
use Rattle.std.specs.Prelude.{◌++◌, List, ℕ, flat_map, Option}
use Rattle.cnb_toml.specs.declared.target.Target.{Target}
use Rattle.order_expand.specs.declared.member.Member.{Member}
use Rattle.detect_core.specs.declared.chosen.Recorded.{Recorded}
use Rattle.detect_core.specs.declared.chosen.Verdict.{Verdict}
use Rattle.detect_record.specs.declared.parts.Line.TheVariants.{Head, Target as TargetLine}
use Rattle.detect_record.specs.GroupTexts.{groups_whole}
use Rattle.detect_record.specs.Lines.{whole_line}
use Rattle.detect_record.specs.Making.{answer_whole}

-- the answers, and the lines of the groups behind them
abbrev pub answers_whole : (Member → Verdict) → Recorded → List (List Member) → List ℕ
answers_whole says found groups =
    flat_map answer_whole found.answers ++ groups_whole says found.chosen.place found.chosen.trial groups

-- the same behind the line of the target
abbrev pub targeted_whole : (Member → Verdict) → Option Target → Recorded → List (List Member) → List ℕ
targeted_whole says target found groups = whole_line (TargetLine target) ++ answers_whole says found groups

abbrev pub record_whole : (Member → Verdict) → Option Target → Recorded → List (List Member) → List ℕ
record_whole says target found groups = whole_line Head ++ targeted_whole says target found groups
