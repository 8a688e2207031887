use Rattle.std.proofs.Common.{◌≡◌, take}
use Rattle.std.specs.List.{filter_map}
use Rattle.detect_core.specs.Answer.{alive_row}
use Rattle.detect_core.specs.Kept.{kept_says}
use Rattle.detect_core.proofs.judging.passed_rows.Given as goal

abbrev pub invariant-loop-member : goal.invariant-loop-member
invariant-loop-member l = l.rows ≡ filter_map (λ member. alive_row member (kept_says l.target l.kept member))
    (take l.member-index l.group)
