use Rattle.std.proofs.Common.{◌∙◌, ◌<◌, length, arith}
use Rattle.detect_core.specs.Kept.{kept_says}
use Rattle.detect_core.proofs.JudgingLemmas.{passed_more, failed_more}
use Rattle.detect_core.proofs.judging.passed_rows.Goals as goal
use Rattle.detect_core.proofs.judging.passed_rows.Goals.{in-Some+in_ok-passed_row+in_ok-push, in_default}

pub loop-member-preserved : goal.loop-member-preserved
loop-member-preserved c =
    let lt : c.loop-member.member-index < length c.args.group.now = omega arith in
    let says = kept_says c.args.target.now c.args.kept.now in
    elim c.match-options_of.branch [
      | in-Some+in_ok-passed_row+in_ok-push w ↦
          w.rows-is ∙ (w.in_ok-push.ensures.ok ∙ passed_more says c.args.group.now c.loop-member.member-index
          c.member-item.result lt c.member-item.is
          c.loop-member.rows w.in-Some.options.now w.in_ok-passed_row.field-0 w.in-Some.ensures
          w.in_ok-passed_row.ensures c.loop-member.invariant)
      | in_default w ↦
          w.rows-is ∙ failed_more says c.args.group.now c.loop-member.member-index c.member-item.result lt
          c.member-item.is c.loop-member.rows w.in_default.ensures c.loop-member.invariant
    ]
