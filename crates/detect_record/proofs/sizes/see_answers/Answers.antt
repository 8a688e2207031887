use Rattle.std.proofs.Common.{subst, arith}
use Rattle.std.specs.List.{All}
use Rattle.std.proofs.lemmas.List.{take_all}
use Rattle.std.proofs.lemmas.List.Elements.{All-more}
use Rattle.detect_core.specs.declared.chosen.AnswerRow.{AnswerRow}
use Rattle.detect_record.specs.LineLaws.{IsSoundAnswer}
use Rattle.detect_record.proofs.sizes.see_answers.Goals as goal

abbrev IsSoundRow : AnswerRow → Type 0
IsSoundRow row = IsSoundAnswer row.key row.probed

pub loop-row-preserved : goal.loop-row-preserved
loop-row-preserved c =
    All-more IsSoundRow c.args.rows.now c.loop-row.row-index c.row-item.result c.loop-row-test.true
    c.loop-row.invariant (subst IsSoundRow c.row-item.is c.see_answer.ensures)

pub returns : goal.returns
returns c = subst (All IsSoundRow) (take_all c.loop-row.row-index c.args.rows.now (omega arith)) c.loop-row.invariant
