use Rattle.std.proofs.Common.{◌∙◌, ap, map, refl, subst}
use Rattle.std.specs.List.{All}
use Rattle.detect_core.specs.declared.chosen.AnswerRow.{AnswerRow}
use Rattle.detect_core.specs.Recorded.{kept_row}
use Rattle.order_expand.specs.Groups.{listed_groups}
use Rattle.detect_record.specs.LineLaws.{IsSoundAnswer}
use Rattle.detect_record.proofs.MadeLemmas.{record_proves_choice}
use Rattle.detect_record.proofs.RecordMakingLemmas.{record_made}
use Rattle.detect_record.proofs.record_making.make_record.Goals as goal

abbrev IsSoundRow : AnswerRow → Type 0
IsSoundRow row = IsSoundAnswer row.key row.probed

pub returns-clause-record : goal.returns-clause-record
returns-clause-record c =
    record_made c.args.catalog.now c.args.order.now c.args.target.now c.args.found.now c.in_ok-kept.kept
    (listed_groups c.args.catalog.now c.args.order.now) c.record_by.result c.requires.recorded
    (c.in_ok-kept.ensures ∙ ap (map kept_row) c.as_slice-2.ensures) refl c.record_by.ensures.record

pub returns-clause-proves : goal.returns-clause-proves
returns-clause-proves c =
    let is_kept = c.in_ok-kept.ensures ∙ ap (map kept_row) c.as_slice-2.ensures in
    let made = record_made c.args.catalog.now c.args.order.now c.args.target.now c.args.found.now
    c.in_ok-kept.kept (listed_groups c.args.catalog.now c.args.order.now) c.record_by.result
    c.requires.recorded
    is_kept refl c.record_by.ensures.record in
    record_proves_choice c.args.catalog.now c.args.order.now c.args.target.now c.args.found.now c.in_ok-kept.kept
    c.record_by.result c.requires.order c.requires.target c.requires.recorded is_kept
    c.record_by.ensures.few (subst (All IsSoundRow) c.as_slice.ensures c.see_answers.ensures) made
