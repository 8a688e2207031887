use Rattle.std.proofs.Common.{◌<◌, length, arith}
use Rattle.std.proofs.lemmas.List.{length-map}
use Rattle.detect_core.specs.declared.chosen.AnswerRow.{AnswerRow}
use Rattle.detect_core.specs.Recorded.{answered_keys}
use Rattle.detect_core.proofs.AskingLemmas.{next_new}
use Rattle.detect_core.proofs.RecordedLemmas.{keep_more, key_at}
use Rattle.detect_core.proofs.keeping.kept_of.Goals as goal

pub add-requires : goal.add-requires
add-requires c =
    let rows = c.args.rows.now in
    let lt : c.loop-row.row-index < length rows = omega arith in
    let lt_keys : c.loop-row.row-index < length (answered_keys rows) = omega
    (arith, length-map rows (λ (row : AnswerRow). row.key)) in
    (next_new (answered_keys rows) c.loop-row.row-index c.loop-row.kept c.row-item.result.key c.in_ok-key.key
    lt_keys (key_at rows c.loop-row.row-index c.row-item.result lt c.row-item.is) c.in_ok-key.ensures
    c.loop-row.invariant.new).0

pub loop-row-preserved : goal.loop-row-preserved
loop-row-preserved c =
    let rows = c.args.rows.now in
    let row = c.row-item.result in
    let lt : c.loop-row.row-index < length rows = omega arith in
    let lt_keys : c.loop-row.row-index < length (answered_keys rows) = omega
    (arith, length-map rows (λ (row : AnswerRow). row.key)) in
    record {
      rows = keep_more rows c.loop-row.row-index row c.loop-row.kept c.add.new.self c.in_ok-key.key
          c.in_ok-verdict.verdict lt c.row-item.is c.in_ok-key.ensures c.in_ok-verdict.ensures
          c.loop-row.invariant.rows c.in_ok-add.ensures.ok;
      new = (next_new (answered_keys rows) c.loop-row.row-index c.loop-row.kept row.key c.in_ok-key.key lt_keys
          (key_at rows c.loop-row.row-index row lt c.row-item.is) c.in_ok-key.ensures c.loop-row.invariant.new).1
          c.in_ok-verdict.verdict c.add.new.self c.in_ok-add.ensures.ok;
    }
