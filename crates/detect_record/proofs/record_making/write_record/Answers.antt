use Rattle.detect_core.specs.Kept.{kept_says}
use Rattle.detect_record.specs.RecordTexts.{record_whole}
use Rattle.detect_record.proofs.RecordMakingLemmas.{refused_whole, written_whole}
use Rattle.detect_record.proofs.record_making.write_record.Goals as goal

pub returns-in-Ok : goal.returns-in-Ok
returns-in-Ok c =
    written_whole (record_whole (kept_says c.args.target.now c.args.kept.now) c.args.target.now c.args.found.now
    c.args.walk.now) c.new-text.result c.put_record.new.text c.into_bytes.result
    c.new-text.ensures c.in-Ok.ensures c.into_bytes.ensures.bytes c.into_bytes.ensures.within

pub returns-in-Err : goal.returns-in-Err
returns-in-Err c =
    refused_whole (record_whole (kept_says c.args.target.now c.args.kept.now) c.args.target.now c.args.found.now
    c.args.walk.now) c.new-text.result c.put_record.new.text c.in-Err.fault
    c.new-text.ensures c.in-Err.ensures
