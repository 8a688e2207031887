use Rattle.detect_core.specs.Kept.{kept_says}
use Rattle.detect_record.specs.declared.parts.Line.TheVariants.{Head}
use Rattle.detect_record.specs.Lines.{whole_line}
use Rattle.detect_record.specs.RecordTexts.{targeted_whole}
use Rattle.detect_record.proofs.PutLemmas.{put_both, put_refused}
use Rattle.detect_record.proofs.record_making.put_record.Goals as goal

pub returns-in-Ok : goal.returns-in-Ok
returns-in-Ok c =
    put_both c.args.text.now (whole_line Head) c.put_head.new.text
    (targeted_whole (kept_says c.args.target.now c.args.kept.now) c.args.target.now c.args.found.now
    c.args.walk.now) c.put_targeted.new.text c.put_targeted.result c.in-Ok.ensures c.put_targeted.ensures

pub returns-in-Err : goal.returns-in-Err
returns-in-Err c = put_refused c.args.text.now (whole_line Head)
    (targeted_whole (kept_says c.args.target.now c.args.kept.now) c.args.target.now c.args.found.now
    c.args.walk.now) c.put_head.new.text c.put_head.new.text c.in-Err.fault c.in-Err.ensures
