use Rattle.detect_core.specs.Kept.{kept_says}
use Rattle.detect_record.specs.declared.parts.Line.TheVariants.{Target as TargetLine}
use Rattle.detect_record.specs.Lines.{whole_line}
use Rattle.detect_record.specs.RecordTexts.{answers_whole}
use Rattle.detect_record.proofs.PutLemmas.{put_both, put_refused}
use Rattle.detect_record.proofs.record_making.put_targeted.Goals as goal

pub returns-in-Ok : goal.returns-in-Ok
returns-in-Ok c =
    put_both c.args.text.now (whole_line (TargetLine c.args.target.now)) c.put_target.new.text
    (answers_whole (kept_says c.args.target.now c.args.kept.now) c.args.found.now c.args.walk.now)
    c.put_answered.new.text c.put_answered.result c.in-Ok.ensures c.put_answered.ensures

pub returns-in-Err : goal.returns-in-Err
returns-in-Err c = put_refused c.args.text.now (whole_line (TargetLine c.args.target.now))
    (answers_whole (kept_says c.args.target.now c.args.kept.now) c.args.found.now c.args.walk.now)
    c.put_target.new.text c.put_target.new.text c.in-Err.fault c.in-Err.ensures
