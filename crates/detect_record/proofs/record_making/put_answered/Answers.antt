use Rattle.std.proofs.Common.{◌++◌, List, Err, subst}
use Rattle.std.specs.Prelude.{flat_map}
use Rattle.detect_core.specs.declared.chosen.AnswerRow.{AnswerRow}
use Rattle.detect_core.specs.Kept.{kept_says}
use Rattle.detect_record.specs.GroupTexts.{groups_whole}
use Rattle.detect_record.specs.Making.{answer_whole}
use Rattle.detect_record.specs.RecordText.{IsPutBehind}
use Rattle.detect_record.proofs.PutLemmas.{put_both, put_refused}
use Rattle.detect_record.proofs.record_making.put_answered.Goals as goal

pub returns-in-Ok : goal.returns-in-Ok
returns-in-Ok c =
    let groups = groups_whole (kept_says c.args.target.now c.args.kept.now) c.args.found.now.chosen.place
    c.args.found.now.chosen.trial c.args.walk.now in
    let P : List AnswerRow → Type 0 = λ rows. IsPutBehind c.args.text.now
    (flat_map answer_whole rows ++ groups) c.put_groups.new.text c.put_groups.result in
    subst P c.as_slice.ensures (put_both c.args.text.now (flat_map answer_whole c.as_slice.result.now)
    c.put_answers.new.text groups c.put_groups.new.text c.put_groups.result c.in-Ok.ensures
    c.put_groups.ensures)

pub returns-in-Err : goal.returns-in-Err
returns-in-Err c =
    let groups = groups_whole (kept_says c.args.target.now c.args.kept.now) c.args.found.now.chosen.place
    c.args.found.now.chosen.trial c.args.walk.now in
    let P : List AnswerRow → Type 0 = λ rows. IsPutBehind c.args.text.now
    (flat_map answer_whole rows ++ groups) c.put_answers.new.text (Err c.in-Err.fault) in
    subst P c.as_slice.ensures (put_refused c.args.text.now
    (flat_map answer_whole c.as_slice.result.now) groups c.put_answers.new.text c.put_answers.new.text
    c.in-Err.fault c.in-Err.ensures)
