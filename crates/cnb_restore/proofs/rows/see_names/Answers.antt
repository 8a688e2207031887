use Rattle.cnb_restore.proofs.RestoreLemmas.{all_named, one_more_named}
use Rattle.cnb_restore.proofs.rows.see_names.Goals as goal

pub loop-row-preserved : goal.loop-row-preserved
loop-row-preserved c = one_more_named _ _ c.row-item.result c.loop-row-test.true c.row-item.is c.loop-row.invariant
    c.as_str-name.ensures.is_part

pub returns : goal.returns
returns c = all_named _ _ c.loop-row-test.false c.loop-row.invariant
