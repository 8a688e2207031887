use Rattle.std.proofs.Common.{map, arith}
use Rattle.cnb_world.specs.Memory.{row_of}
use Rattle.cnb_world.proofs.ChangeLemmas.{rows_more}
use Rattle.cnb_world.proofs.memory.changes.Changes.runs.Goals as goal

pub loop-change-preserved : goal.loop-change-preserved
loop-change-preserved c = rows_more c.deref-change-items.result.now c.loop-change.change-index
    c.change-item.result (map row_of c.loop-change.rows.items) (map row_of c.add_row.new.rows.items)
    (omega arith) c.change-item.is c.loop-change.invariant c.in_ok-add_row.ensures
