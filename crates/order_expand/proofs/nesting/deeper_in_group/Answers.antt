use Rattle.std.proofs.Common.{sym, ◌∙◌}
use Rattle.order_expand.specs.Check.{nests_deeper}
use Rattle.order_expand.proofs.Finds.{find_next, find_here}
use Rattle.order_expand.proofs.nesting.deeper_in_group.Goals as goal

pub returns-then-is_deeper : goal.returns-then-is_deeper
returns-then-is_deeper c levels e =
    find_here (nests_deeper levels c.args.catalog.now) c.args.entries.now c.loop-entry.entry-index
    c.entry-item.result c.loop-entry-test.true c.entry-item.is
    (c.loop-entry.invariant levels e) (sym (c.is_deeper.ensures levels e) ∙ c.if-is_deeper.true)

pub loop-entry-preserved : goal.loop-entry-preserved
loop-entry-preserved c levels e =
    find_next (nests_deeper levels c.args.catalog.now) c.args.entries.now c.loop-entry.entry-index
    c.entry-item.result c.loop-entry-test.true c.entry-item.is
    (c.loop-entry.invariant levels e) (sym (c.is_deeper.ensures levels e) ∙ c.if-is_deeper.false)
