use Rattle.std.proofs.Common.{sym, ◌∙◌, ap, List}
use Rattle.std.specs.List.{find}
use Rattle.bp_docs.specs.declared.descriptor.Entry.{Entry}
use Rattle.order_expand.specs.Check.{nests_deeper}
use Rattle.order_expand.proofs.Finds.{find_next_group, find_in_group}
use Rattle.order_expand.proofs.nesting.deeper_in_order.Goals as goal

pub returns-in-Some : goal.returns-in-Some
returns-in-Some c levels e =
    let p = nests_deeper levels c.args.catalog.now in
    find_in_group p c.args.order.now c.loop-group.group-index c.group-item.result c.in-Some.entry.now
    c.loop-group-test.true c.group-item.is
    (c.loop-group.invariant levels e) (sym (c.in-Some.ensures levels e
    ∙ ap (λ (group : List Entry). find p group) c.as_slice.ensures))

pub loop-group-preserved : goal.loop-group-preserved
loop-group-preserved c levels e =
    let p = nests_deeper levels c.args.catalog.now in
    find_next_group p c.args.order.now c.loop-group.group-index c.group-item.result c.loop-group-test.true
    c.group-item.is
    (c.loop-group.invariant levels e) (sym (c.in_default.ensures levels e
    ∙ ap (λ (group : List Entry). find p group) c.as_slice.ensures))
