use Rattle.std.proofs.Common.{◌∙◌, ap, List}
use Rattle.bp_docs.specs.declared.descriptor.Entry.{Entry}
use Rattle.order_expand.specs.Groups.{raw_groups}
use Rattle.order_expand.specs.Sizes.{size_of}
use Rattle.order_expand.proofs.Counted.{many_groups, long_group, groups_counted}
use Rattle.order_expand.proofs.order.count.Goals as goal

pub returns-then-size-gt-GROUPS : goal.returns-then-size-gt-GROUPS
returns-then-size-gt-GROUPS c =
    many_groups c.args.catalog.now c.args.order.now c.of_order-size.result
    (c.of_order-size.ensures 16 (c.as_slice.ensures.value ∙ c.in_ok-below.ensures)
    ∙ ap (λ (order : List (List Entry)). size_of (raw_groups 17 c.args.catalog.now order))
    c.as_slice-2.ensures)
    c.if-size-gt-GROUPS.true

pub returns-then-size-gt-MEMBERS : goal.returns-then-size-gt-MEMBERS
returns-then-size-gt-MEMBERS c =
    long_group c.args.catalog.now c.args.order.now c.of_order-size.result
    (c.of_order-size.ensures 16 (c.as_slice.ensures.value ∙ c.in_ok-below.ensures)
    ∙ ap (λ (order : List (List Entry)). size_of (raw_groups 17 c.args.catalog.now order))
    c.as_slice-2.ensures)
    c.if-size-gt-GROUPS.false c.if-size-gt-MEMBERS.true

pub returns : goal.returns
returns c =
    groups_counted c.args.catalog.now c.args.order.now c.of_order-size.result
    (c.of_order-size.ensures 16 (c.as_slice.ensures.value ∙ c.in_ok-below.ensures)
    ∙ ap (λ (order : List (List Entry)). size_of (raw_groups 17 c.args.catalog.now order))
    c.as_slice-2.ensures)
    c.if-size-gt-GROUPS.false c.if-size-gt-MEMBERS.false
