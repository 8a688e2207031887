use Rattle.std.proofs.Common.{sym, ◌∙◌, ap, arith}
use Rattle.std.specs.List.{flat_map}
use Rattle.std.proofs.lemmas.List.{take_all}
use Rattle.order_expand.specs.Groups.{raw_groups, expanded}
use Rattle.order_expand.specs.Sizes.{size_of}
use Rattle.order_expand.proofs.Levels.{raw_groups_suc}
use Rattle.order_expand.proofs.count.of_order.Goals as goal

pub returns : goal.returns
returns c levels e =
    let catalog = c.args.catalog.now in
    c.loop-group.invariant levels e
    ∙ ap size_of (ap (flat_map (expanded (raw_groups levels catalog) catalog))
    (take_all c.loop-group.group-index c.args.order.now (omega arith))
    ∙ sym (raw_groups_suc levels catalog c.args.order.now))
