use Rattle.std.proofs.Common.{◌∙◌, map, ap}
use Rattle.order_expand.specs.Groups.{distinct, same_id, listed_groups, raw_groups}
use Rattle.order_expand.proofs.Choices.{first_groups}
use Rattle.order_expand.proofs.walk.Walk.new.Goals as goal

pub returns : goal.returns
unfolding listed_groups
returns c =
    ap (map (distinct same_id))
    (first_groups c.args.catalog.now c.as_slice.result.now c.new-members.result.items c.new-later.result.items
    c.new-waiting.result.items
    c.new-members.ensures.items c.new-later.ensures.items c.new-waiting.ensures.items
    ∙ ap (raw_groups 17 c.args.catalog.now) c.as_slice.ensures)
