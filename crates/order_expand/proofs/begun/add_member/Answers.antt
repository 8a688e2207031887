use Rattle.std.proofs.Common.{◌∙◌, ap, List}
use Rattle.order_expand.specs.declared.begun.MemberComponent.{MemberComponent}
use Rattle.order_expand.specs.Begun.{groups_with}
use Rattle.order_expand.specs.Groups.{raw_groups, expanded}
use Rattle.order_expand.proofs.Choices.{component_chosen}
use Rattle.order_expand.proofs.begun.add_member.Goals as goal

pub returns-clause-ok : goal.returns-clause-ok
returns-clause-ok c catalog =
    let begun = c.args.begun.now in
    let groups = expanded (raw_groups c.args.levels catalog) catalog c.args.behind.now in
    ap (λ (members : List MemberComponent). groups_with catalog members groups begun.later.items)
    c.in_ok-push.ensures.items
    ∙ component_chosen catalog begun.members.items c.args.chosen groups begun.later.items
