use Rattle.std.proofs.Common.{◌∙◌, ◌++◌, [], ◌∷◌, cond, ap, List}
use Rattle.order_expand.specs.declared.member.Member.{Member}
use Rattle.order_expand.specs.declared.begun.Place.{Place}
use Rattle.order_expand.specs.declared.begun.Place.TheVariants.{Entries}
use Rattle.order_expand.specs.Begun.{groups_with}
use Rattle.order_expand.specs.Groups.{raw_groups}
use Rattle.order_expand.specs.Steps.{order_steps, later_steps}
use Rattle.order_expand.proofs.Choices.{composite_opened, later_steps-snoc}
use Rattle.order_expand.proofs.begun.open_order.Goals as goal

pub returns-clause-ok : goal.returns-clause-ok
returns-clause-ok c catalog =
    let begun = c.args.begun.now in
    ap (λ (groups : List (List Member)). groups_with catalog begun.members.items groups c.push.new.self.items)
    (c.place_of_order-begun.ensures.groups catalog)
    ∙ (ap (λ (later : List Place). groups_with catalog begun.members.items
    (raw_groups c.args.levels catalog c.args.order.now ++ cond c.args.optional ([] ∷ []) []) later)
    c.in_ok-push.ensures.items
    ∙ composite_opened catalog begun.members.items (raw_groups c.args.levels catalog c.args.order.now)
    c.args.optional begun.later.items (Entries c.args.levels c.args.behind))

pub returns-clause-steps : goal.returns-clause-steps
returns-clause-steps c catalog =
    let begun = c.args.begun.now in
    c.place_of_order-begun.ensures.steps catalog (later_steps catalog c.push.new.self.items)
    ∙ (ap (λ (later : List Place). order_steps c.args.levels catalog c.args.order.now (later_steps catalog later))
    c.in_ok-push.ensures.items
    ∙ ap (order_steps c.args.levels catalog c.args.order.now)
    (later_steps-snoc catalog begun.later.items (Entries c.args.levels c.args.behind)))
