use Rattle.std.proofs.Common.{◌≡◌, ◌-◌, List, [], take, sym, ◌∙◌, ap, append-nil, arith}
use Rattle.order_expand.specs.declared.begun.Place.{Place}
use Rattle.order_expand.specs.Begun.{groups_in, groups_with}
use Rattle.order_expand.specs.Steps.{later_steps}
use Rattle.order_expand.proofs.Choices.{groups_at_end, steps_at_end, back_to_later, later_steps-snoc, nothing_later}
use Rattle.order_expand.proofs.begun.go_back.Goals as goal

pub returns-in-Some-clause-groups : goal.returns-in-Some-clause-groups
returns-in-Some-clause-groups c catalog =
    let begun = c.args.begun.now in
    back_to_later catalog begun.members.items c.pop.new.self.items c.in-Some.place
    ∙ sym (λ i. groups_with catalog begun.members.items (groups_at_end catalog begun.next c.requires i)
    (c.in-Some.ensures.items i))

pub returns-in-Some-clause-reaches : goal.returns-in-Some-clause-reaches
returns-in-Some-clause-reaches c catalog waiting =
    let begun = c.args.begun.now in
    let before = steps_at_end catalog begun.next (later_steps catalog begun.later.items) c.requires in
    let later = ap (later_steps catalog) c.in-Some.ensures.items in
    let back = later_steps-snoc catalog c.pop.new.self.items c.in-Some.place in
    omega (arith, before, later, back)

pub returns-in-None-clause-groups : goal.returns-in-None-clause-groups
returns-in-None-clause-groups c catalog =
    let begun = c.args.begun.now in
    ap (λ (later : List Place). groups_with catalog begun.members.items (groups_in catalog begun.next) later)
    (sym (c.in-None.ensures.items ∙ append-nil c.pop.new.self.items))

pub returns-in-None-clause-reaches : goal.returns-in-None-clause-reaches
returns-in-None-clause-reaches c catalog waiting =
    let begun = c.args.begun.now in
    let none : c.pop.new.self.items ≡ [] = c.in-None.ensures.rest
    ∙ ap (λ n. take (n - 1) begun.later.items) c.in-None.ensures.cases.0 in
    (λ i. groups_with catalog begun.members.items (groups_at_end catalog begun.next c.requires i) (none i))
    ∙ nothing_later catalog begun.members.items
