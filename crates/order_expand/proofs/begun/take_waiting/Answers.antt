use Rattle.std.proofs.Common.{◌≡◌, ◌-◌, ◌+◌, List, [], ◌∷◌, ◌++◌, take, sym, ◌∙◌, ap, append-nil, arith}
use Rattle.order_expand.specs.declared.begun.Begun.{Begun}
use Rattle.order_expand.specs.Begun.{groups_in, groups_with, groups_left, groups_of_waiting}
use Rattle.order_expand.specs.Steps.{later_steps, place_steps, steps_left, steps_of_waiting}
use Rattle.order_expand.proofs.Choices.{groups_of_waiting-snoc, steps_of_waiting-snoc}
use Rattle.order_expand.proofs.begun.take_waiting.Goals as goal

pub returns-in-Some-clause-groups : goal.returns-in-Some-clause-groups
returns-in-Some-clause-groups c catalog =
    let current = c.args.current.now in
    sym ((λ i. groups_with catalog current.members.items (groups_in catalog (c.requires i)) current.later.items
    ++ groups_of_waiting catalog (c.in-Some.ensures.items i))
    ∙ groups_of_waiting-snoc catalog c.pop.new.self.items c.in-Some.begun)

pub returns-in-Some-clause-reaches : goal.returns-in-Some-clause-reaches
returns-in-Some-clause-reaches c catalog =
    let current = c.args.current.now in
    let before : steps_left catalog current c.args.waiting.now.items
    ≡ steps_of_waiting catalog (c.pop.new.self.items ++ c.in-Some.begun ∷ []) =
    (λ i. place_steps catalog (c.requires i) (later_steps catalog current.later.items) + steps_of_waiting catalog
    (c.in-Some.ensures.items i)) ∙ omega arith in
    let one_less = steps_of_waiting-snoc catalog c.pop.new.self.items c.in-Some.begun in
    omega (arith, before, one_less)

pub returns-in-None-clause-groups : goal.returns-in-None-clause-groups
returns-in-None-clause-groups c catalog =
    ap (λ (waiting : List Begun). groups_left catalog c.args.current.now waiting)
    (sym (c.in-None.ensures.items ∙ append-nil c.pop.new.self.items))

pub returns-in-None-clause-reaches : goal.returns-in-None-clause-reaches
returns-in-None-clause-reaches c catalog =
    let current = c.args.current.now in
    let none : c.pop.new.self.items ≡ [] = c.in-None.ensures.rest
    ∙ ap (λ n. take (n - 1) c.args.waiting.now.items) c.in-None.ensures.cases.0 in
    λ i. groups_with catalog current.members.items (groups_in catalog (c.requires i)) current.later.items
    ++ groups_of_waiting catalog (none i)
