use Rattle.std.proofs.Common.{◌∙◌, ◌++◌, [], ◌∷◌, cond, sym, ap, List, arith}
use Rattle.std.specs.List.{flat_map}
use Rattle.std.proofs.lemmas.List.{nil_from_length}
use Rattle.bp_docs.specs.declared.descriptor.Entry.{Entry}
use Rattle.order_expand.specs.declared.member.Member.{Member}
use Rattle.order_expand.specs.Begun.{groups_with, groups_of_waiting}
use Rattle.order_expand.specs.Groups.{raw_groups, expanded}
use Rattle.order_expand.specs.Steps.{groups_steps, order_steps, entries_steps, later_steps}
use Rattle.order_expand.proofs.Choices.{group_chosen}
use Rattle.order_expand.proofs.begun.choose_group.Goals as goal

pub returns-in_ok-set_others_aside-in-Some-clause-ok : goal.returns-in_ok-set_others_aside-in-Some-clause-ok
returns-in_ok-set_others_aside-in-Some-clause-ok c catalog =
    let current = c.args.current.now in
    let each = expanded (raw_groups c.args.levels catalog) catalog in
    let none = cond c.args.optional ([] ∷ []) [] in
    let waiting = groups_of_waiting catalog c.args.waiting.now.items in
    ap (λ (group : List Entry). groups_with catalog current.members.items (each group) current.later.items
    ++ groups_of_waiting catalog c.set_others_aside.new.waiting.items) c.as_slice.ensures
    ∙ (ap (λ (groups : List (List Member)). groups_with catalog current.members.items
    (each c.in-Some.first.now) current.later.items ++ groups)
    (c.in_ok-set_others_aside-in-Some.ensures.ok catalog)
    ∙ (group_chosen catalog current.members.items (each c.in-Some.first.now)
    (flat_map each c.in-Some.others.now) none current.later.items waiting
    ∙ sym (ap (λ (groups : List (List Entry)). groups_with catalog current.members.items
    (flat_map each groups ++ none) current.later.items ++ waiting) c.in-Some.ensures.cases.0)))

pub returns-in_ok-set_others_aside-in-Some-clause-steps : goal.returns-in_ok-set_others_aside-in-Some-clause-steps
returns-in_ok-set_others_aside-in-Some-clause-steps c catalog =
    let steps = order_steps c.args.levels catalog in
    let behind = later_steps catalog c.args.current.now.later.items in
    let first = ap (λ (group : List Entry). entries_steps steps catalog group behind) c.as_slice.ensures in
    let all = ap (λ (groups : List (List Entry)). groups_steps steps catalog groups behind) c.in-Some.ensures.cases.0 in
    omega (arith, first, all, c.in_ok-set_others_aside-in-Some.ensures.steps catalog)

pub returns-in-None-clause-ok : goal.returns-in-None-clause-ok
returns-in-None-clause-ok c catalog =
    let current = c.args.current.now in
    let each = expanded (raw_groups c.args.levels catalog) catalog in
    let none = cond c.args.optional ([] ∷ []) [] in
    let waiting = groups_of_waiting catalog c.args.waiting.now.items in
    ap (λ (groups : List (List Member)). groups_with catalog current.members.items groups current.later.items
    ++ waiting) (c.place_of_none-current.ensures.groups catalog)
    ∙ sym (ap (λ (groups : List (List Entry)). groups_with catalog current.members.items
    (flat_map each groups ++ none) current.later.items ++ waiting)
    (nil_from_length c.args.groups.now c.in-None.ensures.cases))

pub returns-in-None-clause-steps : goal.returns-in-None-clause-steps
returns-in-None-clause-steps c catalog =
    let steps = order_steps c.args.levels catalog in
    let behind = later_steps catalog c.args.current.now.later.items in
    let all = ap (λ (groups : List (List Entry)). groups_steps steps catalog groups behind)
    (nil_from_length c.args.groups.now c.in-None.ensures.cases) in
    omega (arith, all, c.place_of_none-current.ensures.steps catalog behind)
