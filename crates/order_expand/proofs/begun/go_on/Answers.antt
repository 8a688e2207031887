use Rattle.std.proofs.Common.{◌≡◌, ◌∙◌, ◌++◌, sym, ap, List, arith}
use Rattle.order_expand.specs.declared.member.Member.{Member}
use Rattle.order_expand.specs.Begun.{groups_in, groups_with, groups_of_waiting}
use Rattle.order_expand.specs.Steps.{place_steps, groups_steps, order_steps, later_steps}
use Rattle.order_expand.proofs.begun.go_on.Goals as goal

pub returns-in_ok-reached-in-Entries-clause-groups : goal.returns-in_ok-reached-in-Entries-clause-groups
returns-in_ok-reached-in-Entries-clause-groups c =
    ap (λ (groups : List (List Member)). groups ++ groups_of_waiting c.args.catalog.now c.args.waiting.now.items)
    c.go_on_in_entries.ensures.groups

pub returns-in_err-reached-in-Entries-clause-groups : goal.returns-in_err-reached-in-Entries-clause-groups
returns-in_err-reached-in-Entries-clause-groups c =
    ap (λ (groups : List (List Member)). groups ++ groups_of_waiting c.args.catalog.now c.args.waiting.now.items)
    c.go_on_in_entries.ensures.groups

pub returns-in_ok-choose_group-in-Groups-clause-groups : goal.returns-in_ok-choose_group-in-Groups-clause-groups
returns-in_ok-choose_group-in-Groups-clause-groups c =
    let current = c.args.current.now in
    let catalog = c.args.catalog.now in
    c.in_ok-choose_group-in-Groups.ensures.ok catalog
    ∙ sym (λ i. groups_with catalog current.members.items (groups_in catalog (c.in-Groups.is i))
    current.later.items ++ groups_of_waiting catalog c.args.waiting.now.items)

pub returns-in_ok-choose_group-in-Groups-clause-reaches : goal.returns-in_ok-choose_group-in-Groups-clause-reaches
returns-in_ok-choose_group-in-Groups-clause-reaches c =
    let catalog = c.args.catalog.now in
    let behind = later_steps catalog c.args.current.now.later.items in
    let before : place_steps catalog c.args.current.now.next behind
    ≡ groups_steps (order_steps c.in-Groups.levels catalog) catalog c.in-Groups.groups.now behind =
    λ i. place_steps catalog (c.in-Groups.is i) behind in
    omega (arith, before, c.in_ok-choose_group-in-Groups.ensures.steps catalog)
