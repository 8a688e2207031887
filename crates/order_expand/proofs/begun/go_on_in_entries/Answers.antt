use Rattle.std.proofs.Common.{◌≡◌, ◌∙◌, sym, ap, List, arith}
use Rattle.std.proofs.lemmas.List.{nil_from_length}
use Rattle.bp_docs.specs.declared.descriptor.Entry.{Entry}
use Rattle.order_expand.specs.Begun.{groups_in, groups_with}
use Rattle.order_expand.specs.Groups.{raw_groups, expanded}
use Rattle.order_expand.specs.Steps.{place_steps, entries_steps, order_steps, later_steps}
use Rattle.order_expand.proofs.Choices.{at_end}
use Rattle.order_expand.proofs.begun.go_on_in_entries.Goals as goal

pub go_back-requires : goal.go_back-requires
go_back-requires c = at_end c.args.current.now.next c.args.levels c.args.entries c.requires
    (nil_from_length c.args.entries.now c.in-None.ensures.cases)

pub returns-in_ok-meet_entry-in-Some-clause-groups : goal.returns-in_ok-meet_entry-in-Some-clause-groups
returns-in_ok-meet_entry-in-Some-clause-groups c =
    let current = c.args.current.now in
    let catalog = c.args.catalog.now in
    c.in_ok-meet_entry-in-Some.ensures.ok
    ∙ sym ((λ i. groups_with catalog current.members.items (groups_in catalog (c.requires i)) current.later.items)
    ∙ ap (λ (entries : List Entry). groups_with catalog current.members.items
    (expanded (raw_groups c.args.levels catalog) catalog entries) current.later.items)
    c.in-Some.ensures.cases.0)

pub returns-in_ok-meet_entry-in-Some-clause-reaches : goal.returns-in_ok-meet_entry-in-Some-clause-reaches
returns-in_ok-meet_entry-in-Some-clause-reaches c waiting =
    let catalog = c.args.catalog.now in
    let behind = later_steps catalog c.args.current.now.later.items in
    let steps = order_steps c.args.levels catalog in
    let before : place_steps catalog c.args.current.now.next behind
    ≡ entries_steps steps catalog c.args.entries.now behind =
    λ i. place_steps catalog (c.requires i) behind in
    let all = ap (λ (entries : List Entry). entries_steps steps catalog entries behind) c.in-Some.ensures.cases.0 in
    omega (arith, before, all, c.in_ok-meet_entry-in-Some.ensures.steps)
