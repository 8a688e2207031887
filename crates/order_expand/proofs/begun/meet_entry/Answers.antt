use Rattle.std.proofs.Common.{◌∙◌, ap, refl, List, arith}
use Rattle.bp_docs.specs.declared.descriptor.Body.TheVariants.{Component, Composite}
use Rattle.bp_docs.specs.declared.descriptor.Descriptor.{Descriptor}
use Rattle.std.specs.Prelude.{Option}
use Rattle.order_expand.specs.declared.member.Member.{Member}
use Rattle.order_expand.specs.Begun.{groups_with}
use Rattle.order_expand.specs.Groups.{named, raw_groups, expanded, in_front_of}
use Rattle.order_expand.specs.Steps.{entries_steps, order_steps, later_steps}
use Rattle.order_expand.proofs.Choices.{component_met, composite_met, foreign_met, steps_met}
use Rattle.order_expand.proofs.begun.meet_entry.Goals as goal

pub returns-in-None-clause-ok : goal.returns-in-None-clause-ok
returns-in-None-clause-ok c =
    let begun = c.args.begun.now in
    let catalog = c.args.catalog.now in
    let raw = raw_groups c.args.levels catalog in
    ap (λ (o : Option Descriptor). groups_with catalog begun.members.items
    (in_front_of raw c.args.entry.now o (expanded raw catalog c.args.behind.now)) begun.later.items)
    c.in-None.ensures.named

pub returns-in_ok-add_member-in-Component-clause-ok : goal.returns-in_ok-add_member-in-Component-clause-ok
returns-in_ok-add_member-in-Component-clause-ok c =
    let begun = c.args.begun.now in
    let catalog = c.args.catalog.now in
    let raw = raw_groups c.args.levels catalog in
    let entry = c.args.entry.now in
    c.in_ok-add_member-in-Component.ensures.ok catalog
    ∙ ap (λ (groups : List (List Member)). groups_with catalog begun.members.items groups begun.later.items)
    (component_met raw entry (named catalog entry)
    (record { descriptor = c.in-Some.found.descriptor; optional = entry.optional }) c.in-Component.clear_env
    c.in-Component.targets (expanded raw catalog c.args.behind.now) c.in-Some.ensures.named c.in-Component.is
    refl)

pub returns-in_ok-add_member-in-Component-clause-steps : goal.returns-in_ok-add_member-in-Component-clause-steps
returns-in_ok-add_member-in-Component-clause-steps c =
    let catalog = c.args.catalog.now in
    let steps = order_steps c.args.levels catalog in
    let behind = entries_steps steps catalog c.args.behind.now (later_steps catalog c.args.begun.now.later.items) in
    let met = steps_met steps (named catalog c.args.entry.now) c.in-Some.found.descriptor.now
    (Component c.in-Component.clear_env c.in-Component.targets) behind c.in-Some.ensures.named
    c.in-Component.is in
    omega (arith, met, c.in_ok-add_member-in-Component.ensures.steps catalog)

pub returns-in_ok-open_order-in-Composite-clause-ok : goal.returns-in_ok-open_order-in-Composite-clause-ok
returns-in_ok-open_order-in-Composite-clause-ok c =
    let begun = c.args.begun.now in
    let catalog = c.args.catalog.now in
    let raw = raw_groups c.args.levels catalog in
    let entry = c.args.entry.now in
    c.in_ok-open_order-in-Composite.ensures.ok catalog
    ∙ ap (λ (groups : List (List Member)). groups_with catalog begun.members.items groups begun.later.items)
    (composite_met raw entry (named catalog entry) c.in-Some.found.descriptor.now c.in-Composite.order
    (expanded raw catalog c.args.behind.now) c.in-Some.ensures.named c.in-Composite.is)

pub returns-in_ok-open_order-in-Composite-clause-steps : goal.returns-in_ok-open_order-in-Composite-clause-steps
returns-in_ok-open_order-in-Composite-clause-steps c =
    let catalog = c.args.catalog.now in
    let steps = order_steps c.args.levels catalog in
    let behind = entries_steps steps catalog c.args.behind.now (later_steps catalog c.args.begun.now.later.items) in
    let met = steps_met steps (named catalog c.args.entry.now) c.in-Some.found.descriptor.now
    (Composite c.in-Composite.order) behind c.in-Some.ensures.named c.in-Composite.is in
    omega (arith, met, c.in_ok-open_order-in-Composite.ensures.steps catalog)

pub returns-in-Foreign-clause-ok : goal.returns-in-Foreign-clause-ok
returns-in-Foreign-clause-ok c =
    let begun = c.args.begun.now in
    let catalog = c.args.catalog.now in
    let raw = raw_groups c.args.levels catalog in
    let entry = c.args.entry.now in
    ap (λ (groups : List (List Member)). groups_with catalog begun.members.items groups begun.later.items)
    (foreign_met raw entry (named catalog entry) c.in-Some.found.descriptor.now c.in-Foreign.field-0
    (expanded raw catalog c.args.behind.now) c.in-Some.ensures.named c.in-Foreign.is)
