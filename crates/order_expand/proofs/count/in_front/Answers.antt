use Rattle.std.proofs.Common.{◌≡◌, ◌∙◌, ap}
use Rattle.bp_docs.specs.declared.descriptor.Body.{Body}
use Rattle.bp_docs.specs.declared.descriptor.Descriptor.{Descriptor}
use Rattle.order_expand.specs.Check.{order_of_body}
use Rattle.order_expand.specs.Groups.{named, raw_groups}
use Rattle.order_expand.specs.Sizes.{size_of}
use Rattle.order_expand.proofs.Tables.{in_table, component_in_front, composite_in_front}
use Rattle.order_expand.proofs.count.in_front.Goals as goal

pub returns-in-Component : goal.returns-in-Component
returns-in-Component c levels groups e f =
    component_in_front (raw_groups levels c.args.catalog.now) c.args.entry.now
    (named c.args.catalog.now c.args.entry.now) c.in-Some.found.descriptor.now c.in-Component.clear_env
    c.in-Component.targets groups c.with_member.result
    c.in-Some.ensures.named c.in-Component.is (λ member. c.with_member.ensures groups member f)

pub returns-in-Composite : goal.returns-in-Composite
returns-in-Composite c levels groups e f =
    let raw = raw_groups levels c.args.catalog.now in
    let order = c.in-Composite.field-0 in
    let fronts : c.at-fronts.result ≡ size_of (raw order) =
    in_table (λ (descriptor : Descriptor). size_of (raw (order_of_body descriptor.body))) c.args.below.now
    c.args.catalog.now c.in-Some.found.place c.in-Some.found.descriptor.now c.at-fronts.result
    e c.in-Some.ensures.place c.at-fronts.ensures
    ∙ ap (λ (body : Body). size_of (raw (order_of_body body))) c.in-Composite.is in
    composite_in_front raw c.args.entry.now (named c.args.catalog.now c.args.entry.now)
    c.in-Some.found.descriptor.now order groups c.with_composite.result
    c.in-Some.ensures.named c.in-Composite.is (c.with_composite.ensures (raw order) groups fronts f)
