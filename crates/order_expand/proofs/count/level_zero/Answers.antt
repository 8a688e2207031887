use Rattle.std.proofs.Common.{[], map, ◌∙◌, ap, arith}
use Rattle.bp_docs.specs.declared.descriptor.Descriptor.{Descriptor}
use Rattle.std.proofs.lemmas.List.{take_all}
use Rattle.order_expand.specs.Sizes.{size_of}
use Rattle.order_expand.proofs.Levels.{sizes_at-zero}
use Rattle.order_expand.proofs.count.level_zero.Goals as goal

pub returns : goal.returns
returns c =
    c.loop.invariant
    ∙ (ap (map (λ (descriptor : Descriptor). size_of []))
    (take_all c.loop.index c.descriptors-items.result.now (omega arith) ∙ c.descriptors-items.ensures)
    ∙ sizes_at-zero c.args.catalog.now)
