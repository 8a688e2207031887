use Rattle.std.proofs.Common.{◌≡◌, ◌∙◌, ap, [], ◌∷◌, ◌++◌, arith}
use Rattle.order_expand.specs.Catalog.{has_key}
use Rattle.cnb_drill.specs.Buildpacks.{component}
use Rattle.cnb_drill.specs.Order.{columns_below, drill_catalog}
use Rattle.cnb_drill.proofs.BuildpackLemmas.{new_tail}
use Rattle.cnb_drill.proofs.catalog.catalog.Goals as goal

pub add_component-requires : goal.add_component-requires
add_component-requires c =
    let four : c.loop-column.column ≡ 4 = omega arith in
    (λ i. has_key ((c.loop-column.invariant ∙ ap columns_below four) i) (c.in_ok-key.ensures i)) ∙ new_tail

pub returns : goal.returns
unfolding drill_catalog
returns c =
    let four : c.loop-column.column ≡ 4 = omega arith in
    c.in_ok-add_component.ensures ∙ (λ i. (c.loop-column.invariant ∙ ap columns_below four) i
    ++ component (c.in_ok-key.ensures i) ∷ [])
