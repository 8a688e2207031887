use Rattle.std.proofs.Common.{◌∙◌, sym, ap, [], ◌∷◌, ◌++◌, append-nil, arith}
use Rattle.order_expand.specs.Catalog.{has_key}
use Rattle.cnb_drill.specs.Buildpacks.{component, component_key, composite}
use Rattle.cnb_drill.specs.Order.{columns_below}
use Rattle.cnb_drill.proofs.BuildpackLemmas.{columns-next, new_component, new_composite}
use Rattle.cnb_drill.proofs.ListLemmas.{pushed, all_pushed}
use Rattle.cnb_drill.proofs.catalog.add_column.Goals as goal

pub add-requires : goal.add-requires
add-requires c = (λ i. has_key (c.requires.before i) (c.in_ok-own.ensures i).key)
    ∙ new_composite c.args.column c.requires.column

pub loop-digit-init : goal.loop-digit-init
loop-digit-init c =
    c.in_ok-add.ensures ∙ ((λ i. c.requires.before i ++ c.in_ok-own.ensures i ∷ [])
    ∙ sym (append-nil (columns_below c.args.column ++ composite c.args.column ∷ [])))

pub add_component-requires : goal.add_component-requires
add_component-requires c =
    (λ i. has_key (c.loop-digit.invariant i) (c.in_ok-key.ensures i))
    ∙ new_component c.args.column c.loop-digit.digit c.requires.column c.loop-digit-test.true

pub loop-digit-preserved : goal.loop-digit-preserved
loop-digit-preserved c =
    pushed (λ digit. component (component_key c.args.column digit))
    (columns_below c.args.column ++ composite c.args.column ∷ []) c.loop-digit.digit c.loop-digit.catalog
    c.add_component.new.catalog (component c.in_ok-key.key) c.loop-digit.invariant
    (ap component c.in_ok-key.ensures) c.in_ok-add_component.ensures

pub returns : goal.returns
returns c =
    all_pushed (λ digit. component (component_key c.args.column digit))
    (columns_below c.args.column ++ composite c.args.column ∷ []) c.loop-digit.digit 8 c.loop-digit.catalog
    (omega arith) (omega arith) c.loop-digit.invariant
    ∙ columns-next c.args.column
