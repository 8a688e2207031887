use Rattle.std.proofs.Common.{◌∙◌, ap}
use Rattle.std.specs.Prelude.{min}
use Rattle.order_expand.proofs.Sizes.{none_of_fronts, none_of_behind, product_size}
use Rattle.order_expand.proofs.size.Size.times.Goals as goal
use Rattle.order_expand.proofs.size.Size.times.Goals.{then-self-eq0-via-then-self-eq0}
use Rattle.order_expand.proofs.size.Size.times.Goals.{then-self-eq0-via-else-self-eq0+then-behind-eq0}

pub returns-then-self-eq0 : goal.returns-then-self-eq0
returns-then-self-eq0 c fronts groups e f =
    elim c.then-self-eq0.branch [
      | then-self-eq0-via-then-self-eq0 w ↦ c.of_none.ensures
          ∙ none_of_fronts c.args.self fronts groups e w.if-self-eq0.true
      | then-self-eq0-via-else-self-eq0+then-behind-eq0 w ↦ c.of_none.ensures
          ∙ none_of_behind c.args.behind fronts groups f w.if-behind-eq0.true
    ]

pub returns : goal.returns
returns c fronts groups e f =
    product_size c.args.self c.args.behind fronts groups c.min.result c.min-2.result e f c.if-self-eq0.false
    c.if-behind-eq0.false
    (c.min.ensures ∙ ap (λ n. min 4097 n) c.saturating_mul.ensures)
    (c.min-2.ensures ∙ ap (λ n. min 257 n) c.saturating_add.ensures)
