use Rattle.std.proofs.Common.{◌∙◌, ap}
use Rattle.std.specs.Prelude.{min}
use Rattle.order_expand.proofs.Sizes.{both_sizes}
use Rattle.order_expand.proofs.size.Size.plus.Goals as goal

pub returns : goal.returns
returns c groups others e f = both_sizes c.args.self c.args.other groups others c.min.result c.max.result e f
    (c.min.ensures ∙ ap (λ n. min 4097 n) c.saturating_add.ensures) c.max.ensures
