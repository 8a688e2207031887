use Rattle.std.proofs.Common.{◌∙◌, ap}
use Rattle.std.specs.Prelude.{min}
use Rattle.order_expand.proofs.Sizes.{none_with_member, some_with_member}
use Rattle.order_expand.proofs.size.Size.with_member.Goals as goal

pub returns-then-self-eq0 : goal.returns-then-self-eq0
returns-then-self-eq0 c groups member e = none_with_member c.args.self groups member e c.if-self-eq0.true

pub returns : goal.returns
returns c groups member e = some_with_member c.args.self groups member c.min.result e c.if-self-eq0.false
    (c.min.ensures ∙ ap (λ n. min 257 n) c.saturating_add.ensures)
