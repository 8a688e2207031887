use Rattle.std.proofs.Common.{◌∙◌, ◌<◌, sym, ap, length, arith}
use Rattle.std.specs.Prelude.{codes, nat_eq}
use Rattle.std.specs.List.{starts_with}
use Rattle.std.proofs.lemmas.List.{take_all}
use Rattle.cnb_world.specs.Env.{with_value}
use Rattle.cnb_env.specs.Base.{base_env}
use Rattle.cnb_env.proofs.BaseLemmas.{own_variable, other_variable}
use Rattle.cnb_env.proofs.base.base_env.Goals as goal
use Rattle.cnb_env.proofs.base.base_env.Goals.{then-not-starts_with+in_ok-value+in_ok-copy+in_ok-set}
use Rattle.cnb_env.proofs.base.base_env.Goals.{else-not-starts_with}

pub returns : goal.returns
returns c = c.loop-place.invariant ∙ ap base_env (take_all c.loop-place.place c.args.env.now (omega arith))

pub loop-place-preserved : goal.loop-place-preserved
loop-place-preserved c =
    let lt : c.loop-place.place < length c.args.env.now = omega arith in
    let bytes = c.starts_with.ensures.value ∙ ap (λ name. starts_with nat_eq name (codes "CNB_"))
    (c.as_bytes.ensures.value ∙ c.as_str.ensures) in
    elim c.if-not-starts_with.branch [
      | then-not-starts_with+in_ok-value+in_ok-copy+in_ok-set w ↦
          w.base-is ∙ (w.in_ok-set.ensures.ok ∙ ((λ i. with_value (w.in_ok-copy.ensures i)
          (w.in_ok-value.ensures i) c.loop-place.base)
          ∙ other_variable c.args.env.now c.loop-place.base c.loop-place.place c.name-name.result.now
          w.value.result.now c.len-place-end.ensures.ascending lt
          c.name-name.ensures w.value.ensures (sym bytes ∙ w.if-not-starts_with.true) c.loop-place.invariant))
      | else-not-starts_with w ↦
          w.base-is ∙ own_variable c.args.env.now c.loop-place.base c.loop-place.place c.name-name.result.now lt
          c.name-name.ensures (sym bytes ∙ w.if-not-starts_with.false) c.loop-place.invariant
    ]
