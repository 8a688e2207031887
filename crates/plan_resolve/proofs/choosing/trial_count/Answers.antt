use Rattle.std.proofs.Common.{◌≡◌, ◌<◌, ◌*◌, length, take, ap, sym, ◌∙◌, arith}
use Rattle.plan_resolve.specs.Choices.{choice_count}
use Rattle.plan_resolve.proofs.ChoiceLemmas.{count_more, too_many}
use Rattle.plan_resolve.proofs.choosing.trial_count.Goals as goal

pub returns-in_default : goal.returns-in_default
returns-in_default c =
    let options = c.row-item.result.options in
    let product : c.in-Some.product ≡ c.loop-row.count * length options = rw c.as_slice.ensures at
    c.in-Some.ensures.1 in
    let many : 65536 < choice_count (take c.loop-row.row-index c.args.rows.now) * length options =
    rw (← c.loop-row.invariant.1) (omega (arith, product)) in
    too_many c.args.rows.now c.loop-row.row-index c.row-item.result c.loop-row-test.true c.row-item.is c.requires many

pub returns-in_default-2 : goal.returns-in_default-2
returns-in_default-2 c =
    let options = c.row-item.result.options in
    let past : c.loop-row.count * length options < 18446744073709551616
    → ⊥ = rw c.as_slice.ensures at c.in_default.ensures in
    let many : 65536 < choice_count (take c.loop-row.row-index c.args.rows.now) * length options =
    rw (← c.loop-row.invariant.1) (omega (arith, past)) in
    too_many c.args.rows.now c.loop-row.row-index c.row-item.result c.loop-row-test.true c.row-item.is c.requires many

pub loop-row-preserved : goal.loop-row-preserved
loop-row-preserved c =
    let product : c.in-Some.product ≡ c.loop-row.count * length c.row-item.result.options = rw c.as_slice.ensures
    at c.in-Some.ensures.1 in (
      omega arith,
      product ∙ (ap (λ n. n * length c.row-item.result.options) c.loop-row.invariant.1
          ∙ sym (count_more c.args.rows.now c.loop-row.row-index c.row-item.result c.loop-row-test.true c.row-item.is)),
    )
