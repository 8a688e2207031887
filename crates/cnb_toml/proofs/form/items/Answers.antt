use Rattle.std.proofs.Common.{arith, ◌∙◌, ◌<◌, length, ap}
use Rattle.cnb_toml.proofs.Items.{read_on-ok}
use Rattle.cnb_toml.proofs.form.items.Goals as goal

pub loop-place-preserved : goal.loop-place-preserved
loop-place-preserved g c =
    let values = c.args.values.now.items in
    let same = c.deref-value-items.ensures.value in
    let inside : c.loop-place.place < length values = omega (arith, ap length same) in
    rw c.in_ok-push.ensures.ok (read_on-ok g.F.Form.value_of c.loop-place.items c.loop-place.place values
    c.value-item.result c.in_ok-item.field-0 inside (rw same at c.value-item.is) c.in_ok-item.ensures
    ∙ c.loop-place.invariant)
