use Rattle.std.proofs.Common.{◌≡◌, ◌-◌, ◌∙◌, ap, length, length-drop, arith, rules}
use Rattle.cnb_lifecycle.proofs.SinkLemmas.{adds_more}
use Rattle.cnb_lifecycle.proofs.printing.print.Goals as goal

pub loop-done-preserved : goal.loop-done-preserved
loop-done-preserved g c = record {
  within = let e : length c.behind-rest.result.now ≡ length c.args.text.now - c.loop-done.done = ap length
      c.behind-rest.ensures ∙ length-drop _ _ in omega (arith, c.in_ok-done.ensures.within, e);
  printed = adds_more _ _ _ c.loop-done.done c.in_ok-done.field-0 c.args.text.now _ c.behind-rest.ensures
      c.loop-done.invariant.printed c.in_ok-done.ensures.ok;
  count = search rules;
}
