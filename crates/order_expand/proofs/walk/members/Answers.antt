use Rattle.std.proofs.Common.{◌∙◌}
use Rattle.order_expand.proofs.Distinct.{done_push}
use Rattle.order_expand.proofs.walk.members.Goals as goal

pub loop-chosen-preserved : goal.loop-chosen-preserved
loop-chosen-preserved c = (
  c.in_ok-add_unless_met.ensures.members
      ∙ done_push c.args.group.now c.loop-chosen.chosen-index c.chosen-item.result c.loop-chosen.members
      c.loop-chosen-test.true c.chosen-item.is c.loop-chosen.invariant.0,
  c.in_ok-add_unless_met.ensures.prints,
)
