use Rattle.std.proofs.Common.{sym, subst}
use Rattle.std.specs.List.{All}
use Rattle.std.proofs.lemmas.List.Elements.{All-push}
use Rattle.cnb_env.specs.Layers.{AreShort}
use Rattle.detection_rows.proofs.environments.layer_sets.Goals as goal

pub loop-line-preserved : goal.loop-line-preserved
loop-line-preserved c =
    subst (All AreShort) (sym c.in_ok-push.ensures.ok)
    (All-push AreShort c.loop-line.sets c.in_ok-layer_set.field-0 c.loop-line.invariant c.in_ok-layer_set.ensures)
