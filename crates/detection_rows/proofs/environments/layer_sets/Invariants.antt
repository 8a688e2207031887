use Rattle.std.specs.List.{All}
use Rattle.cnb_env.specs.Layers.{AreShort}
use Rattle.detection_rows.proofs.environments.layer_sets.Given as goal

abbrev pub invariant-loop-line : goal.invariant-loop-line
invariant-loop-line l = All AreShort l.sets
