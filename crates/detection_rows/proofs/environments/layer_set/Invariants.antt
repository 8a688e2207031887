use Rattle.std.specs.List.{All}
use Rattle.cnb_env.specs.Layers.{IsShort}
use Rattle.detection_rows.proofs.environments.layer_set.Given as goal

abbrev pub invariant-loop-word : goal.invariant-loop-word
invariant-loop-word l = All IsShort l.layers
