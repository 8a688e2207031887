use Rattle.std.proofs.Common.{◌≡◌, map, take}
use Rattle.cnb_layers.specs.Gathering.{layer_of}
use Rattle.cnb_export.proofs.image.layers.Given as goal

abbrev pub invariant-loop-layer : goal.invariant-loop-layer
invariant-loop-layer l = l.rows ≡ map layer_of (take l.layer-index l.layers)
