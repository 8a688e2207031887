use Rattle.std.proofs.Common.{drop, ℕ, List, [], Result}
use Rattle.cnb_env.specs.Layers.{AreShort}
use Rattle.steps.specs.Each.{for_each}
use Rattle.steps.specs.Outside.{Seen, seen}
use Rattle.cnb_build.specs.declared.fault.BuildFault.{BuildFault}
use Rattle.cnb_build.specs.Layers.{reads_layer}
use Rattle.cnb_build.proofs.layers.read_each.Given as goal

-- the layers from here on are the rest of all
abbrev pub invariant-loop-layer : goal.invariant-loop-layer
invariant-loop-layer g l = record {
  step : (result : Result (List (List ℕ)) BuildFault) (new : Seen)
      → for_each (reads_layer l.folder) (drop l.layer-index l.layers) l.found (seen g.W.World l.world) result new
      → for_each (reads_layer l.folder) l.layers [] (seen g.W.World l.initial.world) result new;
  short : AreShort l.found;
}
