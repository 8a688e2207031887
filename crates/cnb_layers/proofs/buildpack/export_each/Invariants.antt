use Rattle.std.proofs.Common.{drop, Result}
use Rattle.steps.specs.Each.{for_each}
use Rattle.steps.specs.Outside.{Seen, seen}
use Rattle.cnb_layers.specs.declared.gathered.Gathered.{Gathered}
use Rattle.cnb_layers.specs.declared.fault.ExportFault.{ExportFault}
use Rattle.cnb_layers.specs.Gathering.{exports_layer}
use Rattle.cnb_layers.proofs.buildpack.export_each.Given as goal

-- the layers from here on are the rest of all
abbrev pub invariant-loop-layer : goal.invariant-loop-layer
invariant-loop-layer g l =
    (result : Result Gathered ExportFault) (new : Seen) → for_each
    (exports_layer l.frame.store.now l.frame.previous.now l.frame.id.now l.frame.folder.now)
    (drop l.layer-index l.layers) l.all (seen g.W.World l.world) result new
    → for_each (exports_layer l.frame.store.now l.frame.previous.now l.frame.id.now l.frame.folder.now) l.layers
    l.fn.gathered (seen g.W.World l.initial.world) result new
