use Rattle.std.proofs.Common.{drop, Result}
use Rattle.steps.specs.Each.{for_each}
use Rattle.steps.specs.Outside.{Seen, seen}
use Rattle.cnb_layers.specs.declared.gathered.Gathered.{Gathered}
use Rattle.cnb_layers.specs.declared.fault.ExportFault.{ExportFault}
use Rattle.cnb_layers.specs.Buildpack.{exports_buildpack}
use Rattle.cnb_layers.specs.Gathering.{nothing_gathered}
use Rattle.cnb_layers.proofs.buildpack.export_group.Given as goal

-- the buildpacks from here on are the rest of all
abbrev pub invariant-loop-row : goal.invariant-loop-row
invariant-loop-row g l =
    (result : Result Gathered ExportFault) (new : Seen) → for_each (exports_buildpack l.frame l.previous)
    (drop l.row-index l.group) l.all (seen g.W.World l.world) result new
    → for_each (exports_buildpack l.frame l.previous) l.group nothing_gathered
    (seen g.W.World l.initial.world) result new
