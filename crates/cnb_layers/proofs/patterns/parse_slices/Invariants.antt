use Rattle.std.proofs.Common.{[], drop, Result}
use Rattle.app_slices.specs.Slots.{Slices}
use Rattle.steps.specs.Each.{for_each}
use Rattle.steps.specs.Outside.{Seen}
use Rattle.cnb_layers.specs.declared.fault.ExportFault.{ExportFault}
use Rattle.cnb_layers.specs.Patterns.{adds_slice}
use Rattle.cnb_layers.proofs.patterns.parse_slices.Given as goal

-- the slices from here on are the rest of all
abbrev pub invariant-loop-texts : goal.invariant-loop-texts
invariant-loop-texts l =
    (outside : Seen) (result : Result Slices ExportFault) → for_each (adds_slice l.id)
    (drop l.texts-index l.slices) l.all outside result outside
    → for_each (adds_slice l.id) l.slices [] outside result outside
