use Rattle.std.proofs.Common.{List, [], drop, Result}
use Rattle.app_slices.specs.declared.item.Item.{Item}
use Rattle.steps.specs.Each.{for_each}
use Rattle.steps.specs.Outside.{Seen}
use Rattle.cnb_layers.specs.declared.fault.ExportFault.{ExportFault}
use Rattle.cnb_layers.specs.Patterns.{adds_pattern}
use Rattle.cnb_layers.proofs.patterns.parse_all.Given as goal

-- the texts from here on are the rest of all
abbrev pub invariant-loop-text : goal.invariant-loop-text
invariant-loop-text l =
    (outside : Seen) (result : Result (List (List Item)) ExportFault)
    → for_each (adds_pattern l.id) (drop l.text-index l.texts) l.patterns outside result outside
    → for_each (adds_pattern l.id) l.texts [] outside result outside
