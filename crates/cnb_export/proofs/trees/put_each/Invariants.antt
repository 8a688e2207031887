use Rattle.std.proofs.Common.{ℕ, List, [], drop, length, Result}
use Rattle.steps.specs.Each.{for_each}
use Rattle.steps.specs.Outside.{Seen, seen}
use Rattle.cnb_layers.specs.declared.fault.ExportFault.{ExportFault}
use Rattle.cnb_export.specs.Trees.{puts_part}
use Rattle.cnb_export.proofs.trees.put_each.Given as goal

-- the trees from here on are the rest of all
abbrev pub invariant-loop-tree : goal.invariant-loop-tree
invariant-loop-tree g l =
    (result : Result (List (List ℕ)) ExportFault) (new : Seen)
    → for_each (puts_part l.store) (drop (length l.yielded) l.fn.trees) l.digests
    (seen g.W.World l.world) result new
    → for_each (puts_part l.store) l.fn.trees [] (seen g.W.World l.initial.world) result new
