use Rattle.std.proofs.Common.{ℕ, List, [], Result, drop}
use Rattle.steps.specs.Each.{for_each}
use Rattle.steps.specs.Outside.{Seen, seen}
use Rattle.store_prune.specs.Trees.{adds_tree}
use Rattle.store_prune.specs.declared.fault.PruneFault.{PruneFault}
use Rattle.store_prune.proofs.trees.add_trees.Given as goal

-- the names from here on are the rest of all
abbrev pub invariant-loop-name : goal.invariant-loop-name
invariant-loop-name g l = record {
  left : (result : Result (List (List ℕ)) PruneFault) (new : Seen)
      → for_each (adds_tree l.store) (drop l.name-index l.names) l.trees (seen g.W.World l.world) result new
      → for_each (adds_tree l.store) l.names [] (seen g.W.World l.initial.world) result new;
}
