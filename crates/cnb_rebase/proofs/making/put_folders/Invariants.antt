use Rattle.std.proofs.Common.{ℕ, drop, List, [], Result}
use Rattle.steps.specs.Each.{for_each}
use Rattle.steps.specs.Outside.{Seen, seen}
use Rattle.tree_store.specs.declared.fault.StoreFault.{StoreFault}
use Rattle.cnb_rebase.specs.Bases.{puts_next}
use Rattle.cnb_rebase.proofs.making.put_folders.Given as goal

-- the folders from here on are the rest of all
abbrev pub invariant-loop-folder : goal.invariant-loop-folder
invariant-loop-folder g l = record {
  step : (result : Result (List (List ℕ)) StoreFault) (new : Seen)
      → for_each (puts_next l.store) (drop l.folder-index l.folders) l.digests (seen g.W.World l.world) result new
      → for_each (puts_next l.store) l.folders [] (seen g.W.World l.fn.world) result new;
}
