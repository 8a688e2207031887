use Rattle.std.proofs.Common.{Result, drop}
use Rattle.steps.specs.Each.{for_each}
use Rattle.steps.specs.Outside.{Seen, seen}
use Rattle.store_prune.specs.Prunes.{removes_next}
use Rattle.store_prune.specs.declared.fault.PruneFault.{PruneFault}
use Rattle.store_prune.proofs.pruning.remove_all.Given as goal

-- the paths from here on are the rest of all
abbrev pub invariant-loop-path : goal.invariant-loop-path
invariant-loop-path g l = record {
  left : (result : Result (Unit {0}) PruneFault) (new : Seen)
      → for_each removes_next (drop l.path-index l.paths) tt (seen g.W.World l.world) result new
      → for_each removes_next l.paths tt (seen g.W.World l.initial.world) result new;
}
