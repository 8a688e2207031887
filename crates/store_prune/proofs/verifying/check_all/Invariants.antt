use Rattle.std.proofs.Common.{Result, drop}
use Rattle.steps.specs.Each.{for_each}
use Rattle.steps.specs.Outside.{Seen, seen}
use Rattle.store_prune.specs.Verifies.{checks_next}
use Rattle.store_prune.specs.declared.fault.VerifyFault.{VerifyFault}
use Rattle.store_prune.proofs.verifying.check_all.Given as goal

-- the trees from here on are the rest of all
abbrev pub invariant-loop-digest : goal.invariant-loop-digest
invariant-loop-digest g l = record {
  left : (result : Result (Unit {0}) VerifyFault) (new : Seen)
      → for_each (checks_next l.store) (drop l.digest-index l.digests) tt (seen g.W.World l.world) result new
      → for_each (checks_next l.store) l.digests tt (seen g.W.World l.initial.world) result new;
}
