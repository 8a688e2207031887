use Rattle.std.proofs.Common.{ℕ, List, Result, drop}
use Rattle.cnb_world.specs.Calls.{AreNames}
use Rattle.steps.specs.Each.{for_each}
use Rattle.steps.specs.Outside.{Seen, seen}
use Rattle.store_prune.specs.Named.{adds_name}
use Rattle.store_prune.specs.declared.fault.PruneFault.{PruneFault}
use Rattle.store_prune.proofs.documents.add_names.Given as goal

-- the names from here on are the rest of all
abbrev pub invariant-loop-name : goal.invariant-loop-name
invariant-loop-name g l = record {
  names : AreNames (drop l.name-index l.names);
  left : (result : Result (List (List ℕ)) PruneFault) (new : Seen)
      → for_each (adds_name g.D.TableForm.value_in g.D.NamesTrees.digests_of l.folder)
      (drop l.name-index l.names) l.named (seen g.W.World l.world) result new
      → for_each (adds_name g.D.TableForm.value_in g.D.NamesTrees.digests_of l.folder) l.names l.initial.named
      (seen g.W.World l.initial.world) result new;
}
