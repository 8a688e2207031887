use Rattle.std.proofs.Common.{drop, IsTrue, Result}
use Rattle.std.specs.List.{All}
use Rattle.cnb_env.specs.Layers.{AreShort}
use Rattle.run_docs.specs.Plan.{is_plan_doc}
use Rattle.steps.specs.Each.{for_each}
use Rattle.steps.specs.Outside.{Seen, seen}
use Rattle.cnb_build.specs.declared.fault.BuildFault.{BuildFault}
use Rattle.cnb_build.specs.declared.frame.Built.{Built}
use Rattle.cnb_build.specs.Builds.{builds_one, nothing_built}
use Rattle.cnb_build.proofs.group.build_rows.Given as goal

-- the builds from here on are the rest of all
abbrev pub invariant-loop-row : goal.invariant-loop-row
invariant-loop-row g l = record {
  step : (result : Result Built BuildFault) (new : Seen) → for_each (builds_one l.frame l.base)
      (drop l.row-index l.group) l.built (seen g.W.World l.world) result new
      → for_each (builds_one l.frame l.base) l.group (nothing_built l.fn.plan)
      (seen g.W.World l.initial.world) result new;
  kept : IsTrue (is_plan_doc l.built.pending);
  short : All AreShort l.built.done;
}
