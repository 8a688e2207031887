use Rattle.std.proofs.Common.{Result, drop}
use Rattle.steps.specs.Each.{for_each}
use Rattle.steps.specs.Outside.{Seen, seen}
use Rattle.cnb_launch.specs.Unpacking.{lays_row}
use Rattle.cnb_launch.specs.declared.fault.LaunchFault.{LaunchFault}
use Rattle.cnb_launch.proofs.unpacking.lay_rows.Given as goal

abbrev pub invariant-loop-row : goal.invariant-loop-row
invariant-loop-row g l = record {
  left : (result : Result (Unit {0}) LaunchFault) (new : Seen)
      → for_each (lays_row l.store l.root) (drop l.row-index l.rows) tt (seen g.W.World l.world) result new
      → for_each (lays_row l.store l.root) l.rows tt (seen g.W.World l.initial.world) result new;
}
