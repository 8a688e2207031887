use Rattle.std.proofs.Common.{List, Result, drop}
use Rattle.cnb_world.specs.declared.env.Variable.{Variable}
use Rattle.steps.specs.Outside.{Seen, seen}
use Rattle.cnb_launch.specs.Exec.{runs_all}
use Rattle.cnb_launch.specs.declared.fault.LaunchFault.{LaunchFault}
use Rattle.cnb_launch.proofs.exec.run_all.Given as goal

abbrev pub invariant-loop-paths : goal.invariant-loop-paths
invariant-loop-paths g l = record {
  left : (result : Result (List Variable) LaunchFault) (new : Seen)
      → runs_all l.dir (drop l.paths-index l.lists) l.env (seen g.W.World l.world) result new
      → runs_all l.dir l.lists l.initial.env (seen g.W.World l.initial.world) result new;
}
