use Rattle.std.proofs.Common.{List, Result, drop}
use Rattle.cnb_world.specs.declared.env.Variable.{Variable}
use Rattle.steps.specs.Outside.{Seen, seen}
use Rattle.cnb_launch.specs.Exec.{runs_execs}
use Rattle.cnb_launch.specs.declared.fault.LaunchFault.{LaunchFault}
use Rattle.cnb_launch.proofs.exec.run_execs.Given as goal

abbrev pub invariant-loop-path : goal.invariant-loop-path
invariant-loop-path g l = record {
  left : (result : Result (List Variable) LaunchFault) (new : Seen)
      → runs_execs l.dir (drop l.path-index l.paths) l.env (seen g.W.World l.world) result new
      → runs_execs l.dir l.paths l.initial.env (seen g.W.World l.initial.world) result new;
}
