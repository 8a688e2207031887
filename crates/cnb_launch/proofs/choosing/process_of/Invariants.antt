use Rattle.std.proofs.Common.{◌≡◌, drop}
use Rattle.cnb_launch.specs.Choosing.{process_of}
use Rattle.cnb_launch.proofs.choosing.process_of.Given as goal

abbrev pub invariant-loop-process : goal.invariant-loop-process
invariant-loop-process l = process_of l.kind (drop l.process-index l.processes) ≡ process_of l.kind l.processes
