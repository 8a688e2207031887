use Rattle.std.proofs.Common.{◌≡◌, map, take}
use Rattle.cnb_export.specs.Processes.{link_of}
use Rattle.cnb_export.proofs.processes.links.Given as goal

abbrev pub invariant-loop-process : goal.invariant-loop-process
invariant-loop-process l = l.links ≡ map link_of (take l.process-index l.processes)
