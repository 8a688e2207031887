use Rattle.std.proofs.Common.{◌≡◌, take}
use Rattle.std.specs.Option.{option_copied}
use Rattle.cnb_export.specs.Processes.{default_of}
use Rattle.cnb_export.proofs.processes.default_of.Given as goal

abbrev pub invariant-loop-process : goal.invariant-loop-process
invariant-loop-process l = option_copied l.default ≡ default_of (take l.process-index l.processes)
